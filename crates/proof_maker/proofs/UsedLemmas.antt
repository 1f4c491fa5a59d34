-- The entries of a proof are the triples that it uses, one for each.
use Rattle.std.proofs.Common.{◌≡◌, ◌↔◌, ℕ, zero, suc, ◌<◌, ◌≤◌, List, [], ◌∷◌, length, Contains, Some, slice_get, inl, inr, refl, sym, ap, ◌∙◌, subst, arith}
use Rattle.std.specs.List.{flat_map}
use Rattle.std.proofs.lemmas.Bool.{cases_order}
use Rattle.std.proofs.lemmas.Option.{slice_get_within}
use Rattle.tp_base.proofs.Lists.{Contains-at, at_Contains, flat_map-Contains}
use Rattle.tp_base.proofs.Rising.{Contains-none}
use Rattle.tree_sem.specs.Trees.{LabelTree}
use Rattle.simple_core.specs.declared.system.System.{System}
use Rattle.simple_core.specs.Rounds.{IsFirst}
use Rattle.proof_check.specs.declared.proofs.ProofItem.{ProofItem}
use Rattle.proof_check.specs.declared.proofs.PageItem.{PageItem}
use Rattle.proof_check.specs.declared.proofs.Proof.{Proof}
use Rattle.proof_needs.specs.Choices.{Choice, at_start, by_local, by_up, by_real, by_spawn, chosen}
use Rattle.proof_maker.specs.Needs.{setting_at, path_at, labels_at, IsChosen, triple_by, Walks, done, seen, new, named_by, entry_names, IsReason, IsItem, IsCanonical, Used, by_page, by_triple, UsesMore}
use Rattle.proof_needs.specs.Triples.{Triple, Spot, page_node, added}
use Rattle.proof_maker.proofs.ValidLemmas.{first_one}

-- what holds of each number that is walked to, and of what such a number names, holds of all that the walk numbers
pub walked_all : (names : ℕ → List ℕ) (Good : ℕ → Type 0) → ((k f : ℕ) → Good k → Contains (names k) f → Good f) → (n m : ℕ) (es : List ℕ) → Walks names n es m
    → ((e : ℕ) → Contains es e → Good e) → (k : ℕ) → n ≤ k → k < m → Good k
walked_all names Good down n m es (done p) good k le lt = absurd (omega arith)
walked_all names Good down n m es (seen p e q rest less w) good k le lt = walked_all names Good down n m rest w (λ x is. good x (later x is)) k le lt
  where
    later : (x : ℕ) → Contains rest x → Contains (e ∷ rest) x
    later x (j, within, at) = (suc j, omega arith, at)
walked_all names Good down n m es (new p e q rest first w) good k le lt =
    let here : Good e = good e (0, omega arith, refl) in
    elim (cases_order k e) [
      | inl same ↦ subst Good (sym same) here
      | inr (inl less) ↦ walked_all names Good down n e (names e) first (λ f is. down e f here is) k le less
      | inr (inr more) ↦ walked_all names Good down (suc e) m rest w (λ x is. good x (later x is)) k (omega arith) lt
    ]
  where
    later : (x : ℕ) → Contains rest x → Contains (e ∷ rest) x
    later x (j, within, at) = (suc j, omega arith, at)

module _ (s : System) (page : LabelTree) (target : ℕ) (proof : Proof) (made : IsCanonical s page target proof) where
  there_at : {X : Type 0} (xs : List X) (i : ℕ) → i < length xs → (x : X) × (slice_get xs i ≡ Some x)
  there_at [] i lt = absurd (omega arith)
  there_at (x ∷ xs) zero lt = (x, refl)
  there_at (x ∷ xs) (suc i) lt = there_at xs i (omega arith)

  -- an entry that an item names is that of its spawn
  item_names : (spot : Spot) (i : ProofItem) (item : IsItem s page target made.triples spot i) (e : ℕ) → Contains (named_by i.reason) e
      → (l : ℕ) × (c : ℕ) × IsChosen s page spot i.atom item.round (by_spawn l c) × (slice_get made.triples e ≡ Some (triple_by s page spot item.round l c))
  item_names spot i item e is = by_choice (chosen s (setting_at s page spot) (path_at s page spot) i.atom item.round) refl item.reason
    where
      by_choice : (w : Choice) → chosen s (setting_at s page spot) (path_at s page spot) i.atom item.round ≡ w → IsReason s page target made.triples spot item.round w i.reason
          → (l : ℕ) × (c : ℕ) × IsChosen s page spot i.atom item.round (by_spawn l c) × (slice_get made.triples e ≡ Some (triple_by s page spot item.round l c))
      by_choice at_start same reason = absurd (Contains-none e (subst (λ z. Contains (named_by z) e) reason is))
      by_choice (by_local l) same reason = absurd (Contains-none e (subst (λ z. Contains (named_by z) e) reason is))
      by_choice (by_up l) same reason = absurd (Contains-none e (subst (λ z. Contains (named_by z) e) reason is))
      by_choice (by_real l n) same reason = absurd (Contains-none e (subst (λ z. Contains (named_by z) e) reason is))
      by_choice (by_spawn l c) same (f, at, reason) =
          let one : f ≡ e = only f (subst (λ z. Contains (named_by z) e) reason is) in
          (l, c, record { first = item.first; choice = same }, subst (λ z. slice_get made.triples z ≡ Some (triple_by s page spot item.round l c)) one at)
        where
          only : (f : ℕ) → Contains (f ∷ []) e → f ≡ e
          only f (zero, within, at) = at
          only f (suc k, within, at) = absurd (omega arith)

  -- and a spawn that is chosen is named by the item
  item_named : (spot : Spot) (i : ProofItem) (item : IsItem s page target made.triples spot i) (a r l c : ℕ) → i.atom ≡ a → IsChosen s page spot a r (by_spawn l c)
      → (e : ℕ) × (slice_get made.triples e ≡ Some (triple_by s page spot r l c))
  item_named spot i item a r l c same choice =
      let first' : IsFirst (labels_at s page spot) i.atom (Some r) = subst (λ z. IsFirst (labels_at s page spot) z (Some r)) (sym same) choice.first in
      let round : item.round ≡ r = first_one (labels_at s page spot) i.atom item.round r item.first first' in
      let is : chosen s (setting_at s page spot) (path_at s page spot) i.atom item.round ≡ by_spawn l c = (λ k. chosen s (setting_at s page spot) (path_at s page spot) (same k) (round k)) ∙ choice.choice in
      let reason : IsReason s page target made.triples spot item.round (by_spawn l c) i.reason = subst (λ w. IsReason s page target made.triples spot item.round w i.reason) is item.reason in
      (reason.0, subst (λ n. slice_get made.triples reason.0 ≡ Some (triple_by s page spot n l c)) round reason.1)

  abbrev IsUsed : ℕ → Type 0
  IsUsed k = (t : Triple) × (slice_get made.triples k ≡ Some t) × Used s page target t

  names_used : (k f : ℕ) → IsUsed k → Contains (entry_names proof.entries k) f → IsUsed f
  names_used k f used is =
      let t = used.0 in
      let lt : k < length proof.entries = subst (λ n. k < n) (sym made.count) (slice_get_within made.triples k t used.1) in
      let entry = there_at proof.entries k lt in
      let is' : Contains (flat_map (λ (i : ProofItem). named_by i.reason) entry.0.items) f = rw entry.1 at is in
      let x = flat_map-Contains (λ (i : ProofItem). named_by i.reason) entry.0.items f is' in
      let at = at_Contains entry.0.items x.0 x.1 in
      let item = (made.entries k t entry.0 used.1 entry.1).each at.0 x.0 at.1 in
      let n = item_names (added t) x.0 item f x.2 in
      (triple_by s page (added t) item.round n.0 n.1, n.3, by_triple t x.0.atom item.round n.0 n.1 used.2 item.needed n.2)

  pub triples_used : (t : Triple) → Contains made.triples t ↔ Used s page target t
  triples_used t = (to t, from t)
    where
      page_names : (e : ℕ) → Contains (flat_map (λ (x : PageItem). named_by x.item.reason) proof.page) e → IsUsed e
      page_names e is =
          let x = flat_map-Contains (λ (x : PageItem). named_by x.item.reason) proof.page e is in
          let at = at_Contains proof.page x.0 x.1 in
          let item = made.each at.0 x.0 at.1 in
          let n = item_names (page_node x.0.at) x.0.item item e x.2 in
          (triple_by s page (page_node x.0.at) item.round n.0 n.1, n.3, by_page x.0.at x.0.item.atom item.round n.0 n.1 item.needed n.2)

      to : (t : Triple) → Contains made.triples t → Used s page target t
      to t is =
          let at = at_Contains made.triples t is in
          let lt : at.0 < length proof.entries = subst (λ n. at.0 < n) (sym made.count) (slice_get_within made.triples at.0 t at.1) in
          let used = walked_all (entry_names proof.entries) IsUsed names_used 0 (length proof.entries) (flat_map (λ (x : PageItem). named_by x.item.reason) proof.page) made.walked page_names at.0 (omega arith) lt in
          let one : used.0 ≡ t = let a = used.1 in let b = at.1 in cc in
          subst (Used s page target) one used.2

      found : (t : Triple) → Used s page target t → (e : ℕ) × (slice_get made.triples e ≡ Some t)
      found t (by_page v a r l c need choice) =
          let f = made.all v a need in
          let item = made.each f.0 f.1 f.2 in
          let item' : IsItem s page target made.triples (page_node v) f.1.item = subst (λ q. IsItem s page target made.triples (page_node q) f.1.item) f.3 item in
          item_named (page_node v) f.1.item item' a r l c f.4 choice
      found t (by_triple u a r l c used need choice) =
          let k = found u used in
          let lt : k.0 < length proof.entries = subst (λ n. k.0 < n) (sym made.count) (slice_get_within made.triples k.0 u k.1) in
          let entry = there_at proof.entries k.0 lt in
          let is = made.entries k.0 u entry.0 k.1 entry.1 in
          let f = is.all a need in
          item_named (added u) f.1 (is.each f.0 f.1 f.2) a r l c f.3 choice

      from : (t : Triple) → Used s page target t → Contains made.triples t
      from t used = let f = found t used in Contains-at made.triples f.0 t f.1

-- a list of different elements of another is no longer than it
abbrev without : {X : Type 0} → List X → ℕ → List X
without [] k = []
without (x ∷ xs) zero = xs
without (x ∷ xs) (suc k) = x ∷ without xs k

length-without : {X : Type 0} (xs : List X) (k : ℕ) → k < length xs → suc (length (without xs k)) ≡ length xs
length-without [] k lt = absurd (omega arith)
length-without (x ∷ xs) zero lt = refl
length-without (x ∷ xs) (suc k) lt = ap suc (length-without xs k (omega arith))

without-Contains : {X : Type 0} (xs : List X) (k j : ℕ) (x : X) → slice_get xs j ≡ Some x → (j ≡ k → ⊥) → Contains (without xs k) x
without-Contains [] k j x at other = cc
without-Contains (y ∷ xs) zero zero x at other = absurd (other refl)
without-Contains (y ∷ xs) zero (suc j) x at other = Contains-at xs j x at
without-Contains (y ∷ xs) (suc k) zero x at other = (0, omega arith, let same : y ≡ x = cc in same)
without-Contains (y ∷ xs) (suc k) (suc j) x at other = let r = without-Contains xs k j x at (λ e. other (ap suc e)) in (suc r.0, omega (arith, r.1), r.2)

pub no_longer : {X : Type 0} (xs ys : List X) → ((i j : ℕ) (x : X) → slice_get xs i ≡ Some x → slice_get xs j ≡ Some x → i ≡ j) → ((x : X) → Contains xs x → Contains ys x) → length xs ≤ length ys
no_longer [] ys different within = omega arith
no_longer (x ∷ xs) ys different within =
    let k = at_Contains ys x (within x (0, omega arith, refl)) in
    let lt = slice_get_within ys k.0 x k.1 in
    let rest = no_longer xs (without ys k.0) (λ i j y at at'. let same = different (suc i) (suc j) y at at' in omega (arith, same)) (λ y is.
    let i = at_Contains xs y is in
    let j = at_Contains ys y (within y (suc is.0, omega (arith, is.1), is.2)) in
    without-Contains ys k.0 j.0 y j.1 (λ same.
    let at : slice_get ys k.0 ≡ Some y = subst (λ n. slice_get ys n ≡ Some y) same j.1 in
    let one : x ≡ y = let a = k.1 in cc in
    let never = different 0 (suc i.0) y (ap Some one) i.1 in
    omega (arith, never))) in
    omega (arith, rest, length-without ys k.0 lt)

-- a proof has more entries than n exactly where more triples are used
pub more_entries : (s : System) (page : LabelTree) (target : ℕ) (proof : Proof) (n : ℕ) → IsCanonical s page target proof → UsesMore s page target n ↔ (n < length proof.entries)
more_entries s page target proof n made =
    let count = made.count in (
      λ uses. let le = no_longer uses.triples made.triples uses.different (λ t is. (triples_used s page target proof made t).1 (uses.used t is)) in let more = uses.more in omega (arith, le, count, more),
      λ lt. record { triples = made.triples; different = made.different; used = λ t is. (triples_used s page target proof made t).0 is; more = omega (arith, lt, count) },
    )

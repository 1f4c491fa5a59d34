-- There is one proof of an atom.
use Rattle.std.proofs.Common.{◌≡◌, ◌⊎◌, ℕ, zero, suc, ◌<◌, ◌≤◌, min, List, [], ◌∷◌, ◌++◌, length, map, take, Contains, Option, Some, None, option_map, unwrap_or, slice_get, inl, inr, refl, sym, ap, ◌∙◌, subst, arith}
use Rattle.std.specs.List.{flat_map}
use Rattle.std.proofs.lemmas.List.{map-append, take_all}
use Rattle.std.proofs.lemmas.Option.{slice_get_within, slice_get_past}
use Rattle.tp_base.proofs.Rising.{same_members, All-from_Contains, Contains-none}
use Rattle.tp_base.proofs.Lists.{Contains-at, at_Contains, element_at, past_end, slice_get-take, next_there, cons_cases, first_there}
use Rattle.tree_sem.specs.Trees.{LabelTree}
use Rattle.tree_sem.specs.Order.{Before}
use Rattle.tree_sem.proofs.NodeLemmas.{Contains-map, map-Contains}
use Rattle.simple_core.specs.declared.system.System.{System}
use Rattle.simple_core.specs.Rounds.{IsFirst}
use Rattle.proof_check.specs.declared.proofs.Below.TheVariants.{Real, Grown}
use Rattle.proof_check.specs.declared.proofs.Reason.{Reason}
use Rattle.proof_check.specs.declared.proofs.Reason.TheVariants.{Start, Local, Up, Down}
use Rattle.proof_check.specs.declared.proofs.ProofItem.{ProofItem}
use Rattle.proof_check.specs.declared.proofs.Entry.{Entry}
use Rattle.proof_check.specs.declared.proofs.PageItem.{PageItem}
use Rattle.proof_check.specs.declared.proofs.Proof.{Proof}
use Rattle.proof_check.specs.Unfolding.{items_count, entry_count}
use Rattle.proof_check.specs.Validity.{MOST_STEPS, atoms_of}
use Rattle.proof_needs.specs.Choices.{Choice, at_start, by_local, by_up, by_real, by_spawn, chosen}
use Rattle.proof_maker.specs.Needs.{setting_at, path_at, labels_at, triple_by, Needed, Walks, done, seen, new, named_by, entry_names, IsReason, IsItem, Comes, IsEntryOf, IsCanonical}
use Rattle.proof_needs.specs.Triples.{Triple, Spot, page_node, added}
use Rattle.proof_maker.proofs.ValidLemmas.{first_one, walked_lower}

-- lists in a strict order with the same members are the same
abbrev Rises : {K : Type 0} → (K → K → Type 0) → List K → Type 0
Rises {K} R [] = Unit {0}
Rises {K} R (x ∷ xs) = ((y : K) → Contains xs y → R x y) × Rises R xs

one_list : {K : Type 0} (R : K → K → Type 0) → ((x y : K) → R x y → R y x → ⊥) → (xs ys : List K) → Rises R xs → Rises R ys → ((k : K) → Contains xs k → Contains ys k) → ((k : K) → Contains ys k → Contains xs k) → xs ≡ ys
one_list R asym [] [] a b to from = refl
one_list R asym [] (y ∷ ys) a b to from = absurd (Contains-none y (from y (first_there y ys)))
one_list R asym (x ∷ xs) [] a b to from = absurd (Contains-none x (to x (first_there x xs)))
one_list {K} R asym (x ∷ xs) (y ∷ ys) a b to from =
    let same : x ≡ y = elim (cons_cases y ys x (to x (first_there x xs))) [
      | inl e ↦ sym e
      | inr later ↦ elim (cons_cases x xs y (from y (first_there y ys))) [ inl e ↦ e | inr later' ↦ absurd (asym x y (a.0 y later') (b.0 x later)) ]
    ] in
    let rest = one_list R asym xs ys a.1 b.1
    (λ k is. elim (cons_cases y ys k (to k (next_there x xs k is))) [ inl e ↦ let here : R x x = a.0 x (subst (Contains xs) (sym e ∙ sym same) is) in absurd (asym x x here here) | inr later ↦ later ])
    (λ k is. elim (cons_cases x xs k (from k (next_there y ys k is))) [ inl e ↦ let here : R y y = b.0 y (subst (Contains ys) (sym e ∙ same) is) in absurd (asym y y here here) | inr later ↦ later ]) in
    λ i. same i ∷ rest i

rises_from : {X K : Type 0} (key : X → K) (R : K → K → Type 0) (xs : List X) → ((i j : ℕ) (x y : X) → i < j → slice_get xs i ≡ Some x → slice_get xs j ≡ Some y → R (key x) (key y)) → Rises R (map key xs)
rises_from key R [] ordered = tt
rises_from key R (x ∷ xs) ordered = (
  λ y is.
      let m = map-Contains key xs y is in
      let at = at_Contains xs m.0 m.1 in
      subst (R (key x)) (sym m.2) (ordered 0 (suc at.0) x m.0 (omega arith) refl at.1),
  rises_from key R xs (λ i j a b lt at at'. ordered (suc i) (suc j) a b (omega arith) at at'),
)

-- lists that have the same elements at each place
same_places : {X : Type 0} (xs ys : List X) → length xs ≡ length ys → ((i : ℕ) (x y : X) → slice_get xs i ≡ Some x → slice_get ys i ≡ Some y → x ≡ y) → xs ≡ ys
same_places [] [] long same = refl
same_places [] (y ∷ ys) long same = absurd (omega arith)
same_places (x ∷ xs) [] long same = absurd (omega arith)
same_places (x ∷ xs) (y ∷ ys) long same =
    let first = same 0 x y refl refl in
    let rest = same_places xs ys (omega arith) (λ i a b at at'. same (suc i) a b at at') in
    λ i. first i ∷ rest i

same_length : {X Y K : Type 0} (f : X → K) (g : Y → K) (xs : List X) (ys : List Y) → map f xs ≡ map g ys → length xs ≡ length ys
same_length f g [] [] same = refl
same_length f g [] (y ∷ ys) same = cc
same_length f g (x ∷ xs) [] same = cc
same_length f g (x ∷ xs) (y ∷ ys) same = let rest : map f xs ≡ map g ys = cc in ap suc (same_length f g xs ys rest)

same_keys : {X K : Type 0} (f : X → K) (xs ys : List X) → map f xs ≡ map f ys → (i : ℕ) (x y : X) → slice_get xs i ≡ Some x → slice_get ys i ≡ Some y → f x ≡ f y
same_keys f [] ys same i x y at at' = cc
same_keys f (a ∷ xs) [] same i x y at at' = cc
same_keys f (a ∷ xs) (b ∷ ys) same zero x y at at' =
    let head : f a ≡ f b = cc in
    let one : a ≡ x = cc in
    let two : b ≡ y = cc in
    ap f (sym one) ∙ head ∙ ap f two
same_keys f (a ∷ xs) (b ∷ ys) same (suc i) x y at at' = let rest : map f xs ≡ map f ys = cc in same_keys f xs ys rest i x y at at'

take_more : {X : Type 0} (n : ℕ) (xs ys : List X) → take n xs ≡ take n ys → slice_get xs n ≡ slice_get ys n → take (suc n) xs ≡ take (suc n) ys
take_more zero [] [] same at = refl
take_more zero [] (y ∷ ys) same at = cc
take_more zero (x ∷ xs) [] same at = cc
take_more zero (x ∷ xs) (y ∷ ys) same at = let one : x ≡ y = cc in λ i. one i ∷ []
take_more (suc n) [] [] same at = refl
take_more (suc n) [] (y ∷ ys) same at = cc
take_more (suc n) (x ∷ xs) [] same at = cc
take_more (suc n) (x ∷ xs) (y ∷ ys) same at =
    let one : x ≡ y = cc in
    let tail : take n xs ≡ take n ys = cc in
    let rest = take_more n xs ys tail at in
    λ i. one i ∷ rest i

-- Two walks that name the same triples number them alike.
module _ {X : Type 0} (names names' : ℕ → List ℕ) (xs ys : List X) (different : (i j : ℕ) (x : X) → slice_get xs i ≡ Some x → slice_get xs j ≡ Some x → i ≡ j)
    (different' : (i j : ℕ) (x : X) → slice_get ys i ≡ Some x → slice_get ys j ≡ Some x → i ≡ j)
    (alike : (e e' : ℕ) (x : X) → slice_get xs e ≡ Some x → slice_get ys e' ≡ Some x → map (slice_get xs) (names e) ≡ map (slice_get ys) (names' e')) where
  same_walk : (n m m' : ℕ) (es es' : List ℕ) → Walks names n es m → Walks names' n es' m' → m ≤ length xs → m' ≤ length ys → take n xs ≡ take n ys → map (slice_get xs) es ≡ map (slice_get ys) es'
      → (m ≡ m') × (take m xs ≡ take m ys)
  same_walk n m m' es es' (done p) (done q) le le' same named = (refl, same)
  same_walk n m m' es es' (done p) (seen q e k rest less w) le le' same named = cc
  same_walk n m m' es es' (done p) (new q e k rest first w) le le' same named = cc
  same_walk n m m' es es' (seen p e k rest less w) (done q) le le' same named = cc
  same_walk n m m' es es' (new p e k rest first w) (done q) le le' same named = cc
  same_walk n m m' es es' (seen p e k rest less w) (seen q e' k' rest' less' w') le le' same named =
      let tail : map (slice_get xs) rest ≡ map (slice_get ys) rest' = cc in same_walk n m m' rest rest' w w' le le' same tail
  same_walk n m m' es es' (seen p e k rest less w) (new q e' k' rest' first' w') le le' same named =
      let up = walked_lower names n m rest w in
      let up' = walked_lower names' n e' (names' e') first' in
      let x = element_at xs e (omega (arith, up.0)) in
      let head : slice_get xs e ≡ slice_get ys e' = cc in
      let at : slice_get ys e ≡ Some x.0 = sym (slice_get-take ys n e less) ∙ ap (λ z. slice_get z e) (sym same) ∙ slice_get-take xs n e less ∙ x.1 in
      let one = different' e e' x.0 at (sym head ∙ x.1) in
      absurd (omega (arith, one, up'.0))
  same_walk n m m' es es' (new p e k rest first w) (seen q e' k' rest' less' w') le le' same named =
      let up = walked_lower names n e (names e) first in
      let up' = walked_lower names' n m' rest' w' in
      let y = element_at ys e' (omega (arith, up'.0)) in
      let head : slice_get xs e ≡ slice_get ys e' = cc in
      let at : slice_get xs e' ≡ Some y.0 = sym (slice_get-take xs n e' less') ∙ ap (λ z. slice_get z e') same ∙ slice_get-take ys n e' less' ∙ y.1 in
      let one = different e e' y.0 (head ∙ y.1) at in
      absurd (omega (arith, one, up.0))
  same_walk n m m' es es' (new p e k rest first w) (new q e' k' rest' first' w') le le' same named =
      let up = walked_lower names (suc e) m rest w in
      let up' = walked_lower names' (suc e') m' rest' w' in
      let x = element_at xs e (omega (arith, up.0)) in
      let head : slice_get xs e ≡ slice_get ys e' = cc in
      let tail : map (slice_get xs) rest ≡ map (slice_get ys) rest' = cc in
      let inner = same_walk n e e' (names e) (names' e') first first' (omega (arith, up.0)) (omega (arith, up'.0)) same (alike e e' x.0 x.1 (sym head ∙ x.1)) in
      let w'' : Walks names' (suc e) rest' m' = subst (λ z. Walks names' (suc z) rest' m') (sym inner.0) w' in
      let here : slice_get xs e ≡ slice_get ys e = head ∙ ap (slice_get ys) (sym inner.0) in
      same_walk (suc e) m m' rest rest' w w'' le le' (take_more e xs ys inner.1 here) tail

before_asym : (v w : List ℕ) → Before v w → Before w v → ⊥
before_asym [] [] a b = absurd a
before_asym [] (l ∷ w) a b = absurd b
before_asym (k ∷ v) [] a b = absurd a
before_asym (k ∷ v) (l ∷ w) a b = elim a [
  | inl less ↦ elim b [ inl more ↦ absurd (omega arith) | inr both ↦ let same = both.0 in absurd (omega (arith, same, less)) ]
  | inr both ↦ elim b [ inl more ↦ let same = both.0 in absurd (omega (arith, same, more)) | inr both' ↦ before_asym v w both.1 both'.1 ]
]

flat_names : {X A : Type 0} (named : X → List ℕ) (f g : ℕ → A) (xs ys : List X) → length xs ≡ length ys → ((i : ℕ) (x y : X) → slice_get xs i ≡ Some x → slice_get ys i ≡ Some y → map f (named x) ≡ map g (named y))
    → map f (flat_map named xs) ≡ map g (flat_map named ys)
flat_names named f g [] [] long same = refl
flat_names named f g [] (y ∷ ys) long same = absurd (omega arith)
flat_names named f g (x ∷ xs) [] long same = absurd (omega arith)
flat_names named f g (x ∷ xs) (y ∷ ys) long same =
    let first = same 0 x y refl refl in
    let rest = flat_names named f g xs ys (omega arith) (λ i a b at at'. same (suc i) a b at at') in
    map-append f (named x) (flat_map named xs) ∙ (λ i. first i ++ rest i) ∙ sym (map-append g (named y) (flat_map named ys))

-- the numbers of steps depend on the items alone
count_same : (s : System) (entries entries' : List Entry) → ((e : ℕ) → option_map (λ (x : Entry). x.items) (slice_get entries e) ≡ option_map (λ (x : Entry). x.items) (slice_get entries' e)) → (n : ℕ) → entry_count s entries n ≡ entry_count s entries' n
count_same s entries entries' same zero = λ i e. 0
count_same s entries entries' same (suc n) =
    let inner = count_same s entries entries' same n in
    λ i e. (in_items (slice_get entries e) (entry_count s entries n) ∙ (λ k. unwrap_or (option_map (items_count s (inner k)) (same e k)) 0) ∙ sym (in_items (slice_get entries' e) (entry_count s entries' n))) i
  where
    in_items : (o : Option Entry) (f : ℕ → ℕ) → unwrap_or (option_map (λ (entry : Entry). items_count s f entry.items) o) 0 ≡ unwrap_or (option_map (items_count s f) (option_map (λ (x : Entry). x.items) o)) 0
    in_items None f = refl
    in_items (Some x) f = refl

module _ (s : System) (page : LabelTree) (target : ℕ) where
  comes_asym : (p q : Spot) (a b : ℕ) (Tie Tie' : Type 0) → (Tie → Tie' → ⊥) → Comes s page target p a q b Tie → Comes s page target q b p a Tie' → ⊥
  comes_asym p q a b Tie Tie' never (m, n, fm, fn, x) (n', m', fn', fm', y) =
      let one = first_one (labels_at s page p) a m m' fm fm' in
      let two = first_one (labels_at s page q) b n n' fn fn' in
      elim x [
        | inl less ↦ elim y [ inl more ↦ absurd (omega (arith, one, two, less, more)) | inr both ↦ let same = both.0 in absurd (omega (arith, one, two, less, same)) ]
        | inr both ↦ elim y [ inl more ↦ let same = both.0 in absurd (omega (arith, one, two, more, same)) | inr both' ↦ never both.1 both'.1 ]
      ]

  -- two items of one atom at one spot
  module _ (ts ts' : List Triple) (spot : Spot) (i j : ProofItem) (x : IsItem s page target ts spot i) (y : IsItem s page target ts' spot j) (same : i.atom ≡ j.atom) where
    one_round : y.round ≡ x.round
    one_round = first_one (labels_at s page spot) i.atom y.round x.round (subst (λ z. IsFirst (labels_at s page spot) z (Some y.round)) (sym same) y.first) x.first

    reason_of : (w : Choice) → chosen s (setting_at s page spot) (path_at s page spot) i.atom x.round ≡ w → IsReason s page target ts spot x.round w i.reason × IsReason s page target ts' spot x.round w j.reason
    reason_of w is =
        let moved : IsReason s page target ts' spot x.round (chosen s (setting_at s page spot) (path_at s page spot) i.atom x.round) j.reason
        = subst (λ n. IsReason s page target ts' spot n (chosen s (setting_at s page spot) (path_at s page spot) i.atom n) j.reason) one_round
        (subst (λ a. IsReason s page target ts' spot y.round (chosen s (setting_at s page spot) (path_at s page spot) a y.round) j.reason) (sym same) y.reason) in
        (subst (λ w. IsReason s page target ts spot x.round w i.reason) is x.reason, subst (λ w. IsReason s page target ts' spot x.round w j.reason) is moved)

    same_names : map (slice_get ts) (named_by i.reason) ≡ map (slice_get ts') (named_by j.reason)
    same_names = by_choice (chosen s (setting_at s page spot) (path_at s page spot) i.atom x.round) (reason_of (chosen s (setting_at s page spot) (path_at s page spot) i.atom x.round) refl)
      where
        plain : (a : Reason) → named_by a ≡ [] → i.reason ≡ a → j.reason ≡ a → map (slice_get ts) (named_by i.reason) ≡ map (slice_get ts') (named_by j.reason)
        plain a none p q = ap (λ z. map (slice_get ts) (named_by z)) p ∙ ap (map (slice_get ts)) none ∙ sym (ap (λ z. map (slice_get ts') (named_by z)) q ∙ ap (map (slice_get ts')) none)

        by_choice : (w : Choice) → IsReason s page target ts spot x.round w i.reason × IsReason s page target ts' spot x.round w j.reason → map (slice_get ts) (named_by i.reason) ≡ map (slice_get ts') (named_by j.reason)
        by_choice at_start (p, q) = plain Start refl p q
        by_choice (by_local l) (p, q) = plain (Local l) refl p q
        by_choice (by_up l) (p, q) = plain (Up l) refl p q
        by_choice (by_real l n) (p, q) = plain (Down l (Real n)) refl p q
        by_choice (by_spawn l c) (p, q) = ap (λ z. map (slice_get ts) (named_by z)) p.2 ∙ (λ k. (p.1 ∙ sym q.1) k ∷ []) ∙ sym (ap (λ z. map (slice_get ts') (named_by z)) q.2)

  -- with one list of triples the reasons are the same
  same_reason : (ts : List Triple) → ((e f : ℕ) (t : Triple) → slice_get ts e ≡ Some t → slice_get ts f ≡ Some t → e ≡ f) → (spot : Spot) (i j : ProofItem) → IsItem s page target ts spot i → IsItem s page target ts spot j → i.atom ≡ j.atom → i.reason ≡ j.reason
  same_reason ts different spot i j x y same =
      let both = reason_of ts ts spot i j x y same (chosen s (setting_at s page spot) (path_at s page spot) i.atom x.round) refl in
      by_choice (chosen s (setting_at s page spot) (path_at s page spot) i.atom x.round) x.round both.0 both.1
    where
      by_choice : (w : Choice) (r : ℕ) → IsReason s page target ts spot r w i.reason → IsReason s page target ts spot r w j.reason → i.reason ≡ j.reason
      by_choice at_start r p q = p ∙ sym q
      by_choice (by_local l) r p q = p ∙ sym q
      by_choice (by_up l) r p q = p ∙ sym q
      by_choice (by_real l n) r p q = p ∙ sym q
      by_choice (by_spawn l c) r p q = p.2 ∙ ap (λ e. Down l (Grown c e)) (different p.0 q.0 (triple_by s page spot r l c) p.1 q.1) ∙ sym q.2

  same_item : (i j : ProofItem) → i.atom ≡ j.atom → i.reason ≡ j.reason → i ≡ j
  same_item i j a r = λ k. record { atom = a k; reason = r k }

  -- the atoms of an entry
  atoms_to : (ts : List Triple) (t : Triple) (x : Entry) → IsEntryOf s page target ts t x → (a : ℕ) → Contains (atoms_of x.items) a → Needed s page target (added t) a
  atoms_to ts t x is a in' =
      let m = map-Contains (λ (i : ProofItem). i.atom) x.items a in' in
      let at = at_Contains x.items m.0 m.1 in
      subst (λ z. Needed s page target (added t) z) (sym m.2) (is.each at.0 m.0 at.1).needed

  atoms_from : (ts : List Triple) (t : Triple) (x : Entry) → IsEntryOf s page target ts t x → (a : ℕ) → Needed s page target (added t) a → Contains (atoms_of x.items) a
  atoms_from ts t x is a need = let f = is.all a need in subst (Contains (atoms_of x.items)) f.3 (Contains-map (λ (i : ProofItem). i.atom) x.items f.1 (Contains-at x.items f.0 f.1 f.2))

  same_atoms : (ts ts' : List Triple) (t : Triple) (x y : Entry) → IsEntryOf s page target ts t x → IsEntryOf s page target ts' t y → atoms_of x.items ≡ atoms_of y.items
  same_atoms ts ts' t x y is is' =
      one_list (λ a b. Comes s page target (added t) a (added t) b (a < b)) (λ a b. comes_asym (added t) (added t) a b (a < b) (b < a) (λ p q. omega arith)) (atoms_of x.items) (atoms_of y.items)
      (rises_from (λ (i : ProofItem). i.atom) (λ a b. Comes s page target (added t) a (added t) b (a < b)) x.items is.ordered) (rises_from (λ (i : ProofItem). i.atom) (λ a b. Comes s page target (added t) a (added t) b (a < b)) y.items is'.ordered)
      (λ a in'. atoms_from ts' t y is' a (atoms_to ts t x is a in')) (λ a in'. atoms_from ts t x is a (atoms_to ts' t y is' a in'))

  -- the page's items, by place and atom
  abbrev key_of : PageItem → List ℕ × ℕ
  key_of x = (x.at, x.item.atom)

  abbrev PageOrder : List ℕ × ℕ → List ℕ × ℕ → Type 0
  PageOrder a b = Comes s page target (page_node a.0) a.1 (page_node b.0) b.1 (Before a.0 b.0 ⊎ ((a.0 ≡ b.0) × (a.1 < b.1)))

  tie_asym : (a b : List ℕ × ℕ) → Before a.0 b.0 ⊎ ((a.0 ≡ b.0) × (a.1 < b.1)) → Before b.0 a.0 ⊎ ((b.0 ≡ a.0) × (b.1 < a.1)) → ⊥
  tie_asym a b x y = elim x [
    | inl p ↦ elim y [
      | inl q ↦ before_asym a.0 b.0 p q
      | inr q ↦ let loop : Before a.0 a.0 = subst (Before a.0) q.0 p in before_asym a.0 a.0 loop loop
    ]
    | inr p ↦ elim y [
      | inl q ↦ let loop : Before b.0 b.0 = subst (Before b.0) p.0 q in before_asym b.0 b.0 loop loop
      | inr q ↦ let l = p.1 in let m = q.1 in absurd (omega (arith, l, m))
    ]
  ]

  keys_to : (proof : Proof) (made : IsCanonical s page target proof) (k : List ℕ × ℕ) → Contains (map key_of proof.page) k → Needed s page target (page_node k.0) k.1
  keys_to proof made k is =
      let m = map-Contains key_of proof.page k is in
      let at = at_Contains proof.page m.0 m.1 in
      subst (λ (z : List ℕ × ℕ). Needed s page target (page_node z.0) z.1) (sym m.2) (made.each at.0 m.0 at.1).needed

  keys_from : (proof : Proof) (made : IsCanonical s page target proof) (k : List ℕ × ℕ) → Needed s page target (page_node k.0) k.1 → Contains (map key_of proof.page) k
  keys_from proof made k need =
      let f = made.all k.0 k.1 need in
      let same : key_of f.1 ≡ k = λ i. (f.3 i, f.4 i) in
      subst (Contains (map key_of proof.page)) same (Contains-map key_of proof.page f.1 (Contains-at proof.page f.0 f.1 f.2))

  same_page_keys : (p q : Proof) → IsCanonical s page target p → IsCanonical s page target q → map key_of p.page ≡ map key_of q.page
  same_page_keys p q made made' =
      one_list PageOrder (λ a b. comes_asym (page_node a.0) (page_node b.0) a.1 b.1 (Before a.0 b.0 ⊎ ((a.0 ≡ b.0) × (a.1 < b.1))) (Before b.0 a.0 ⊎ ((b.0 ≡ a.0) × (b.1 < a.1))) (tie_asym a b)) (map key_of p.page) (map key_of q.page)
      (rises_from key_of PageOrder p.page made.ordered) (rises_from key_of PageOrder q.page made'.ordered)
      (λ k is. keys_from q made' k (keys_to p made k is)) (λ k is. keys_from p made k (keys_to q made' k is))

  -- both proofs have the same triples, in one order
  same_triples : (p q : Proof) (made : IsCanonical s page target p) (made' : IsCanonical s page target q) → made.triples ≡ made'.triples
  same_triples p q made made' =
      let keys = same_page_keys p q made made' in
      let named : map (slice_get made.triples) (flat_map (λ (x : PageItem). named_by x.item.reason) p.page) ≡ map (slice_get made'.triples) (flat_map (λ (x : PageItem). named_by x.item.reason) q.page)
      = flat_names (λ (x : PageItem). named_by x.item.reason) (slice_get made.triples) (slice_get made'.triples) p.page q.page (same_length key_of key_of p.page q.page keys) (λ i x y at at'.
      let same : key_of x ≡ key_of y = same_keys key_of p.page q.page keys i x y at at' in
      let y' : IsItem s page target made'.triples (page_node x.at) y.item = subst (λ z. IsItem s page target made'.triples (page_node z) y.item) (ap (λ (z : List ℕ × ℕ). z.0) (sym same)) (made'.each i y at') in
      same_names made.triples made'.triples (page_node x.at) x.item y.item (made.each i x at) y' (λ k. (same k).1)) in
      let w = same_walk (entry_names p.entries) (entry_names q.entries) made.triples made'.triples made.different made'.different alike 0 (length p.entries) (length q.entries)
      (flat_map (λ (x : PageItem). named_by x.item.reason) p.page) (flat_map (λ (x : PageItem). named_by x.item.reason) q.page) made.walked made'.walked (omega (arith, made.count)) (omega (arith, made'.count)) refl named in
      let count = made.count in
      let count' = made'.count in
      sym (take_all (length p.entries) made.triples (omega (arith, count))) ∙ w.1 ∙ take_all (length p.entries) made'.triples (omega (arith, count', w.0))
    where
      alike : (e e' : ℕ) (t : Triple) → slice_get made.triples e ≡ Some t → slice_get made'.triples e' ≡ Some t → map (slice_get made.triples) (entry_names p.entries e) ≡ map (slice_get made'.triples) (entry_names q.entries e')
      alike e e' t at at' =
          let x = element_at p.entries e (let c = made.count in let lt = slice_get_within made.triples e t at in omega (arith, c, lt)) in
          let y = element_at q.entries e' (let c = made'.count in let lt = slice_get_within made'.triples e' t at' in omega (arith, c, lt)) in
          let is = made.entries e t x.0 at x.1 in
          let is' = made'.entries e' t y.0 at' y.1 in
          let atoms = same_atoms made.triples made'.triples t x.0 y.0 is is' in
          let names = flat_names (λ (i : ProofItem). named_by i.reason) (slice_get made.triples) (slice_get made'.triples) x.0.items y.0.items (same_length (λ (i : ProofItem). i.atom) (λ (i : ProofItem). i.atom) x.0.items y.0.items atoms) (λ i a b at at'.
          same_names made.triples made'.triples (added t) a b (is.each i a at) (is'.each i b at') (same_keys (λ (i : ProofItem). i.atom) x.0.items y.0.items atoms i a b at at')) in
          rw (x.1, y.1) names

  -- a proof, over the other's triples
  over : (p : Proof) (made : IsCanonical s page target p) (ts : List Triple) → made.triples ≡ ts → ((n : ℕ) (t : Triple) (x : Entry) → slice_get ts n ≡ Some t → slice_get p.entries n ≡ Some x → IsEntryOf s page target ts t x)
      × ((i : ℕ) (x : PageItem) → slice_get p.page i ≡ Some x → IsItem s page target ts (page_node x.at) x.item)
  over p made ts same =
      subst (λ ts. ((n : ℕ) (t : Triple) (x : Entry) → slice_get ts n ≡ Some t → slice_get p.entries n ≡ Some x → IsEntryOf s page target ts t x) × ((i : ℕ) (x : PageItem) → slice_get p.page i ≡ Some x → IsItem s page target ts (page_node x.at) x.item))
      same (made.entries, made.each)

  -- the theorem
  pub one_canonical : (p q : Proof) → IsCanonical s page target p → IsCanonical s page target q → p ≡ q
  one_canonical p q made made' =
      let ts = made'.triples in
      let triples = same_triples p q made made' in
      let other = over p made ts triples in
      let count : length p.entries ≡ length q.entries = made.count ∙ ap length triples ∙ sym made'.count in
      let items : (n : ℕ) (x y : Entry) → slice_get p.entries n ≡ Some x → slice_get q.entries n ≡ Some y → x.items ≡ y.items = λ n x y at at'.
      let t = element_at ts n (let c = made'.count in let lt = slice_get_within q.entries n y at' in omega (arith, c, lt)) in
      let is = other.0 n t.0 x t.1 at in
      let is' = made'.entries n t.0 y t.1 at' in
      let atoms = same_atoms ts ts t.0 x y is is' in
      same_places x.items y.items (same_length (λ (i : ProofItem). i.atom) (λ (i : ProofItem). i.atom) x.items y.items atoms) (λ i a b at_a at_b.
      let atom : a.atom ≡ b.atom = same_keys (λ (i : ProofItem). i.atom) x.items y.items atoms i a b at_a at_b in
      same_item a b atom (same_reason ts made'.different (added t.0) a b (is.each i a at_a) (is'.each i b at_b) atom)) in
      let counts : (n : ℕ) → entry_count s p.entries n ≡ entry_count s q.entries n = λ n. count_same s p.entries q.entries (same_options items count) n in
      let entries : p.entries ≡ q.entries = same_places p.entries q.entries count (λ n x y at at'.
      let t = element_at ts n (let c = made'.count in let lt = slice_get_within q.entries n y at' in omega (arith, c, lt)) in
      let is = other.0 n t.0 x t.1 at in
      let is' = made'.entries n t.0 y t.1 at' in
      let kind : x.kind ≡ y.kind = is.kind ∙ sym is'.kind in
      let parent : x.parent ≡ y.parent = same_members x.parent y.parent is.parent_rises is'.parent_rises (All-from_Contains (Contains y.parent) x.parent (λ b in'. (is'.parent b).1 ((is.parent b).0 in'))) (All-from_Contains (Contains x.parent) y.parent (λ b in'. (is.parent b).1 ((is'.parent b).0 in'))) in
      let one = items n x y at at' in
      let steps : x.steps ≡ y.steps = made.steps n x at ∙ ap (λ f. min (f n) MOST_STEPS) (counts (suc n)) ∙ sym (made'.steps n y at') in
      λ k. record { kind = kind k; parent = parent k; items = one k; steps = steps k }) in
      let keys = same_page_keys p q made made' in
      let pages : p.page ≡ q.page = same_places p.page q.page (same_length key_of key_of p.page q.page keys) (λ i x y at at'.
      let same : key_of x ≡ key_of y = same_keys key_of p.page q.page keys i x y at at' in
      let place : x.at ≡ y.at = λ k. (same k).0 in
      let atom : x.item.atom ≡ y.item.atom = λ k. (same k).1 in
      let y' : IsItem s page target ts (page_node x.at) y.item = subst (λ z. IsItem s page target ts (page_node z) y.item) (sym place) (made'.each i y at') in
      let item = same_item x.item y.item atom (same_reason ts made'.different (page_node x.at) x.item y.item (other.1 i x at) y' atom) in
      λ k. record { at = place k; item = item k }) in
      λ k. record { entries = entries k; page = pages k }
    where
      same_options : ((n : ℕ) (x y : Entry) → slice_get p.entries n ≡ Some x → slice_get q.entries n ≡ Some y → x.items ≡ y.items) → length p.entries ≡ length q.entries
          → (e : ℕ) → option_map (λ (x : Entry). x.items) (slice_get p.entries e) ≡ option_map (λ (x : Entry). x.items) (slice_get q.entries e)
      same_options items count e =
          elim (slice_get p.entries e) as (λ o. slice_get p.entries e ≡ o → option_map (λ (x : Entry). x.items) o ≡ option_map (λ (x : Entry). x.items) (slice_get q.entries e)) [
            | None ↦ λ at. let le : length p.entries ≤ e = past_end p.entries e at in rw (slice_get_past q.entries e (omega (arith, le, count)))
            | Some x ↦ λ at. let y = element_at q.entries e (let lt = slice_get_within p.entries e x at in omega (arith, lt, count)) in rw y.1 (ap Some (items e x y.0 at y.1))
          ] refl

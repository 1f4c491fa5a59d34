-- A page of one node, a rule that adds a child to it, and the proof of an atom that the child gives back: it is what a page proof is asked to be.
use Rattle.std.proofs.Common.{◌≡◌, ◌⊎◌, ℕ, zero, suc, ◌<◌, false, [], ◌∷◌, min, rules, Contains, Some, None, slice_get, inl, inr, refl, sym, ap, ◌∙◌, subst, arith}
use Rattle.tp_base.proofs.Rising.{Contains-none}
use Rattle.tree_sem.specs.Trees.{LabelTree, leaf}
use Rattle.simple_core.specs.declared.system.System.{System}
use Rattle.simple_core.specs.Rounds.{IsFirst}
use Rattle.proof_check.specs.declared.proofs.Below.TheVariants.{Grown}
use Rattle.proof_check.specs.declared.proofs.Reason.TheVariants.{Start, Down}
use Rattle.proof_check.specs.declared.proofs.ProofItem.{ProofItem}
use Rattle.proof_check.specs.declared.proofs.Entry.{Entry}
use Rattle.proof_check.specs.declared.proofs.PageItem.{PageItem}
use Rattle.proof_check.specs.declared.proofs.Proof.{Proof}
use Rattle.proof_check.specs.Unfolding.{entry_count}
use Rattle.proof_check.specs.Validity.{MOST_STEPS}
use Rattle.tree_sem.specs.Order.{Before}
use Rattle.proof_needs.specs.Choices.{at_start, by_up, by_real, by_spawn, spawn_needs}
use Rattle.proof_maker.specs.Needs.{setting_at, path_at, labels_at, IsChosen, triple_by, Needed, goal, top, by_rule, by_parent, by_child, by_spawner, by_entry, done, new, Comes, IsItem, IsEntryOf, IsCanonical}
use Rattle.proof_needs.specs.Triples.{Triple, Spot, page_node, added}
use Rattle.proof_maker.proofs.ChoiceLemmas.{IsWay}
use Rattle.proof_maker.proofs.ValidLemmas.{chosen_stands}

abbrev system : System
system = record {
  local = [];
  up = [];
  down = record { from = 1; to = 2 } ∷ [];
  child = record { needs = 0; kind = 0 } ∷ [];
  kinds = record { label = 1 ∷ []; stmt = 0; above = None; number = 0; siblings = 1; beside = false } ∷ [];
  visible = [];
}

abbrev page : LabelTree
page = leaf (0 ∷ [])

abbrev triple : Triple
triple = record { kind = 0; parent = []; atom = 1 }

abbrev the_entry : Entry
the_entry = record { kind = 0; parent = []; items = record { atom = 1; reason = Start } ∷ []; steps = 0 }

abbrev first_item : PageItem
first_item = record { at = []; item = record { atom = 0; reason = Start } }

abbrev last_item : PageItem
last_item = record { at = []; item = record { atom = 2; reason = Down 0 (Grown 0 0) } }

abbrev proof : Proof
proof = record { entries = the_entry ∷ []; page = first_item ∷ last_item ∷ [] }

one_first : IsFirst (labels_at system page (added triple)) 1 (Some 0)
one_first = ((0, omega arith, refl), λ m lt is. absurd (omega arith))

zero_first : IsFirst (labels_at system page (page_node [])) 0 (Some 0)
zero_first = ((0, omega arith, refl), λ m lt is. absurd (omega arith))

two_first : IsFirst (labels_at system page (page_node [])) 2 (Some 1)
two_first = ((1, omega arith, refl), λ m lt is. before m lt is)
  where
    before : (m : ℕ) → m < 1 → Contains (labels_at system page (page_node []) m) 2 → ⊥
    before zero lt (zero, within, at) = omega (arith, at)
    before zero lt (suc k, within, at) = omega arith
    before (suc m) lt is = omega arith

two_chosen : IsChosen system page (page_node []) 2 1 (by_spawn 0 0)
two_chosen = record { first = two_first; choice = refl }

-- what is needed
abbrev Only : Spot → ℕ → Type 0
Only (page_node v) a = (v ≡ []) × ((a ≡ 0) ⊎ (a ≡ 2))
Only (added t) a = t ≡ triple → a ≡ 1

no_up : (spot : Spot) (a r l : ℕ) → IsChosen system page spot a r (by_up l) → ⊥
no_up spot a zero l choice = let never : at_start ≡ by_up l = choice.choice in cc
no_up spot a (suc k) l choice =
    let c = chosen_stands system page spot a k choice.first in
    let way : IsWay system (setting_at system page spot) (path_at system page spot) a (by_up l) = subst (IsWay system (setting_at system page spot) (path_at system page spot) a) (sym c.1 ∙ choice.choice) c.2 in
    let never = way.1 in cc

no_real : (a r l n : ℕ) → IsChosen system page (page_node []) a r (by_real l n) → ⊥
no_real a zero l n choice = let never : at_start ≡ by_real l n = choice.choice in cc
no_real a (suc k) l n choice =
    let c = chosen_stands system page (page_node []) a k choice.first in
    let way : IsWay system (setting_at system page (page_node [])) [] a (by_real l n) = subst (IsWay system (setting_at system page (page_node [])) [] a) (sym c.1 ∙ choice.choice) c.2 in
    let lt = way.3 in omega (arith, lt)

spawner : (spot : Spot) (a r l c : ℕ) → IsChosen system page spot a r (by_spawn l c) → spawn_needs system c ≡ 0
spawner spot a zero l c choice = let never : at_start ≡ by_spawn l c = choice.choice in cc
spawner spot a (suc k) l zero choice = refl
spawner spot a (suc k) l (suc c) choice = refl

not_below : (r l c : ℕ) → IsChosen system page (added triple) 1 r (by_spawn l c) → ⊥
not_below zero l c choice = let never : at_start ≡ by_spawn l c = choice.choice in cc
not_below (suc k) l c choice = choice.first.1 0 (omega arith) one_first.0

only : (spot : Spot) (a : ℕ) → Needed system page 2 spot a → Only spot a
only spot a goal = (refl, inr refl)
only spot a (top t) = λ same. ap (λ (t : Triple). t.atom) same
only spot a (by_rule p b r l x need choice is) = absurd (Contains-none x is)
only spot a (by_parent v p b r l need choice is) = absurd (no_up (page_node v) b r l choice)
only spot a (by_child v b r l n need choice) =
    let root = (only (page_node v) b need).0 in
    absurd (no_real b r l n (subst (λ z. IsChosen system page (page_node z) b r (by_real l n)) root choice))
only spot a (by_spawner (page_node v) b r l c need choice) = ((only (page_node v) b need).0, inl (spawner (page_node v) b r l c choice))
only spot a (by_spawner (added t) b r l c need choice) = λ same.
    let is : b ≡ 1 = only (added t) b need same in
    let here : IsChosen system page (added triple) 1 r (by_spawn l c) = subst (λ z. IsChosen system page (added triple) z r (by_spawn l c)) is (subst (λ z. IsChosen system page (added z) b r (by_spawn l c)) same choice) in
    absurd (not_below r l c here)
only spot a (by_entry p b r l c x m k need choice above chosen_above) = absurd (no_up (added (triple_by system page p r l c)) x m k chosen_above)

entry_is : IsEntryOf system page 2 (triple ∷ []) triple the_entry
entry_is = record {
  kind = refl;
  each = λ i x at. one i x at;
  all = λ a need. (0, record { atom = 1; reason = Start }, refl, sym (only (added triple) a need refl));
  ordered = λ i j x y lt at at'. absurd (none i j y lt at');
  parent = λ b. (λ is. absurd (Contains-none b is), λ above. absurd (no_up (added triple) above.0 above.1 above.2 above.4));
  parent_rises = search rules;
}
  where
    one : (i : ℕ) (x : ProofItem) → slice_get the_entry.items i ≡ Some x → IsItem system page 2 (triple ∷ []) (added triple) x
    one zero x at =
        let same : record { atom = 1; reason = Start } ≡ x = cc in
        subst (IsItem system page 2 (triple ∷ []) (added triple)) same (record { needed = top triple; round = 0; first = one_first; reason = refl })
    one (suc i) x at = cc

    none : (i j : ℕ) (y : ProofItem) → i < j → slice_get the_entry.items j ≡ Some y → ⊥
    none i zero y lt at = omega arith
    none i (suc j) y lt at = cc

first_is : IsItem system page 2 (triple ∷ []) (page_node []) (record { atom = 0; reason = Start })
first_is = record { needed = by_spawner (page_node []) 2 1 0 0 goal two_chosen; round = 0; first = zero_first; reason = refl }

last_is : IsItem system page 2 (triple ∷ []) (page_node []) (record { atom = 2; reason = Down 0 (Grown 0 0) })
last_is = record { needed = goal; round = 1; first = two_first; reason = (0, refl, refl) }

proof_is : IsCanonical system page 2 proof
proof_is = record {
  triples = triple ∷ [];
  count = refl;
  different = λ i j t at at'. one_place i j t at at';
  entries = λ n t x at at'. the_one n t x at at';
  steps = λ n x at. no_steps n x at;
  each = λ i x at. items i x at;
  all = λ v a need. let o = only (page_node v) a need in elim o.1 [
    | inl same ↦ (0, first_item, refl, sym o.0, sym same)
    | inr same ↦ (1, last_item, refl, sym o.0, sym same)
  ];
  ordered = λ i j x y lt at at'. in_order i j x y lt at at';
  walked = new 0 0 1 [] (done 0) (done 1);
}
  where
    one_place : (i j : ℕ) (t : Triple) → slice_get (triple ∷ []) i ≡ Some t → slice_get (triple ∷ []) j ≡ Some t → i ≡ j
    one_place zero zero t at at' = refl
    one_place zero (suc j) t at at' = cc
    one_place (suc i) j t at at' = cc

    the_one : (n : ℕ) (t : Triple) (x : Entry) → slice_get (triple ∷ []) n ≡ Some t → slice_get proof.entries n ≡ Some x → IsEntryOf system page 2 (triple ∷ []) t x
    the_one zero t x at at' =
        let t' : triple ≡ t = cc in
        let x' : the_entry ≡ x = cc in
        subst (λ z. IsEntryOf system page 2 (triple ∷ []) z x) t' (subst (λ z. IsEntryOf system page 2 (triple ∷ []) triple z) x' entry_is)
    the_one (suc n) t x at at' = cc

    no_steps : (n : ℕ) (x : Entry) → slice_get proof.entries n ≡ Some x → x.steps ≡ min (entry_count system proof.entries (suc n) n) MOST_STEPS
    no_steps zero x at = let x' : the_entry ≡ x = cc in ap (λ (z : Entry). z.steps) (sym x')
    no_steps (suc n) x at = cc

    items : (i : ℕ) (x : PageItem) → slice_get proof.page i ≡ Some x → IsItem system page 2 (triple ∷ []) (page_node x.at) x.item
    items zero x at = let same : first_item ≡ x = cc in subst (λ (z : PageItem). IsItem system page 2 (triple ∷ []) (page_node z.at) z.item) same first_is
    items (suc zero) x at = let same : last_item ≡ x = cc in subst (λ (z : PageItem). IsItem system page 2 (triple ∷ []) (page_node z.at) z.item) same last_is
    items (suc (suc i)) x at = cc

    in_order : (i j : ℕ) (x y : PageItem) → i < j → slice_get proof.page i ≡ Some x → slice_get proof.page j ≡ Some y → Comes system page 2 (page_node x.at) x.item.atom (page_node y.at) y.item.atom (Before x.at y.at ⊎ ((x.at ≡ y.at) × (x.item.atom < y.item.atom)))
    in_order zero zero x y lt at at' = absurd (omega arith)
    in_order zero (suc zero) x y lt at at' =
        let x' : first_item ≡ x = cc in
        let y' : last_item ≡ y = cc in
        let base : Comes system page 2 (page_node first_item.at) first_item.item.atom (page_node last_item.at) last_item.item.atom (Before first_item.at last_item.at ⊎ ((first_item.at ≡ last_item.at) × (first_item.item.atom < last_item.item.atom)))
        = (0, 1, zero_first, two_first, inl (omega arith)) in
        subst (λ (z : PageItem). Comes system page 2 (page_node z.at) z.item.atom (page_node y.at) y.item.atom (Before z.at y.at ⊎ ((z.at ≡ y.at) × (z.item.atom < y.item.atom)))) x'
        (subst (λ (z : PageItem). Comes system page 2 (page_node first_item.at) first_item.item.atom (page_node z.at) z.item.atom (Before first_item.at z.at ⊎ ((first_item.at ≡ z.at) × (first_item.item.atom < z.item.atom)))) y' base)
    in_order zero (suc (suc j)) x y lt at at' = cc
    in_order (suc zero) zero x y lt at at' = absurd (omega arith)
    in_order (suc zero) (suc zero) x y lt at at' = absurd (omega arith)
    in_order (suc zero) (suc (suc j)) x y lt at at' = cc
    in_order (suc (suc i)) j x y lt at at' = cc

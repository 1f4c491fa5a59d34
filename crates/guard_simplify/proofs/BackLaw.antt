-- The second half of the law: each list of simple steps goes back to rule steps.
use Rattle.std.proofs.Common.{◌≡◌, ℕ, List, ◌++◌, map, Some, All, Contains, refl, sym, subst, inl, inr}
use Rattle.std.specs.Prelude.{slice_get}
use Rattle.std.proofs.lemmas.List.Elements.{All-contains, Contains-append_cases}
use Rattle.tp_base.proofs.Lists.{Contains-at}
use Rattle.tree_sem.proofs.NodeLemmas.{map-Contains}
use Rattle.tree_sem.specs.Trees.{LabelTree}
use Rattle.guard_sem.specs.Guards.{Guard}
use Rattle.guard_sem.specs.declared.rules.Rule.{Rule}
use Rattle.guard_simplify.specs.Simplified.{atom_for}
use Rattle.guard_simplify.specs.Law.{IsOver, IsRuleOver, GoesBack}
use Rattle.guard_simplify.proofs.GoingBack.{steps_back, no_step_back}
use Rattle.tree_sem.specs.Nodes.{IsTreeOver}

module _ (rules : List Rule) (guards : List Guard) (n : ℕ) (over : (g : Guard) → Contains (map (λ (r : Rule). r.guard) rules ++ guards) g → IsOver n g)
    (rules_over : (i : ℕ) (r : Rule) → slice_get rules i ≡ Some r → IsRuleOver n r) where
  pub goes_back : (t : LabelTree) → IsTreeOver n t → GoesBack rules guards n t
  goes_back t over_t by legal =
      let b = steps_back rules guards n t over rules_over by t (no_step_back rules guards n t over rules_over over_t) legal in (
        b.steps,
        b.image,
        b.legal,
        record { root = b.root; child = b.child; node = b.node; atoms = λ v a lt has. (b.says v a has).plain lt },
        (λ v x listed has. (b.says v (atom_for rules guards n x) has).auxiliary x (listed, refl)),
      )

-- by the elements of the two lists
pub each_rule_over : (rules : List Rule) (n : ℕ) → All (IsRuleOver n) rules → (i : ℕ) (r : Rule) → slice_get rules i ≡ Some r → IsRuleOver n r
each_rule_over rules n rules_over i r rule = All-contains (IsRuleOver n) rules r rules_over (Contains-at rules i r rule)

pub each_guard_over : (rules : List Rule) (guards : List Guard) (n : ℕ) → All (IsRuleOver n) rules → All (IsOver n) guards → (g : Guard) → Contains (map (λ (r : Rule). r.guard) rules ++ guards) g → IsOver n g
each_guard_over rules guards n rules_over guards_over g is = elim (Contains-append_cases (map (λ (r : Rule). r.guard) rules) guards g is) [
  | inl of_rule ↦ let of = map-Contains (λ (r : Rule). r.guard) rules g of_rule in subst (IsOver n) (sym of.2) (All-contains (IsRuleOver n) rules of.0 rules_over of.1).guard
  | inr handed ↦ All-contains (IsOver n) guards g guards_over handed
]

pub goes_back_over : (rules : List Rule) (guards : List Guard) (n : ℕ) → All (IsRuleOver n) rules → All (IsOver n) guards → (t : LabelTree) → IsTreeOver n t → GoesBack rules guards n t
goes_back_over rules guards n rules_over guards_over t over_t = goes_back rules guards n (each_guard_over rules guards n rules_over guards_over) (each_rule_over rules n rules_over) t over_t

-- The steps of statements and the steps of their rules make the same trees.
use Rattle.std.proofs.Common.{◌≡◌, ℕ, zero, suc, List, [], ◌∷◌, ◌++◌, Option, Some, None, option_map, unwrap_or, IsSomeAnd, refl, sym, ap, ◌∙◌, subst}
use Rattle.std.specs.Prelude.{slice_get}
use Rattle.tree_sem.specs.declared.actions.Action.{Action}
use Rattle.tree_sem.specs.declared.actions.Action.TheVariants.{Classes, Inside, Beside}
use Rattle.tree_sem.specs.declared.actions.Step.{Step}
use Rattle.tree_sem.specs.Trees.{LabelTree, edit_at}
use Rattle.tree_sem.specs.Paths.{parent_of}
use Rattle.tree_sem.specs.Actions.{add_trees, act}
use Rattle.tree_sem.proofs.PathLemmas.{parent_of-child, child_of_parent}
use Rattle.jq_sem.specs.Statements.{Selected}
use Rattle.jq_stmts.specs.Statements.{Statement}
use Rattle.jq_sem.specs.Reachability as script
use Rattle.jq_sem.proofs.StepLemmas as of_statements
use Rattle.guard_sem.specs.Guards.{child}
use Rattle.guard_sem.specs.Holding.{Holds}
use Rattle.guard_sem.specs.declared.rules.Rule.{Rule}
use Rattle.guard_sem.specs.Rules.{RuleStep, taken, after_rule, IsLegal, after_step, end_of, AreLegal}
use Rattle.rule_translate.specs.Translation.{guard_of, taker, rule_of, rules_of}
use Rattle.rule_translate.specs.Laws.{AsRules, AsStatements, AreAlike}
use Rattle.rule_translate.proofs.TranslationLemmas.{guard_selects_is}

get_rule : (stmts : List Statement) (i : ℕ) → slice_get (rules_of stmts) i ≡ option_map rule_of (slice_get stmts i)
get_rule [] i = refl
get_rule (s ∷ stmts) zero = refl
get_rule (s ∷ stmts) (suc i) = get_rule stmts i

one_rule : (t : LabelTree) (stmts : List Statement) (i : ℕ) (s : Statement) (w : List ℕ) (after : LabelTree) → slice_get stmts i ≡ Some s → Holds t w (taker s.action (guard_of s)) → edit_at w (taken s.action) t ≡ after → AsRules t stmts after
one_rule t stmts i s w after at holds same =
    let rule : slice_get (rules_of stmts) i ≡ Some (rule_of s) = get_rule stmts i ∙ ap (option_map rule_of) at in
    record {
      steps = record { rule = i; at = w } ∷ [];
      legal = ((rule_of s, rule, holds), tt);
      ends = ap (λ (o : Option Rule). after_rule o w t) rule ∙ same;
    }

as_rules : (t : LabelTree) (stmts : List Statement) (i : ℕ) (v : List ℕ) (s : Statement) → slice_get stmts i ≡ Some s → Selected t s v → (a : Action) → s.action ≡ a → AsRules t stmts (act a v t)
as_rules t stmts i v s at selected (Classes classes) same =
    one_rule t stmts i s v (act (Classes classes) v t) at (subst (λ z. Holds t v (taker z (guard_of s))) (sym same) ((guard_selects_is t s v).1 selected)) (ap (λ z. edit_at v (taken z) t) same)
as_rules t stmts i v s at selected (Inside forest) same =
    one_rule t stmts i s v (act (Inside forest) v t) at (subst (λ z. Holds t v (taker z (guard_of s))) (sym same) ((guard_selects_is t s v).1 selected)) (ap (λ z. edit_at v (taken z) t) same)
as_rules t stmts i v s at selected (Beside forest) same =
    elim (parent_of v) as (λ o. parent_of v ≡ o → AsRules t stmts (unwrap_or (option_map (λ p. edit_at p (add_trees forest.tops) t) o) t)) [
      | None ↦ λ e. record { steps = []; legal = tt; ends = refl }
      | Some p ↦ λ e.
          let last = child_of_parent v p e in
          let holds : Holds t p (child (guard_of s)) = (last.0, subst (λ z. Holds t z (guard_of s)) last.1 ((guard_selects_is t s v).1 selected)) in
          one_rule t stmts i s p (edit_at p (add_trees forest.tops) t) at (subst (λ z. Holds t p (taker z (guard_of s))) (sym same) holds) (ap (λ z. edit_at p (taken z) t) same)
    ] refl

step_as_rules : (t : LabelTree) (stmts : List Statement) (step : Step) → script.IsLegal t stmts step → AsRules t stmts (script.after_step t stmts step)
step_as_rules t stmts step legal =
    elim (slice_get stmts step.stmt) as (λ o. slice_get stmts step.stmt ≡ o → IsSomeAnd o (λ s. Selected t s step.at) → AsRules t stmts (script.after_statement o step.at t)) [
      | None ↦ λ e legal. absurd legal
      | Some s ↦ λ e legal. as_rules t stmts step.stmt step.at s e legal s.action refl
    ] refl legal

end_of-append : (t : LabelTree) (rules : List Rule) (a b : List RuleStep) → end_of t rules (a ++ b) ≡ end_of (end_of t rules a) rules b
end_of-append t rules [] b = refl
end_of-append t rules (x ∷ a) b = end_of-append (after_step t rules x) rules a b

AreLegal-append : (t : LabelTree) (rules : List Rule) (a b : List RuleStep) → AreLegal t rules a → AreLegal (end_of t rules a) rules b → AreLegal t rules (a ++ b)
AreLegal-append t rules [] b la lb = lb
AreLegal-append t rules (x ∷ a) b la lb = (la.0, AreLegal-append (after_step t rules x) rules a b la.1 lb)

-- each legal list of steps of statements is one of steps of rules, with the same end
pub statements_as_rules : (stmts : List Statement) (steps : List Step) (t : LabelTree) → script.AreLegal t stmts steps → AsRules t stmts (script.end_of t stmts steps)
statements_as_rules stmts [] t legal = record { steps = []; legal = tt; ends = refl }
statements_as_rules stmts (step ∷ steps) t legal =
    let first = step_as_rules t stmts step legal.0 in
    let rest = statements_as_rules stmts steps (script.after_step t stmts step) legal.1 in
    record {
      steps = first.steps ++ rest.steps;
      legal = AreLegal-append t (rules_of stmts) first.steps rest.steps first.legal (subst (λ z. AreLegal z (rules_of stmts) rest.steps) (sym first.ends) rest.legal);
      ends = end_of-append t (rules_of stmts) first.steps rest.steps ∙ ap (λ z. end_of z (rules_of stmts) rest.steps) first.ends ∙ rest.ends;
    }

one_statement : (t : LabelTree) (stmts : List Statement) (i : ℕ) (s : Statement) (v : List ℕ) (after : LabelTree) → slice_get stmts i ≡ Some s → Selected t s v → act s.action v t ≡ after → AsStatements t stmts after
one_statement t stmts i s v after at selected same = record {
  steps = record { stmt = i; at = v } ∷ [];
  legal = (subst (λ (o : Option Statement). IsSomeAnd o (λ s. Selected t s v)) (sym at) selected, tt);
  ends = ap (λ (o : Option Statement). script.after_statement o v t) at ∙ same;
}

as_statement : (t : LabelTree) (stmts : List Statement) (i : ℕ) (w : List ℕ) (s : Statement) → slice_get stmts i ≡ Some s → (a : Action) → s.action ≡ a → Holds t w (taker a (guard_of s)) → AsStatements t stmts (edit_at w (taken a) t)
as_statement t stmts i w s at (Classes classes) same holds = one_statement t stmts i s w _ at ((guard_selects_is t s w).0 holds) (ap (λ z. act z w t) same)
as_statement t stmts i w s at (Inside forest) same holds = one_statement t stmts i s w _ at ((guard_selects_is t s w).0 holds) (ap (λ z. act z w t) same)
as_statement t stmts i w s at (Beside forest) same holds =
    one_statement t stmts i s (w ++ holds.0 ∷ []) _ at ((guard_selects_is t s (w ++ holds.0 ∷ [])).0 holds.1)
    (ap (λ z. act z (w ++ holds.0 ∷ []) t) same ∙ ap (λ (o : Option (List ℕ)). unwrap_or (option_map (λ p. edit_at p (add_trees forest.tops) t) o) t) (parent_of-child w holds.0))

step_as_statement : (t : LabelTree) (stmts : List Statement) (step : RuleStep) → IsLegal t (rules_of stmts) step → AsStatements t stmts (after_step t (rules_of stmts) step)
step_as_statement t stmts step legal =
    elim (slice_get stmts step.rule) as (λ o. slice_get stmts step.rule ≡ o → AsStatements t stmts (after_step t (rules_of stmts) step)) [
      | None ↦ λ e. let none : slice_get (rules_of stmts) step.rule ≡ None = get_rule stmts step.rule ∙ ap (option_map rule_of) e in let rule = legal.1 in absurd (cc)
      | Some s ↦ λ e.
          let at : slice_get (rules_of stmts) step.rule ≡ Some (rule_of s) = get_rule stmts step.rule ∙ ap (option_map rule_of) e in
          let rule = legal.1 in
          let same : rule_of s ≡ legal.0 = cc in
          let holds : Holds t step.at (taker s.action (guard_of s)) = subst (λ (z : Rule). Holds t step.at z.guard) (sym same) legal.2 in
          subst (λ (o : Option Rule). AsStatements t stmts (after_rule o step.at t)) (sym at) (as_statement t stmts step.rule step.at s e s.action refl holds)
    ] refl

-- and each legal list of steps of rules is one of steps of statements
pub rules_as_statements : (stmts : List Statement) (steps : List RuleStep) (t : LabelTree) → AreLegal t (rules_of stmts) steps → AsStatements t stmts (end_of t (rules_of stmts) steps)
rules_as_statements stmts [] t legal = record { steps = []; legal = tt; ends = refl }
rules_as_statements stmts (step ∷ steps) t legal =
    let first = step_as_statement t stmts step legal.0 in
    let rest = rules_as_statements stmts steps (after_step t (rules_of stmts) step) legal.1 in
    record {
      steps = first.steps ++ rest.steps;
      legal = of_statements.AreLegal-append t stmts first.steps rest.steps first.legal (subst (λ z. script.AreLegal z stmts rest.steps) (sym first.ends) rest.legal);
      ends = of_statements.end_of-append t stmts first.steps rest.steps ∙ ap (λ z. script.end_of z stmts rest.steps) first.ends ∙ rest.ends;
    }

pub steps_alike : (t : LabelTree) (stmts : List Statement) → AreAlike t stmts
steps_alike t stmts = record { as_rules = λ steps legal. statements_as_rules stmts steps t legal; as_statements = λ steps legal. rules_as_statements stmts steps t legal }

-- Laws: exact statements are within those that are judged in their place.
--     IsNarrower t s         what the statement selects exactly, the wide one selects
--     AreNarrower t stmts    legal lists of exact steps are legal lists of the wide statements' steps
--     ReachesLess t stmts s   what exact events reach, losses among them, events of the wide statements reach
--     ArePlain t stmts       steps of statements without sharp calls are legal exactly where they are legal
--     IsPlain t s            a statement whose calls are judged as they are selects exactly what it selects
use Rattle.std.specs.Prelude.{◌≡◌, ◌↔◌, ◌⊎◌, ℕ, true, false, List, [], ◌∷◌, IsSomeAnd, slice_get}
use Rattle.tree_sem.specs.Trees.{LabelTree}
use Rattle.tree_sem.specs.declared.actions.Step.{Step}
use Rattle.jq_sem.specs.Statements.{Selected}
use Rattle.jq_sem.specs.Reachability.{AreLegal}
use Rattle.jq_stmts.specs.Sharp.{ExactStatement, wide_of, wides, is_sharp_statement}
use Rattle.jq_sem.specs.Events.{ReachesWithLosses}
use Rattle.sel_text.specs.Selectors.{Selector}
use Rattle.jq_exact.specs.Events.{ReachesExactly}
use Rattle.jq_exact.specs.Exact.{SelectedExactly, AreLegalExactly}

abbrev pub IsNarrower : LabelTree → ExactStatement → Type 0
IsNarrower t s = (v : List ℕ) → SelectedExactly t s v → Selected t (wide_of s) v

abbrev pub AreNarrower : LabelTree → List ExactStatement → Type 0
AreNarrower t stmts = (steps : List Step) → AreLegalExactly t stmts steps → AreLegal t (wides stmts) steps

abbrev pub ReachesLess : LabelTree → List ExactStatement → Selector → Type 0
ReachesLess t stmts s = ReachesExactly t stmts s → ReachesWithLosses t (wides stmts) s

abbrev pub IsPlain : LabelTree → ExactStatement → Type 0
IsPlain t s = is_sharp_statement s ≡ false → (v : List ℕ) → SelectedExactly t s v ↔ Selected t (wide_of s) v

-- a step is of a statement with a sharp call
abbrev pub IsSharpStep : List ExactStatement → Step → Type 0
IsSharpStep stmts step = IsSomeAnd (slice_get stmts step.stmt) (λ s. is_sharp_statement s ≡ true)

abbrev pub HasSharpStep : List ExactStatement → List Step → Type 0
HasSharpStep stmts [] = ⊥
HasSharpStep stmts (step ∷ steps) = IsSharpStep stmts step ⊎ HasSharpStep stmts steps

abbrev pub ArePlain : LabelTree → List ExactStatement → Type 0
ArePlain t stmts = (steps : List Step) → (¬ HasSharpStep stmts steps) → AreLegal t (wides stmts) steps → AreLegalExactly t stmts steps

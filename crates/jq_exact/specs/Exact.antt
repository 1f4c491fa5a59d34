-- What a statement selects exactly, and the trees that a script can make then.
--     IsMadeExactly t S c v      v is in the set that a call makes of the set S
--     InExactly t this chain v   v is in the set of the chain, with the node `this`
--     SelectedExactly t s v      the statement selects v
--     IsLegalExactly t stmts s   the step's statement selects its node
--     AreLegalExactly            each step is legal in the tree before it
--     IsBrokenAt t stmts steps i the step i is the first that isn't legal
use Rattle.std.specs.Prelude.{ℕ, zero, suc, List, [], ◌∷◌, ◌++◌, reverse, take, Option, Some, None, IsSomeAnd, slice_get}
use Rattle.tree_sem.specs.Series.{AreLegalBy}
use Rattle.tree_sem.specs.Trees.{LabelTree}
use Rattle.tree_sem.specs.declared.actions.Step.{Step}
use Rattle.node_marks.specs.Marks.{HasOtherIn, IsFree, IsFirstIn}
use Rattle.jq_sem.specs.Statements.{FitsOne, MayFit, IsMade, InRoot}
use Rattle.jq_stmts.specs.Statements.{Root, matched, back}
use Rattle.jq_sem.specs.Reachability.{after_step, end_of}
use Rattle.jq_stmts.specs.Sharp.{ExactCall, plain, closest, siblings, first, ExactChain, ExactStatement, wides}

abbrev pub IsMadeExactly : LabelTree → (List ℕ → Type 0) → ExactCall → List ℕ → Type 0
IsMadeExactly t S (plain c) v = IsMade t S c v
-- v is a node of S, or above one, and the first from there upward that one of the compounds fits
IsMadeExactly t S (closest cs) v = FitsOne t cs v × (q : List ℕ) × S (v ++ q) × IsFree (FitsOne t cs) v q
-- another child of the parent of v is in S
IsMadeExactly t S (siblings cs) v = MayFit t cs v × HasOtherIn S v
-- no node of S stands before v in the document
IsMadeExactly t S first v = IsFirstIn S v

abbrev pub MadeExactly : LabelTree → (List ℕ → Type 0) → List ExactCall → List ℕ → Type 0
MadeExactly t S [] v = S v
MadeExactly t S (c ∷ earlier) v = IsMadeExactly t (MadeExactly t S earlier) c v

-- what makes the set n sets before that of the calls, which stand last first: a `back` goes back to the set before the calls that it follows, and where no set is before, nothing is in it
abbrev pub set_before : ℕ → Root → List ExactCall → Root × List ExactCall
set_before n root (plain back ∷ earlier) = set_before (suc n) root earlier
set_before (suc n) root (c ∷ earlier) = set_before n root earlier
set_before (suc n) root [] = (matched [], [])
set_before zero root (c ∷ earlier) = let s = set_before zero root earlier in (s.0, c ∷ s.1)
set_before zero root [] = (root, [])

abbrev pub stands : Root → List ExactCall → Root × List ExactCall
stands root calls = set_before zero root (reverse calls)

abbrev pub InExactly : LabelTree → Option (List ℕ) → ExactChain → List ℕ → Type 0
InExactly t u chain v = let s = stands chain.root chain.calls in MadeExactly t (InRoot t u s.0) s.1 v

-- each handler has a node, which the next one and at last the chain name by `this`
abbrev pub UnderExactly : LabelTree → Option (List ℕ) → List ExactChain → ExactChain → List ℕ → Type 0
UnderExactly t u [] chain v = InExactly t u chain v
UnderExactly t u (h ∷ handlers) chain v = (w : List ℕ) × InExactly t u h w × UnderExactly t (Some w) handlers chain v

abbrev pub SelectedExactly : LabelTree → ExactStatement → List ℕ → Type 0
SelectedExactly t s v = UnderExactly t None s.handlers s.chain v

-- a step is legal where its statement selects its node exactly; it does what the statement in its place does
abbrev pub IsLegalExactly : LabelTree → List ExactStatement → Step → Type 0
IsLegalExactly t stmts step = IsSomeAnd (slice_get stmts step.stmt) (λ s. SelectedExactly t s step.at)

abbrev pub after_exact_step : LabelTree → List ExactStatement → Step → LabelTree
after_exact_step t stmts step = after_step t (wides stmts) step

abbrev pub AreLegalExactly : LabelTree → List ExactStatement → List Step → Type 0
AreLegalExactly t stmts steps = AreLegalBy IsLegalExactly after_exact_step t stmts steps

abbrev pub IsBrokenAt : LabelTree → List ExactStatement → List Step → ℕ → Type 0
IsBrokenAt t stmts steps i =
    AreLegalExactly t stmts (take i steps) × IsSomeAnd (slice_get steps i) (λ step. ¬ IsLegalExactly (end_of t (wides stmts) (take i steps)) stmts step)

use Rattle.std.proofs.Common.{◌↔◌, ℕ, List, length}
use Rattle.jq_sem.specs.Statements.{Selected}
use Rattle.jq_stmts.specs.Views.{statement_of}
use Rattle.jq_sem.proofs.TogetherLemmas.{IsLeft}
use Rattle.jq_sem.proofs.evaluation.selected.Given as goal

-- with what `this` may name now, and the handlers that are left
abbrev pub invariant-handlers : goal.invariant-handlers
invariant-handlers l = (v : List ℕ) → Selected l.tree (statement_of l.s) v ↔ IsLeft l.tree l.s l.this l.rest v

abbrev pub decreases-handlers : goal.decreases-handlers
decreases-handlers l = length l.rest

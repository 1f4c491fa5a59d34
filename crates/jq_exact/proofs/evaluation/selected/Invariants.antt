use Rattle.std.proofs.Common.{◌↔◌, ℕ, List, drop}
use Rattle.jq_stmts.specs.SharpViews.{exact_of}
use Rattle.jq_exact.specs.Exact.{SelectedExactly}
use Rattle.jq_exact.proofs.TogetherLemmas.{IsLeft}
use Rattle.jq_exact.proofs.evaluation.selected.Given as goal

-- with what `this` may name now, and the handlers that are left
abbrev pub invariant-handlers : goal.invariant-handlers
invariant-handlers l = (v : List ℕ) → SelectedExactly l.tree (exact_of l.s) v ↔ IsLeft l.tree l.s l.named l.number (drop l.number l.s.wide.handlers) v

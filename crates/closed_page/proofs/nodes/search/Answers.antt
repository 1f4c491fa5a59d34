use Rattle.std.proofs.Common.{◌≡◌, ℕ, Some, slice_get}
use Rattle.std.proofs.lemmas.Bool.{both_ways}
use Rattle.closed_page.proofs.NodeLemmas.{missing_next, missing_all}
use Rattle.closed_page.proofs.nodes.search.Goals as goal

pub loop-i-preserved : goal.loop-i-preserved
loop-i-preserved c =
    missing_next c.args.row.now (λ (k : ℕ). slice_get c.args.steps.now k ≡ Some c.args.step) c.loop-i.i
    (λ here. both_ways c.has_step.result c.if-has_step.false (c.has_step.ensures.1 here)) c.loop-i.invariant

pub returns-clause-none : goal.returns-clause-none
returns-clause-none c = λ none. missing_all c.args.row.now (λ (k : ℕ). slice_get c.args.steps.now k ≡ Some c.args.step) c.loop-i.i c.loop-i-test.false c.loop-i.invariant

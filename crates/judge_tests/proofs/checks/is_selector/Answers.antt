use Rattle.judge_tests.proofs.OverLemmas.{selector_over}
use Rattle.judge_tests.proofs.checks.is_selector.Goals as goal

pub returns : goal.returns
returns c =
    let over = rw c.items.ensures at c.are_compounds.ensures in
    λ is. selector_over c.args.n c.args.selector.now.parts c.args.selector.now.joins (over is)

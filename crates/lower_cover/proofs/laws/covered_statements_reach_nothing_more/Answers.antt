use Rattle.sel_text.specs.Views.{selector_of}
use Rattle.jq_stmts.specs.Views.{statements_of}
use Rattle.lower_cover.proofs.WiderLemmas.{covered_reach}
use Rattle.lower_cover.proofs.laws.covered_statements_reach_nothing_more.Goals as goal

pub returns : goal.returns
returns c = covered_reach c.args.asked.now (statements_of c.args.output.now) (statements_of c.args.stmts.now) c.args.page.now c.requires.covered (selector_of c.args.s.now) c.requires.asks

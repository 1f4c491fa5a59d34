use Rattle.sel_text.specs.Views.{selector_of}
use Rattle.jq_stmts.specs.Views.{statements_of}
use Rattle.lower_cover.proofs.EditLemmas.{edits_reach}
use Rattle.lower_cover.proofs.laws.edits_reach_nothing_more.Goals as goal

pub returns-clause-unmatched : goal.returns-clause-unmatched
returns-clause-unmatched c unused t edits v matches =
    unused (edits_reach c.args.asked.now (statements_of c.args.stmts.now) c.args.page.now (selector_of c.args.s.now) c.requires.asks (t, edits, v, matches))

pub returns-clause-reaches : goal.returns-clause-reaches
returns-clause-reaches c = edits_reach c.args.asked.now (statements_of c.args.stmts.now) c.args.page.now (selector_of c.args.s.now) c.requires.asks

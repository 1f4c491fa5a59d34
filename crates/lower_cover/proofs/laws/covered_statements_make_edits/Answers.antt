use Rattle.jq_stmts.specs.Views.{statements_of}
use Rattle.jq_sem.specs.Events.{end_of_events}
use Rattle.lower_cover.proofs.EditLemmas.{edits_embed}
use Rattle.lower_cover.proofs.WiderLemmas.{do_events, covered_edits}
use Rattle.lower_cover.proofs.laws.covered_statements_make_edits.Goals as goal

pub returns-clause-edits : goal.returns-clause-edits
returns-clause-edits c = do_events c.args.asked.now (statements_of c.args.output.now) (statements_of c.args.stmts.now) c.args.page.now c.requires.covered

pub returns-clause-embeds : goal.returns-clause-embeds
returns-clause-embeds c events legal =
    edits_embed c.args.asked.now (statements_of c.args.output.now) c.args.page.now (end_of_events c.args.page.now (statements_of c.args.stmts.now) events)
    (covered_edits c.args.asked.now (statements_of c.args.output.now) (statements_of c.args.stmts.now) c.args.page.now c.requires.covered events legal)

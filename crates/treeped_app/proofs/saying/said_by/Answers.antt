use Rattle.std.proofs.Common.{sym, ap, ◌∙◌}
use Rattle.jq_stmts.specs.Sharp.{wides}
use Rattle.treeped_app.specs.Views.{inputs_of}
use Rattle.jq_exact.proofs.MarkLemmas.{wides_marked}
use Rattle.treeped_app.proofs.saying.said_by.Goals as goal

pub returns-clause-inputs : goal.returns-clause-inputs
returns-clause-inputs c =
    let old = c.args.inputs.script in
    let new = c.in_ok-settled.settled.script in
    let stmts = sym (wides_marked new.stmts.items new.sharp.items) ∙ ap wides c.in_ok-settled.ensures.same ∙ wides_marked old.stmts.items old.sharp.items in
    λ j. record (inputs_of c.args.inputs) { stmts = stmts j; exact = c.in_ok-settled.ensures.same j }

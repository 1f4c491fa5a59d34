use Rattle.std.proofs.Common.{length}
use Rattle.command_words.specs.declared.words.Mode.TheVariants.{Dead}
use Rattle.dead_script.specs.Probes.{all_probes}
use Rattle.dead_script.specs.Verdicts.{verdicts}
use Rattle.dead_script.proofs.DeadStatementLemmas.{live_left, dead_do_nothing}
use Rattle.dead_script.proofs.VerdictLemmas.{verdicts_right}
use Rattle.treeped_app.specs.Modes.{guards_in}
use Rattle.treeped_app.proofs.DeadLemmas.{all_told}
use Rattle.treeped_app.proofs.laws.dead_does_nothing.Goals as goal

pub returns : goal.returns
returns c = λ limits i items others are none left without.
    let right = verdicts_right i.tree i.stmts i.stmts others (all_told i.tree i.stmts (guards_in Dead i) (length i.names) limits (all_probes i.stmts) others are.are.others_right none) in
    dead_do_nothing i.tree i.stmts left (live_left i.tree i.stmts (verdicts i.stmts others) left right without)

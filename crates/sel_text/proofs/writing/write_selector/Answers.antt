use Rattle.std.proofs.lemmas.Grind.{common_steps}
use Rattle.std.proofs.Common.{arith}
use Rattle.sel_text.proofs.PlainText.{reads_as}
use Rattle.sel_text.proofs.writing.write_selector.Goals as goal

pub returns-clause-text : goal.returns-clause-text
returns-clause-text c = grind (arith, common_steps)

pub returns-clause-reads_back : goal.returns-clause-reads_back
returns-clause-reads_back c = reads_as _ _ _ (returns-clause-text c)

use Rattle.std.proofs.Common.{List, length, sym, subst}
use Rattle.usage_report.specs.Answers.{Answer}
use Rattle.judge.specs.Outcomes.{system_in}
use Rattle.treeped_app.specs.Modes.{extra_in, AreJudgedOf}
use Rattle.treeped_app.proofs.ExactLemmas.{all_stay}
use Rattle.treeped_app.proofs.laws.plain_is_right.Goals as goal

pub returns : goal.returns
returns c = λ m limits i items others are none.
    subst (λ (z : List Answer). AreJudgedOf m limits i z others) (sym (all_stay i.tree i.exact (system_in i.stmts i.sheet.items (extra_in m i) (length i.names)) none are.judged items are.settled)) are.are

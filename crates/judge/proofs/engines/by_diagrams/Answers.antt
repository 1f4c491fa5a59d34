use Rattle.std.proofs.Common.{◌≡◌, Err, inr, rules}
use Rattle.simple_core.specs.declared.summaries.GainFault.TheVariants.{Spent}
use Rattle.judge.proofs.engines.by_diagrams.Goals as goal

pub returns-in_ok-answers-in-Err-Spent : goal.returns-in_ok-answers-in-Err-Spent
returns-in_ok-answers-in-Err-Spent c =
    let is : c.build.result ≡ Err Spent = search rules in
    inr (rw c.items.ensures at c.in_ok-answers-in-Err-Spent.ensures, c.build.ensures.spent is)

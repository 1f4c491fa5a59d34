use Rattle.std.proofs.Common.{◌≡◌, Err, inl, inr, rules}
use Rattle.simple_core.specs.declared.summaries.GainFault.TheVariants.{Spent}
use Rattle.judge.proofs.engines.by_empty_table.Goals as goal

pub returns-in_ok-answers-in-Ok : goal.returns-in_ok-answers-in-Ok
returns-in_ok-answers-in-Ok c = inl (c.in-Ok.closed, c.in-Ok.ensures.closed, c.in_ok-answers-in-Ok.ensures, rw c.requires.pairs at c.in-Ok.ensures.few)

pub returns-in_ok-answers-in-Err-Spent : goal.returns-in_ok-answers-in-Err-Spent
returns-in_ok-answers-in-Err-Spent c =
    let is : c.close_by_table.result ≡ Err Spent = search rules in
    inr (rw c.items.ensures at c.in_ok-answers-in-Err-Spent.ensures, rw c.requires.pairs at (c.close_by_table.ensures.spent is))

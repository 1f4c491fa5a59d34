use Rattle.need_table.proofs.FillLemmas.{more_twice}
use Rattle.need_table.proofs.settling.settle.Goals as goal

pub returns-in_err-k-in-Some-clause-more : goal.returns-in_err-k-in-Some-clause-more
returns-in_err-k-in-Some-clause-more c = more_twice c.args.table.now c.rounds.table c.advance.new.table c.rounds.invariant.more c.advance.ensures.more

pub rounds-preserved-in-Some : goal.rounds-preserved-in-Some
rounds-preserved-in-Some c = record {
  going = c.in_ok-k-in-Some.ensures.going;
  early = c.in_ok-k-in-Some.ensures.early;
  more = more_twice c.args.table.now c.rounds.table c.advance.new.table c.rounds.invariant.more c.advance.ensures.more;
  needed = λ qs all. c.in_ok-k-in-Some.ensures.needed qs (c.rounds.invariant.needed qs all);
}

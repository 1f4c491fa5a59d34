use Rattle.std.proofs.Common.{take}
use Rattle.class_adding.specs.Fresh.{AreNewIn}
use Rattle.class_adding.proofs.looking.new_in.Given as goal

abbrev pub invariant-loop-i : goal.invariant-loop-i
invariant-loop-i l = AreNewIn l.own (take l.i l.given) l.news

use Rattle.std.proofs.Common.{◌≡◌, [], take}
use Rattle.need_table.specs.Tables.{fresh_of}
use Rattle.need_table.proofs.entries.firsts_of.Given as goal

abbrev pub invariant-loop-i : goal.invariant-loop-i
invariant-loop-i l = l.firsts.items ≡ fresh_of [] 0 (take l.i l.label)

use Rattle.std.proofs.Common.{◌≡◌, take}
use Rattle.pair_table.specs.Hashes.{hash_of}
use Rattle.pair_table.proofs.pairs.hash_of.Given as goal

abbrev pub invariant-loop-i : goal.invariant-loop-i
invariant-loop-i l = l.hash ≡ hash_of l.kind (take l.i l.label)

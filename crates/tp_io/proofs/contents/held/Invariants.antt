use Rattle.std.proofs.Common.{◌≡◌, length}
use Rattle.tp_io.specs.MemoryFiles.{contents_of, held}
use Rattle.tp_io.proofs.contents.held.Given as goal

-- what the entries that are left hold is what all of them hold
abbrev pub invariant-loop-entries : goal.invariant-loop-entries
invariant-loop-entries l = held (contents_of l.entries) l.name ≡ held (contents_of l.initial.entries) l.name

abbrev pub decreases-loop-entries : goal.decreases-loop-entries
decreases-loop-entries l = length l.entries

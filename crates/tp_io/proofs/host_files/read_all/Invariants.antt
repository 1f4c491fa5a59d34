use Rattle.std.proofs.Common.{◌≡◌, ◌+◌, ◌-◌, List, ℕ, ◌++◌, vec_len}
use Rattle.std.specs.Io.KnownBytes.{Consumes}
use Rattle.tp_base.specs.declared.places.TheConstants.{MOST_BYTES}
use Rattle.tp_io.proofs.host_files.read_all.Given as goal

-- what was read stands behind what was there
abbrev pub invariant-pieces : goal.invariant-pieces
invariant-pieces g l = (got : List ℕ) × (l.into.items ≡ l.initial.into.items ++ got)
    × Consumes (g.F.Read.remaining l.initial.file) (g.F.Read.remaining l.file) got

abbrev pub decreases-pieces : goal.decreases-pieces
decreases-pieces g l = MOST_BYTES + 1 - vec_len l.into

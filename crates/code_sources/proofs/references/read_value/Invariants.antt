use Rattle.std.proofs.Common.{◌≡◌, length}
use Rattle.code_sources.specs.References.{with_part, said_from}
use Rattle.code_sources.proofs.references.read_value.Given as goal

abbrev pub invariant-parts : goal.invariant-parts
invariant-parts l = with_part l.letters.items l.is_sure (said_from 0 l.rest) ≡ said_from 0 l.value

abbrev pub decreases-parts : goal.decreases-parts
decreases-parts l = length l.rest

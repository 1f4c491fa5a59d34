use Rattle.std.proofs.Common.{◌≡◌, length}
use Rattle.code_sources.specs.Scripts.{holds_markup}
use Rattle.code_sources.proofs.scripts.holds_markup.Given as goal

abbrev pub invariant-bytes : goal.invariant-bytes
invariant-bytes l = holds_markup l.rest ≡ holds_markup l.text

abbrev pub decreases-bytes : goal.decreases-bytes
decreases-bytes l = length l.rest

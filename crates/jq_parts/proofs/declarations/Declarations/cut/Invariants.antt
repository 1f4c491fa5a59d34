use Rattle.std.proofs.Common.{◌≡◌, take, length}
use Rattle.jq_parts.proofs.declarations.Declarations.cut.Given as goal

abbrev pub invariant-declarations : goal.invariant-declarations
invariant-declarations l = take l.count l.self ≡ take l.count l.fn.self

abbrev pub decreases-declarations : goal.decreases-declarations
decreases-declarations l = length l.self

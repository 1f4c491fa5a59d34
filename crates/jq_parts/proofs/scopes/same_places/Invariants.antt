use Rattle.std.proofs.Common.{◌≡◌, length, bytes_eq}
use Rattle.jq_parts.specs.Scopes.{places_of}
use Rattle.jq_parts.specs.ScopeViews.{handlers_of}
use Rattle.jq_parts.proofs.scopes.same_places.Given as goal

abbrev pub invariant-places : goal.invariant-places
invariant-places l = bytes_eq l.left (places_of (handlers_of l.others)) ≡ bytes_eq l.under (places_of (handlers_of l.handlers))

abbrev pub decreases-places : goal.decreases-places
decreases-places l = length l.left

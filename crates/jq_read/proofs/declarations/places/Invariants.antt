use Rattle.std.proofs.Common.{◌≡◌, take}
use Rattle.jq_parts.specs.Scopes.{places_of}
use Rattle.jq_parts.specs.ScopeViews.{handlers_of}
use Rattle.jq_read.proofs.declarations.places.Given as goal

abbrev pub invariant-loop-handler : goal.invariant-loop-handler
invariant-loop-handler l = l.found.items ≡ places_of (handlers_of (take l.handler-index l.handlers))

use Rattle.std.proofs.Common.{arith}
use Rattle.jq_cursor.specs.LastPlaces.{place_in}
use Rattle.jq_parts.proofs.PlacesSteps.{one_indexed}
use Rattle.jq_parts.proofs.declarations.Declarations.push.Goals as goal

pub invariant_of-self-in_default-put : goal.invariant_of-self-in_default-put
invariant_of-self-in_default-put c =
    rw c.in_ok-push.ensures.items
    (one_indexed c.self.inside.entries.items (place_in c.self.inside.places) (place_in c.put.new.self) c.args.declaration c.in-Ok.place c.get-hides.result
    c.self.invariant (omega (arith, c.in-Ok.ensures.1, c.len.ensures, c.self.inside.entries.ok.0)) c.get-hides.ensures c.in_default-put.ensures.put)

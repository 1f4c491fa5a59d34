use Rattle.jq_cursor.specs.LastPlaces.{place_in}
use Rattle.jq_parts.proofs.PlacesSteps.{last_gone}
use Rattle.jq_parts.proofs.declarations.Declarations.drop_last.Goals as goal

pub invariant_of-self-in-Some-2 : goal.invariant_of-self-in-Some-2
invariant_of-self-in-Some-2 c =
    last_gone c.self.inside.entries.items c.pop.new.self.items c.in-Some.entry (place_in c.self.inside.places) (place_in c.put_back.new.self) c.self.invariant
    c.in-Some.ensures.items c.put_back.ensures

pub invariant_of-self : goal.invariant_of-self
invariant_of-self c =
    last_gone c.self.inside.entries.items c.pop.new.self.items c.in-Some.entry (place_in c.self.inside.places) (place_in c.put_back.new.self) c.self.invariant
    c.in-Some.ensures.items c.put_back.ensures

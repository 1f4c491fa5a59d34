use Rattle.std.proofs.Common.{◌∙◌, sym, arith}
use Rattle.jq_cursor.specs.LastPlaces.{place_in}
use Rattle.jq_parts.proofs.PlacesSteps.{none_last, within, is_last}
use Rattle.jq_parts.proofs.declarations.Declarations.latest.Goals as goal

pub returns-in_default : goal.returns-in_default
returns-in_default c =
    rw (← c.self.view_is)
    (none_last c.args.name.now c.self.inside.entries.items (place_in c.self.inside.places) c.self.invariant (sym c.get.ensures ∙ c.in_default.is))

pub index-entry-requires : goal.index-entry-requires
index-entry-requires c =
    let inside = within c.args.name.now c.self.inside.entries.items (place_in c.self.inside.places) c.in-Some.place c.self.invariant (sym c.get.ensures ∙ c.in-Some.is) in
    omega (arith, inside, c.self.inside.entries.ok.0)

pub returns : goal.returns
returns c =
    rw (← c.self.view_is)
    (is_last c.args.name.now c.self.inside.entries.items (place_in c.self.inside.places) c.in-Some.place c.index-entry.result.now c.self.invariant
    (sym c.get.ensures ∙ c.in-Some.is) c.index-entry.ensures)

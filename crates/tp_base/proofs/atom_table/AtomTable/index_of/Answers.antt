use Rattle.std.proofs.Common.{◌≡◌}
use Rattle.tp_base.specs.declared.names.Name.{Name}
use Rattle.tp_base.proofs.StoredNames.{place_in-map}
use Rattle.tp_base.proofs.atom_table.AtomTable.index_of.Goals as goal

-- there is no memory for a key
pub returns-in_default-clause-place : goal.returns-in_default-clause-place
returns-in_default-clause-place c =
    rw (← c.self.view_is, place_in-map c.self.inside.names.keys (c.args.kind, c.args.name.now))
    (rw c.as_slice.ensures.keys at c.place_of.ensures)

-- the key has the name's text
key_text : (c : goal.After-get_index_of) → c.extend_from_slice.new.self.items ≡ c.args.name.now
key_text c = rw c.clear.ensures.items at c.in-Ok.ensures.items

pub returns-clause-place : goal.returns-clause-place
returns-clause-place c =
    let key : Name = record { kind = c.args.kind; text = c.extend_from_slice.new.self } in
    rw (← c.self.view_is, ← key_text c, place_in-map c.self.inside.names.keys (key.kind, key.text.items)) c.get_index_of.ensures.index

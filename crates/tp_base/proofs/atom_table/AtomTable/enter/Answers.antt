use Rattle.std.proofs.Common.{◌≡◌, Some, map}
use Rattle.tp_base.specs.declared.names.Name.{Name}
use Rattle.tp_base.specs.Names.{named, with_name}
use Rattle.tp_base.proofs.StoredNames.{inserted}
use Rattle.tp_base.proofs.NamesLemmas.{with_name-IsTable}
use Rattle.tp_base.proofs.atom_table.AtomTable.enter.Goals as goal

given : (c : goal.In_ok-place) → with_name (map named c.self.inside.names.keys) (c.args.kind, c.args.name.now) ≡ Some (c.in_ok-place.place, map named c.insert_full.new.self.keys)
given c =
    let key : Name = record { kind = c.args.kind; text = c.in_ok-text.text } in
    rw (← c.in_ok-text.ensures.items, c.in_ok-place.ensures.index, c.in_ok-place.ensures.keys)
    (inserted key c.self.inside.names.keys (rw c.self.view_is c.requires.room))

pub returns-clause-ok : goal.returns-clause-ok
returns-clause-ok c = rw (← c.self.view_is) (given c)

pub invariant_of-self-2 : goal.invariant_of-self-2
invariant_of-self-2 c =
    with_name-IsTable (map named c.self.inside.names.keys) (c.args.kind, c.args.name.now) c.in_ok-place.place (map named c.insert_full.new.self.keys) (given c) c.self.invariant

use Rattle.std.proofs.Common.{◌<◌, List, map, length, sym, subst}
use Rattle.need_table.specs.declared.entries.Entry.{Entry}
use Rattle.need_table.specs.Tables.{pair_of}
use Rattle.need_table.proofs.PlaceLemmas.{found_alike, pairs_either}
use Rattle.need_table.proofs.entry_table.Table.note.Goals as goal

pub returns-clause-ok : goal.returns-clause-ok
returns-clause-ok c = rw (← c.self.view_is) c.note.ensures.ok

pub returns-clause-err : goal.returns-clause-err
returns-clause-err c = rw (← c.self.view_is) c.note.ensures.err

pub invariant_of-self : goal.invariant_of-self
invariant_of-self c =
    found_alike c.self.inside.places (map pair_of c.self.inside.entries.items) (map pair_of c.note.new.entries.items)
    (pairs_either c.note.result c.self.inside.entries.items c.note.new.entries.items c.args.i c.args.k c.args.given.now c.args.anew
    (subst (λ (z : List Entry). c.args.i < length z) (sym c.self.view_is) c.requires.place) c.note.ensures.ok c.note.ensures.err) c.self.invariant

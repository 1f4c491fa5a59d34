use Rattle.std.proofs.Common.{◌↔◌, ◌<◌, List, map, length, IfSome, IsNone, Contains, ◌∙◌, sym, subst}
use Rattle.pair_table.specs.declared.table.Row.{Row}
use Rattle.pair_table.specs.Rows.{pair_of, IsRowOf, AreFound}
use Rattle.pair_table.proofs.RowLemmas.{found_row, found_within, found_none}
use Rattle.pair_table.proofs.table.PairTable.find.Goals as goal

pub returns-clause-there : goal.returns-clause-there
returns-clause-there g c =
    subst (λ (z : List (Row g.row.V.Denot)). IfSome c.place_among.result (IsRowOf z c.args.kind c.args.label.now)) (c.deref.ensures.value ∙ c.self.view_is)
    (found_row c.deref.result.now c.args.kind c.args.label.now c.place_among.result c.place_among.ensures.there)

pub returns-clause-within : goal.returns-clause-within
returns-clause-within g c =
    subst (λ (z : List (Row g.row.V.Denot)). IfSome c.place_among.result (λ i. i < length z)) (c.deref.ensures.value ∙ c.self.view_is)
    (found_within c.deref.result.now (c.args.kind, c.args.label.now) c.place_among.result c.place_among.ensures.there)

pub returns-clause-none : goal.returns-clause-none
returns-clause-none g c =
    let rows = c.deref.result.now in
    let found = subst (λ (z : List (Row g.row.V.Denot)). AreFound c.self.inside.places (map pair_of z)) (sym c.deref.ensures.value) c.self.invariant in
    subst (λ (z : List (Row g.row.V.Denot)). IsNone c.place_among.result ↔ (Contains (map pair_of z) (c.args.kind, c.args.label.now) → ⊥)) (c.deref.ensures.value ∙ c.self.view_is)
    (found_none (map pair_of rows) c.args.kind c.args.label.now c.self.inside.places c.hash_of.result c.of-places.result.now c.place_among.result found c.hash_of.ensures c.of-places.ensures c.place_among.ensures.there c.place_among.ensures.none)

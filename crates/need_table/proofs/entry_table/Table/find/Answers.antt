use Rattle.std.proofs.Common.{◌≡◌, ◌↔◌, ◌<◌, List, map, length, slice_get, IsNone, IfSome, IsSomeAnd, Contains, sym, ◌∙◌, subst}
use Rattle.pair_table.specs.Rows.{AreFound}
use Rattle.need_table.specs.declared.entries.Entry.{Entry}
use Rattle.need_table.specs.Tables.{pair_of}
use Rattle.need_table.proofs.PlaceLemmas.{found_within, pair_none}
use Rattle.need_table.proofs.entry_table.Table.find.Goals as goal

pub returns-clause-place : goal.returns-clause-place
returns-clause-place c =
    subst (λ (z : List Entry). IfSome c.place_among.result (λ i. IsSomeAnd (slice_get z i) (λ e. pair_of e ≡ (c.args.kind, c.args.parent.now)))) (c.deref.ensures.value ∙ c.self.view_is) c.place_among.ensures.place

pub returns-clause-within : goal.returns-clause-within
returns-clause-within c =
    subst (λ (z : List Entry). IfSome c.place_among.result (λ i. i < length z)) (c.deref.ensures.value ∙ c.self.view_is)
    (found_within c.deref.result.now (c.args.kind, c.args.parent.now) c.place_among.result c.place_among.ensures.place)

pub returns-clause-none : goal.returns-clause-none
returns-clause-none c =
    let found = subst (λ (z : List Entry). AreFound c.self.inside.places (map pair_of z)) (sym c.deref.ensures.value) c.self.invariant in
    subst (λ (z : List Entry). IsNone c.place_among.result ↔ (Contains (map pair_of z) (c.args.kind, c.args.parent.now) → ⊥)) (c.deref.ensures.value ∙ c.self.view_is)
    (pair_none c.self.inside.places c.deref.result.now (c.args.kind, c.args.parent.now) c.hash_of.result c.of-places.result.now c.place_among.result found c.hash_of.ensures c.of-places.ensures c.place_among.ensures.place c.place_among.ensures.none)

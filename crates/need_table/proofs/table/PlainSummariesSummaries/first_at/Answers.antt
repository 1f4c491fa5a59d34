use Rattle.std.proofs.Common.{◌≡◌, map, slice_get, Some, sym, subst, arith}
use Rattle.std.proofs.lemmas.List.{length-map}
use Rattle.std.proofs.lemmas.Option.{slice_get_within}
use Rattle.need_table.specs.PlainTables.{PlainTable}
use Rattle.need_table.specs.Tables.{pair_of}
use Rattle.need_table.proofs.PlainLemmas.{rest_asks_all}
use Rattle.need_table.proofs.SettleLemmas.{label_of_firsts, first_known}
use Rattle.need_table.proofs.table.PlainSummariesSummaries.first_at.Goals as goal

pub entry-requires : goal.entry-requires
entry-requires c =
    let entries = c.self.inside.table in
    let at = subst (λ (t : PlainTable). slice_get t.known c.args.entry ≡ Some (c.args._kind, c.args._parent.now)) (sym c.self.view_is) c.requires.entry in
    omega (arith, length-map entries pair_of, slice_get_within (map pair_of entries) c.args.entry (c.args._kind, c.args._parent.now) at)

pub first_of-requires : goal.first_of-requires
first_of-requires c =
    let at = subst (λ (t : PlainTable). slice_get t.known c.args.entry ≡ Some (c.args._kind, c.args._parent.now)) (sym c.self.view_is) c.requires.entry in
    label_of_firsts c.self.inside.system c.self.inside.pairs c.self.inside.table c.args.entry (c.args._kind, c.args._parent.now) c.entry.result.now c.self.invariant.table at c.entry.ensures

pub returns-clause-first : goal.returns-clause-first
returns-clause-first c =
    let at = subst (λ (t : PlainTable). slice_get t.known c.args.entry ≡ Some (c.args._kind, c.args._parent.now)) (sym c.self.view_is) c.requires.entry in
    rw (← c.self.view_is) (first_known c.self.inside.system c.self.inside.pairs c.self.inside.table c.args.entry (c.args._kind, c.args._parent.now) c.entry.result.now c.args.atom c.first_of.result
    c.self.invariant.table c.self.invariant.at_rest at c.entry.ensures c.first_of.ensures).0

pub returns-clause-bound : goal.returns-clause-bound
returns-clause-bound c =
    let at = subst (λ (t : PlainTable). slice_get t.known c.args.entry ≡ Some (c.args._kind, c.args._parent.now)) (sym c.self.view_is) c.requires.entry in
    (first_known c.self.inside.system c.self.inside.pairs c.self.inside.table c.args.entry (c.args._kind, c.args._parent.now) c.entry.result.now c.args.atom c.first_of.result
    c.self.invariant.table c.self.invariant.at_rest at c.entry.ensures c.first_of.ensures).1 c.self.invariant.small

pub returns-clause-closed : goal.returns-clause-closed
returns-clause-closed c = rw (← c.self.view_is) (rest_asks_all c.self.inside.system c.self.inside.pairs c.self.inside.table c.self.invariant.table c.self.invariant.at_rest)

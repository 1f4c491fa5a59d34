use Rattle.std.proofs.Common.{Contains, refl, sym, subst}
use Rattle.need_table.specs.PlainTables.{PlainTable}
use Rattle.need_table.proofs.PlaceLemmas.{pair_at}
use Rattle.need_table.proofs.table.PlainSummariesSummaries.entry.Goals as goal

pub unreachable-requires : goal.unreachable-requires
unreachable-requires c = c.in_default.ensures.none.0 refl (subst (λ (t : PlainTable). Contains t.known (c.args.kind, c.args.parent.now)) (sym c.self.view_is) c.requires)

pub returns : goal.returns
returns c = rw (← c.self.view_is) (pair_at c.self.inside.table c.in-Some.i (c.args.kind, c.args.parent.now) c.in-Some.ensures.place)

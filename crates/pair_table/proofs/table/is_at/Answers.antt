use Rattle.std.proofs.Common.{length, refl, sym}
use Rattle.std.proofs.lemmas.Bool.{ltb-true, ltb-false}
use Rattle.std.proofs.lemmas.Option.{slice_get_read, slice_get_past}
use Rattle.pair_table.proofs.RowLemmas.{row_there, no_row}
use Rattle.pair_table.proofs.table.is_at.Goals as goal

pub returns-in-Some : goal.returns-in-Some
returns-in-Some g c = row_there c.args.rows.now c.args.place c.in-Some.row.now (c.args.kind, c.args.label.now) c.is_of.result (slice_get_read c.args.rows.now (length c.args.rows.now) c.args.place c.in-Some.row.now refl (ltb-true c.args.place (length c.args.rows.now) (sym c.in-Some.ensures.lookup.0)) c.in-Some.ensures.lookup.1) c.is_of.ensures

pub returns-in-None : goal.returns-in-None
returns-in-None g c = no_row c.args.rows.now c.args.place (c.args.kind, c.args.label.now) (slice_get_past c.args.rows.now c.args.place (ltb-false c.args.place (length c.args.rows.now) (sym c.in-None.ensures.lookup.0)))

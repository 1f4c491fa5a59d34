use Rattle.std.proofs.Common.{◌≡◌, true, false, map, get_or, sym, ◌∙◌, arith}
use Rattle.std.proofs.lemmas.Option.{slice_get-get_or}
use Rattle.pair_table.specs.Rows.{pair_of}
use Rattle.pair_table.proofs.RowLemmas.{none_first, none_next, none_all}
use Rattle.pair_table.proofs.table.place_among.Goals as goal

pub loop-i-init : goal.loop-i-init
loop-i-init g c = none_first (map pair_of c.args.rows.now) (c.args.kind, c.args.label.now)

pub loop-i-preserved : goal.loop-i-preserved
loop-i-preserved g c =
    let places = c.args.places.now in
    none_next (map pair_of c.args.rows.now) (c.args.kind, c.args.label.now) places c.loop-i.i (get_or places c.loop-i.i 0) (slice_get-get_or places c.loop-i.i 0 c.loop-i-test.true)
    (λ there. let never : true ≡ false = sym (c.is_at.ensures.1 there) ∙ c.if-is_at.false in cc) c.loop-i.invariant

pub returns-clause-none : goal.returns-clause-none
returns-clause-none g c = λ _. none_all (map pair_of c.args.rows.now) (c.args.kind, c.args.label.now) c.args.places.now c.loop-i.i (omega (arith, c.loop-i-test.false)) c.loop-i.invariant

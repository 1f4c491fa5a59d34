use Rattle.std.proofs.Common.{arith}
use Rattle.std.proofs.lemmas.Option.{slice_get_within}
use Rattle.pushdown_sym.proofs.PlaceLemmas.{makers_more}
use Rattle.pushdown_sym.proofs.makers.Makers.of_spawns.Goals as goal

pub loop-i-preserved : goal.loop-i-preserved
loop-i-preserved c =
    makers_more c.args.spawns.now c.loop-i.i c.index-spawns-i.result c.loop-i-test.true c.index-spawns-i.is c.loop-i.places c.note.new.self
    c.in_ok-note.ensures.ok c.loop-i.invariant

pub returns : goal.returns
returns c = λ i x at. c.loop-i.invariant i x (omega (arith, slice_get_within c.args.spawns.now i x at, c.loop-i-test.false)) at

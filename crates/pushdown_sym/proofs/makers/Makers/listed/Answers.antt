use Rattle.std.proofs.lemmas.List.{get_or_default}
use Rattle.row_index.specs.Rows.{row_of}
use Rattle.pushdown_sym.proofs.PlaceLemmas.{listed_more, listed_all}
use Rattle.pushdown_sym.proofs.makers.Makers.listed.Goals as goal

pub loop-i-preserved : goal.loop-i-preserved
loop-i-preserved c =
    listed_more (row_of c.args.self.now) c.args.kinds.now c.loop-i.i _ c.loop-i-test.true (get_or_default c.args.kinds.now c.loop-i.i _ _ c.loop-i-test.true) c.of.result.now c.loop-i.places.items c.extend_from_slice.new.self.items
    c.of.ensures c.in_ok-extend_from_slice.ensures.items c.loop-i.invariant

pub returns : goal.returns
returns c = listed_all (row_of c.args.self.now) c.args.kinds.now c.loop-i.i c.loop-i.places.items c.loop-i-test.false c.loop-i.invariant

use Rattle.std.proofs.Common.{Some, refl, sym, ap, ◌∙◌, arith}
use Rattle.pair_table.proofs.SetLemmas.{hash_next, hash_all}
use Rattle.pair_table.proofs.pairs.hash_of.Goals as goal

pub loop-i-preserved : goal.loop-i-preserved
loop-i-preserved c = hash_next c.args.kind c.args.label.now c.loop-i.i c.hash.inside.0 c.loop-i.hash _ (c.at.ensures ∙ ap Some (sym c.hash.view_is)) c.loop-i.invariant refl

pub returns : goal.returns
returns c = hash_all c.args.kind c.args.label.now c.loop-i.i c.len-i-end.result c.loop-i.hash c.len-i-end.ensures.count (omega (arith, c.loop-i-test.false)) c.loop-i.invariant

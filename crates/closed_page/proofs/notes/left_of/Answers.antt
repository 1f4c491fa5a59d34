use Rattle.std.proofs.Common.{◌∙◌, ap, arith}
use Rattle.std.proofs.lemmas.List.{take_all}
use Rattle.closed_page.specs.Gains.{new_of}
use Rattle.closed_page.proofs.NoteLemmas.{new_more, new_set}
use Rattle.closed_page.proofs.notes.left_of.Goals as goal

pub loop-i-preserved : goal.loop-i-preserved
loop-i-preserved c = new_more c.args.own.now c.args.set.now c.loop-i.i c.at.result c.loop-i.left.items c.push_new.new.left.items c.at.ensures c.loop-i.invariant c.in_ok-push_new.ensures

pub returns : goal.returns
returns c =
    let set = c.args.set.now in
    c.in_ok-set.ensures
    ∙ new_set c.args.own.now set c.loop-i.left.items c.len-i-end.ensures.rising (c.loop-i.invariant ∙ ap (new_of c.args.own.now) (take_all c.loop-i.i set (omega (arith, c.loop-i-test.false, c.len-i-end.ensures.count))))

use Rattle.std.proofs.Common.{◌+◌, ◌∙◌, List, Bool, length, ap, arith}
use Rattle.std.proofs.lemmas.List.{length_push}
use Rattle.class_adding.proofs.AlikeLemmas.{marks_none, marks_more}
use Rattle.class_adding.proofs.alike.all_alike.Goals as goal

pub loop-i-init : goal.loop-i-init
loop-i-init c = record {
  are = marks_none c.args.labels.now.labels c.args.labels.now.nodes c.new-alike.result.items c.new-alike.ensures.items;
  long = ap (λ (z : List Bool). length z) c.new-alike.ensures.items;
  count = c.count-count.ensures;
}

pub is_alike-mark-requires : goal.is_alike-mark-requires
is_alike-mark-requires c = omega (arith, c.loop-i-test.true, c.loop-i.invariant.count)

pub loop-i-preserved : goal.loop-i-preserved
loop-i-preserved c = record {
  are = marks_more c.args.labels.now.labels c.args.labels.now.nodes c.loop-i.alike.items c.push.new.self.items c.loop-i.i c.is_alike-mark.result c.loop-i.invariant.long c.in_ok-push.ensures.items c.is_alike-mark.ensures c.loop-i.invariant.are;
  long = ap (λ (z : List Bool). length z) c.in_ok-push.ensures.items ∙ length_push c.loop-i.alike.items c.is_alike-mark.result ∙ ap (λ n. n + 1) c.loop-i.invariant.long;
  count = c.loop-i.invariant.count;
}

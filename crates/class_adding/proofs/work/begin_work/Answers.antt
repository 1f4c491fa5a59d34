use Rattle.std.proofs.Common.{◌∙◌, refl}
use Rattle.class_adding.proofs.work.begin_work.Goals as goal

pub returns : goal.returns
returns c = record {
  fresh = c.in_ok-fresh.ensures;
  start = refl;
  none_called = c.new.ensures;
  times = c.in_ok-wakes.ensures.count ∙ c.count-count.ensures;
  none = c.in_ok-wakes.ensures.none;
  awaited = c.new-2.ensures;
  first = refl;
  empty = c.in_ok-new.ensures ∙ c.new-3.ensures;
  due = c.in_ok-due.ensures;
}

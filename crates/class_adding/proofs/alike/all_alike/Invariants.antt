use Rattle.std.proofs.Common.{◌≡◌, length}
use Rattle.class_adding.specs.Alike.{AreAlike}
use Rattle.class_adding.proofs.alike.all_alike.Given as goal

abbrev pub invariant-loop-i : goal.invariant-loop-i
invariant-loop-i l = record {
  are : AreAlike l.labels.labels l.labels.nodes l.alike.items;
  long : length l.alike.items ≡ l.i;
  count : l.count ≡ length l.labels.nodes;
}

use Rattle.std.proofs.Common.{◌≡◌, ◌≤◌, length, map, take, drop}
use Rattle.tree_sem.specs.Actions.{add_classes}
use Rattle.tree_sem.specs.Table.{tree_in, united, IsTable}
use Rattle.tree_sem.specs.Trees.{edit_each}
use Rattle.tree_sem.proofs.UnionLemmas.{IsUniting}
use Rattle.tree_sem.proofs.unions.unite_each.Given as goal

abbrev pub invariant-loop-label : goal.invariant-loop-label
invariant-loop-label l = record {
  within : l.done ≤ length l.at;
  left : l.label-iterator.rest.items ≡ drop l.done (map (united l.initial.slots l.classes) l.at);
  table : IsTable l.slots;
  uniting : IsUniting l.initial.slots l.slots l.classes;
  tree : tree_in l.slots 0 ≡ edit_each (take l.done l.at) (add_classes l.classes) (tree_in l.initial.slots 0);
}

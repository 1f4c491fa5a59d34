use Rattle.std.proofs.Common.{◌≡◌, map, take}
use Rattle.tp_base.specs.Classes.{all_among}
use Rattle.node_marks.proofs.numbered_tree.labels_with.Given as goal

abbrev pub invariant-labels : goal.invariant-labels
invariant-labels l = l.made.items ≡ map (λ b. all_among l.atoms b.now) (take l.label-index l.labels)

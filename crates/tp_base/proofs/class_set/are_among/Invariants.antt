use Rattle.std.proofs.Common.{◌≡◌, take, true}
use Rattle.tp_base.specs.Classes.{all_among}
use Rattle.tp_base.proofs.Walks.{StillTells}
use Rattle.tp_base.proofs.class_set.are_among.Given as goal

abbrev pub invariant-loop-atom : goal.invariant-loop-atom
invariant-loop-atom l = record {
  still : StillTells l.atoms l.left l.others l.atom-index;
  passed : all_among (take l.atom-index l.atoms) l.others ≡ true;
}

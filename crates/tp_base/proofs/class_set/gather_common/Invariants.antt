use Rattle.tp_base.proofs.Walks.{StillTells, IsGathered}
use Rattle.tp_base.proofs.class_set.gather_common.Given as goal

abbrev pub invariant-loop-at : goal.invariant-loop-at
invariant-loop-at l = record {
  still : StillTells l.fn.atoms l.left l.others l.at;
  so_far : IsGathered l.fn.atoms l.atoms l.others l.at l.kept;
}

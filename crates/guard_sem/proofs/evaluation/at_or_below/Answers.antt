use Rattle.std.proofs.Common.{◌⊎◌, inl, inr}
use Rattle.node_marks.specs.Marks.{IsMarked, HasDescendantIn}
use Rattle.guard_sem.proofs.EvaluationLemmas.{of_same}
use Rattle.guard_sem.proofs.evaluation.at_or_below.Goals as goal

pub returns : goal.returns
returns c =
    let t = c.args.nodes.now in
    let marks = c.args.marks.now in
    of_same t (λ v. IsMarked t marks v ⊎ IsMarked t c.in_ok-over.over v) (λ v. IsMarked t marks v ⊎ HasDescendantIn (IsMarked t marks) v)
    (λ v. (
      λ h. elim h [ inl at ↦ inl at | inr over ↦ inr ((c.in_ok-over.ensures v).0 over) ],
      λ h. elim h [ inl at ↦ inl at | inr below ↦ inr ((c.in_ok-over.ensures v).1 below) ],
    )) c.in_either.result c.in_either.ensures

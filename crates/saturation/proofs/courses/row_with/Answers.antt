use Rattle.std.proofs.Common.{ℕ, List, All, take, sym, subst}
use Rattle.tp_base.proofs.Lists.{take_next}
use Rattle.class_diagrams.specs.Arena.{IsIn}
use Rattle.saturation.specs.Histories.{Change}
use Rattle.saturation.specs.HistoryMap.{history_in}
use Rattle.saturation.specs.Courses.{AreCourses}
use Rattle.saturation.proofs.courses.row_with.Goals as goal

pub add_course-requires : goal.add_course-requires
add_course-requires c = subst (λ (h : List Change). All (λ x. IsIn c.args.d.now.branches x.1) h) (sym c.near-behind.ensures.history) (c.requires c.at-atom.result)

pub loop-i-preserved : goal.loop-i-preserved
loop-i-preserved c = record {
  courses = subst (λ (atoms : List ℕ). AreCourses c.args.label.now (history_in c.args.histories.now c.args.kind) atoms c.add_course.new.courses.items)
      (sym (take_next c.args.visible.now c.loop-i.i c.at-atom.result c.at-atom.ensures))
      (c.in_ok-add_course.ensures.courses (history_in c.args.histories.now c.args.kind) (take c.loop-i.i c.args.visible.now) c.near-behind.ensures.history c.loop-i.invariant.courses);
  gates = c.in_ok-add_course.ensures.gates c.loop-i.invariant.gates;
}

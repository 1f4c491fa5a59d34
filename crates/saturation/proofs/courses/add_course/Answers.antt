use Rattle.std.proofs.Common.{sym, ◌∙◌}
use Rattle.saturation.proofs.CourseLemmas.{course_pushed, course_passed}
use Rattle.saturation.proofs.GateLemmas.{gate_pushed}
use Rattle.saturation.proofs.courses.add_course.Goals as goal

pub returns-in_ok-push-clause-courses : goal.returns-in_ok-push-clause-courses
returns-in_ok-push-clause-courses c changes atoms is are =
    course_pushed c.args.label.now changes atoms c.args.courses.now.items c.push.new.self.items c.args.atom c.has-starts.result c.gate_of-gate.result c.args.history.now c.new-changes.result
    c.has-starts.ensures.test is (sym c.may_come.ensures ∙ c.if-may_come.true) (c.new-changes.ensures ∙ c.in_ok-from_slice.ensures.items) c.in_ok-push.ensures.items are

pub returns-else-may_come-clause-courses : goal.returns-else-may_come-clause-courses
returns-else-may_come-clause-courses c changes atoms is are =
    course_passed c.args.label.now changes atoms c.args.courses.now.items c.args.atom c.has-starts.result c.args.history.now
    c.has-starts.ensures.test is (sym c.may_come.ensures ∙ c.if-may_come.false) are

pub returns-in_ok-push-clause-gates : goal.returns-in_ok-push-clause-gates
returns-in_ok-push-clause-gates c all =
    gate_pushed c.args.d.now.branches c.args.courses.now.items c.push.new.self.items c.args.atom c.has-starts.result c.gate_of-gate.result c.args.history.now c.new-changes.result
    (c.new-changes.ensures ∙ c.in_ok-from_slice.ensures.items) c.gate_of-gate.ensures.gate c.in_ok-push.ensures.items all

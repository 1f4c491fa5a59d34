use Rattle.std.proofs.Common.{refl}
use Rattle.saturation.specs.HistoryMap.{history_in}
use Rattle.saturation.proofs.CourseLemmas.{courses_rise, course_asked, course_tells, no_course_tells}
use Rattle.saturation.proofs.GateLemmas.{row_gated}
use Rattle.saturation.proofs.shared.SharedSummaries.first_told.Goals as goal

pub row_at-requires : goal.row_at-requires
row_at-requires c = rw (c.items.ensures, c.self.invariant.by_kind.count) (rw (← c.self.view_is) at c.requires)

pub course_of-requires : goal.course_of-requires
course_of-requires c =
    courses_rise c.self.inside.system c.self.invariant.sound c.self.inside.diagrams (history_in c.self.inside.histories) c.self.inside.cells c.self.invariant.built c.args.kind
    (rw (← c.self.view_is) at c.requires) c.args.parent.now c.row_at.result.now
    (c.self.invariant.by_kind.each c.args.kind c.row_at.result.now (rw c.items.ensures at c.row_at.ensures))

pub first_under-requires : goal.first_under-requires
first_under-requires c =
    course_asked c.self.inside.system c.self.invariant.sound c.self.inside.diagrams (history_in c.self.inside.histories) c.self.inside.cells c.self.invariant.built c.args.kind
    (rw (← c.self.view_is) at c.requires) c.args.parent.now c.row_at.result.now
    (c.self.invariant.by_kind.each c.args.kind c.row_at.result.now (rw c.items.ensures at c.row_at.ensures))
    (row_gated c.self.inside.diagrams.branches c.self.inside.rows c.args.kind c.row_at.result.now c.self.invariant.gated (rw c.items.ensures at c.row_at.ensures))
    c.in-Some.course.now c.in-Some.ensures.some.0

pub returns-in-Some-clause-first : goal.returns-in-Some-clause-first
returns-in-Some-clause-first c = rw (← c.self.view_is)
    (course_tells c.self.inside.system c.self.invariant.sound c.self.inside.diagrams (history_in c.self.inside.histories) c.self.inside.cells c.self.invariant.built c.args.kind
    (rw (← c.self.view_is) at c.requires) c.args.parent.now c.row_at.result.now
    (c.self.invariant.by_kind.each c.args.kind c.row_at.result.now (rw c.items.ensures at c.row_at.ensures))
    c.in-Some.course.now c.in-Some.ensures.some.0 c.args.atom c.in-Some.ensures.some.1 c.first_under.result c.first_under.ensures).0

pub returns-in-Some-clause-bound : goal.returns-in-Some-clause-bound
returns-in-Some-clause-bound c =
    (course_tells c.self.inside.system c.self.invariant.sound c.self.inside.diagrams (history_in c.self.inside.histories) c.self.inside.cells c.self.invariant.built c.args.kind
    (rw (← c.self.view_is) at c.requires) c.args.parent.now c.row_at.result.now
    (c.self.invariant.by_kind.each c.args.kind c.row_at.result.now (rw c.items.ensures at c.row_at.ensures))
    c.in-Some.course.now c.in-Some.ensures.some.0 c.args.atom c.in-Some.ensures.some.1 c.first_under.result c.first_under.ensures).1

pub returns-in-None-clause-first : goal.returns-in-None-clause-first
returns-in-None-clause-first c = rw (← c.self.view_is)
    (no_course_tells c.self.inside.system c.self.invariant.sound c.self.inside.diagrams (history_in c.self.inside.histories) c.self.inside.cells c.self.invariant.built c.args.kind
    (rw (← c.self.view_is) at c.requires) c.args.parent.now c.row_at.result.now
    (c.self.invariant.by_kind.each c.args.kind c.row_at.result.now (rw c.items.ensures at c.row_at.ensures))
    c.args.atom (c.has.ensures.member.0 c.if-not-has.false) (c.in-None.ensures.none refl))

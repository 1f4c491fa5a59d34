use Rattle.std.proofs.Common.{arith}
use Rattle.class_diagrams.proofs.AnswerLemmas.{gives_same_error}
use Rattle.class_diagrams.proofs.CombinedLemmas.{tree_by, low_fails, high_fails, high_in, high_smaller, low_in, f_in, g_in, whole_joined, both_give_whole}
use Rattle.class_diagrams.proofs.diagrams.Diagrams.+combined.Goals as goal

pub returns-in_err-low-in-Parts : goal.returns-in_err-low-in-Parts
returns-in_err-low-in-Parts t c = rw (← c.start.ensures.same)
    (gives_same_error c.start.new.self c.combined.new.self (tree_by c.args.operation c.start.new.self.branches c.args.f c.args.g) c.from_residual.result c.in_err-low-in-Parts.field-0.0 c.from_residual.ensures.1
    (low_fails c.args.operation c.start.new.self c.args.f c.args.g c.start.ensures.arena c.in-Parts.atom c.in-Parts.low c.in-Parts.high c.in-Parts.ensures.start
    c.combined.new.self c.in_err-low-in-Parts.field-0.0 c.in_err-low-in-Parts.ensures))

pub combined-requires-in-Parts : goal.combined-requires-in-Parts
combined-requires-in-Parts t c =
    let smaller = rw c.start.ensures.same at (high_smaller c.args.operation c.start.new.self c.args.f c.args.g c.start.ensures.arena c.in-Parts.atom c.in-Parts.low c.in-Parts.high c.in-Parts.ensures.start
    c.combined.new.self c.in_ok-low-in-Parts.low c.in_ok-low-in-Parts.ensures) in (
      omega (arith, c.decreases),
      high_in c.args.operation c.start.new.self c.args.f c.args.g c.start.ensures.arena c.in-Parts.atom c.in-Parts.low c.in-Parts.high c.in-Parts.ensures.start
          c.combined.new.self c.in_ok-low-in-Parts.low c.in_ok-low-in-Parts.ensures,
    )

pub returns-in_err-high-in-Parts : goal.returns-in_err-high-in-Parts
returns-in_err-high-in-Parts t c = rw (← c.start.ensures.same)
    (gives_same_error c.start.new.self c.combined-in-Parts.new.self (tree_by c.args.operation c.start.new.self.branches c.args.f c.args.g) c.from_residual-in_err-high-in-Parts.result c.in_err-high-in-Parts.field-0.0 c.from_residual-in_err-high-in-Parts.ensures.1
    (high_fails c.args.operation c.start.new.self c.args.f c.args.g c.start.ensures.arena c.in-Parts.atom c.in-Parts.low c.in-Parts.high c.in-Parts.ensures.start
    c.combined.new.self c.in_ok-low-in-Parts.low c.in_ok-low-in-Parts.ensures
    c.combined-in-Parts.new.self c.in_err-high-in-Parts.field-0.0 c.in_err-high-in-Parts.ensures))

pub finish-requires-clause-first : goal.finish-requires-clause-first
finish-requires-clause-first t c = f_in c.args.operation c.start.new.self c.args.f c.args.g c.start.ensures.arena c.in-Parts.atom c.in-Parts.low c.in-Parts.high c.in-Parts.ensures.start
    c.combined.new.self c.in_ok-low-in-Parts.low c.in_ok-low-in-Parts.ensures
    c.combined-in-Parts.new.self c.in_ok-high-in-Parts.high c.in_ok-high-in-Parts.ensures
    (rw (← c.start.ensures.same) at c.requires.first)

pub finish-requires-clause-second : goal.finish-requires-clause-second
finish-requires-clause-second t c = g_in c.args.operation c.start.new.self c.args.f c.args.g c.start.ensures.arena c.in-Parts.atom c.in-Parts.low c.in-Parts.high c.in-Parts.ensures.start
    c.combined.new.self c.in_ok-low-in-Parts.low c.in_ok-low-in-Parts.ensures
    c.combined-in-Parts.new.self c.in_ok-high-in-Parts.high c.in_ok-high-in-Parts.ensures
    (rw (← c.start.ensures.same) at c.requires.second)

pub finish-requires-clause-low_in : goal.finish-requires-clause-low_in
finish-requires-clause-low_in t c = low_in c.args.operation c.start.new.self c.args.f c.args.g c.start.ensures.arena c.in-Parts.atom c.in-Parts.low c.in-Parts.high c.in-Parts.ensures.start
    c.combined.new.self c.in_ok-low-in-Parts.low c.in_ok-low-in-Parts.ensures
    c.combined-in-Parts.new.self c.in_ok-high-in-Parts.high c.in_ok-high-in-Parts.ensures

pub finish-requires-clause-parts : goal.finish-requires-clause-parts
finish-requires-clause-parts t c = whole_joined c.args.operation c.start.new.self c.args.f c.args.g c.start.ensures.arena c.in-Parts.atom c.in-Parts.low c.in-Parts.high c.in-Parts.ensures.start
    c.combined.new.self c.in_ok-low-in-Parts.low c.in_ok-low-in-Parts.ensures
    c.combined-in-Parts.new.self c.in_ok-high-in-Parts.high c.in_ok-high-in-Parts.ensures
    (rw (← c.start.ensures.same) at c.requires.first) (rw (← c.start.ensures.same) at c.requires.second)

pub returns-in_ok-high-in-Parts : goal.returns-in_ok-high-in-Parts
returns-in_ok-high-in-Parts t c = rw (← c.start.ensures.same)
    (both_give_whole c.args.operation c.start.new.self c.args.f c.args.g c.start.ensures.arena c.in-Parts.atom c.in-Parts.low c.in-Parts.high c.in-Parts.ensures.start
    c.combined.new.self c.in_ok-low-in-Parts.low c.in_ok-low-in-Parts.ensures
    c.combined-in-Parts.new.self c.in_ok-high-in-Parts.high c.in_ok-high-in-Parts.ensures
    c.finish.new.self c.finish.result (rw (← c.start.ensures.same) at c.requires.first) (rw (← c.start.ensures.same) at c.requires.second) c.finish.ensures)

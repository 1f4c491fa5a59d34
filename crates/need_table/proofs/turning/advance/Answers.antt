use Rattle.std.proofs.Common.{◌≡◌, suc, length, slice_get, refl, ap, ◌∙◌, arith}
use Rattle.need_table.specs.Tables.{IsDone}
use Rattle.need_table.proofs.ChildLemmas.{and_at}
use Rattle.need_table.proofs.GoingLemmas.{going_popped}
use Rattle.need_table.proofs.turning.advance.Goals as goal

pub returns-then-not-is_behind-clause-going : goal.returns-then-not-is_behind-clause-going
returns-then-not-is_behind-clause-going c =
    going_popped c.args.system.now c.args.pairs c.args.table.now c.args.agenda.now _ c.args.i c.args.k c.requires.last.0 c.requires.going c.requires.last.1 (c.pop.ensures.popped c.requires.last.0 c.args.i c.requires.last.1)
    c.pop.ensures.others refl refl (λ e at. c.is_behind.ensures.no c.if-not-is_behind.true e (ap (λ z. slice_get z c.args.i) c.entries.ensures ∙ at))

pub returns-clause-going : goal.returns-clause-going
returns-clause-going c =
    let same : length c.turn.new.table ≡ length c.args.table.now = omega (arith, c.len.ensures, c.if-len-before.false, c.len-before.ensures) in
    let was = c.in_ok-turn.ensures.rows same c.args.k (omega arith) ∙ c.requires.last.1 in
    going_popped c.args.system.now c.args.pairs c.turn.new.table c.turn.new.agenda _ c.args.i c.args.k c.requires.last.0 c.in_ok-turn.ensures.going was (c.pop-2.ensures.popped c.requires.last.0 c.args.i was)
    c.pop-2.ensures.others refl refl (λ e at. and_at (λ e. IsDone e.rounds (suc c.args.k)) (slice_get c.turn.new.table c.args.i) e at (c.in_ok-turn.ensures.done same))

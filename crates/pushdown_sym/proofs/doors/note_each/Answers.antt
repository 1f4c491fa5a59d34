use Rattle.std.proofs.Common.{List, ℕ, arith, subst}
use Rattle.std.proofs.lemmas.List.{get_or_default, take_all}
use Rattle.row_index.specs.Rows.{row_of}
use Rattle.pushdown_sym.specs.Givers.{IsNoted}
use Rattle.pushdown_sym.proofs.NoteLemmas.{noted_none, noted_more}
use Rattle.pushdown_sym.proofs.doors.note_each.Goals as goal

pub loop-i-init : goal.loop-i-init
loop-i-init c = noted_none c.args.place (row_of c.args.rows.now)

pub loop-i-preserved : goal.loop-i-preserved
loop-i-preserved c =
    noted_more c.args.kinds.now c.loop-i.i _ c.args.place (row_of c.args.rows.now) (row_of c.loop-i.rows) (row_of c.note.new.rows) c.loop-i-test.true
    (get_or_default c.args.kinds.now c.loop-i.i _ _ c.loop-i-test.true) c.loop-i.invariant c.in_ok-note.ensures

pub returns : goal.returns
returns c =
    subst (λ (ks : List ℕ). IsNoted ks c.args.place (row_of c.args.rows.now) (row_of c.loop-i.rows))
    (take_all c.loop-i.i c.args.kinds.now (omega (arith, c.loop-i-test.false))) c.loop-i.invariant

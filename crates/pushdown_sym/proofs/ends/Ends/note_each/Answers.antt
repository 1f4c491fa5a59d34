use Rattle.std.proofs.Common.{ℕ, List, take, sym, subst}
use Rattle.std.proofs.lemmas.List.{take_all}
use Rattle.tp_base.proofs.Lists.{take_next}
use Rattle.row_index.specs.Rows.{row_of}
use Rattle.pushdown_sym.specs.Ends.{AreEndsNoted}
use Rattle.pushdown_sym.proofs.EndLemmas.{at_item}
use Rattle.pushdown_sym.proofs.EndLemmas.{ends_none, ends_more, some_left, on_err}
use Rattle.pushdown_sym.proofs.ends.Ends.note_each.Goals as goal

pub loop-pair-init : goal.loop-pair-init
loop-pair-init c = ends_none (row_of c.args.self.now)

pub loop-pair-preserved : goal.loop-pair-preserved
loop-pair-preserved c =
    let pair = c.pair-item.result in
    let pairs = c.args.pairs.now in
    subst (λ (done : List (ℕ × ℕ)). AreEndsNoted done (row_of c.args.self.now) (row_of c.note.new.self))
    (sym (take_next pairs c.loop-pair.pair-index pair (at_item pairs c.loop-pair.pair-index pair c.loop-pair-test.true c.pair-item.is)))
    (ends_more (row_of c.args.self.now) (row_of c.loop-pair.self) (row_of c.note.new.self) (take c.loop-pair.pair-index pairs) pair c.loop-pair.invariant c.in_ok-note.ensures.ok)

pub returns-clause-ok : goal.returns-clause-ok
returns-clause-ok c =
    subst (λ (done : List (ℕ × ℕ)). AreEndsNoted done (row_of c.args.self.now) (row_of c.loop-pair.self))
    (take_all c.loop-pair.pair-index c.args.pairs.now c.loop-pair-test.false) c.loop-pair.invariant

pub returns-in_err-note-clause-err : goal.returns-in_err-note-clause-err
returns-in_err-note-clause-err c =
    on_err _ c.from_residual.result (some_left c.args.pairs.now c.loop-pair.pair-index (row_of c.args.self.now) (row_of c.loop-pair.self) (row_of c.note.new.self) c.loop-pair.invariant c.in_err-note.ensures.err)

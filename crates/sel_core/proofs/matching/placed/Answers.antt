use Rattle.std.proofs.Common.{arith}
use Rattle.tp_base.proofs.Truths.{not_so}
use Rattle.sel_core.proofs.FitLemmas.{so}
use Rattle.sel_core.proofs.Groups.{reached_front, reached_child, leaves_inside, fits_not, no_parent}
use Rattle.sel_core.proofs.matching.placed.Goals as goal

pub returns-then-not-fits_here-clause-none : goal.returns-then-not-fits_here-clause-none
returns-then-not-fits_here-clause-none c =
    fits_not _ _ _ _ _ _ c.in-Some.last.now c.children.invariant.reached c.in-Some.ensures.cases.0 (omega (arith, c.in-Some.ensures.cases.1))
    (not_so _ c.fits_here.result c.fits_here.ensures c.if-not-fits_here.true)

pub returns-in-Some-Inside-default-clause-some : goal.returns-in-Some-Inside-default-clause-some
returns-in-Some-Inside-default-clause-some c =
    let front = rw c.in-Some-Inside-default.field-0-0-is at (reached_front _ _ _ _ _ _ c.in-Some-Inside-default.joins.now c.in-Some.last.now _ c.children.invariant.reached c.in-Some.ensures.cases.0
    c.in-Some-Inside-default.ensures.cases.0 (omega (arith, c.in-Some.ensures.cases.1, c.in-Some-Inside-default.ensures.cases.1))) in
    leaves_inside _ _ _ _ _ c.in-Some.last.now front (so _ c.fits_here.result c.fits_here.ensures c.if-not-fits_here.false)
    (omega (arith, c.in-Some.ensures.cases.1, c.in-Some-Inside-default.ensures.cases.1))

pub returns-in_err-node-in-Some-Child-default-clause-none :
    goal.returns-in_err-node-in-Some-Child-default-clause-none
returns-in_err-node-in-Some-Child-default-clause-none c =
    let front = rw c.in-Some-Child-default.field-0-0-is at (reached_front _ _ _ _ _ _ c.in-Some-Child-default.joins.now c.in-Some.last.now _ c.children.invariant.reached c.in-Some.ensures.cases.0
    c.in-Some-Child-default.ensures.cases.0 (omega (arith, c.in-Some.ensures.cases.1, c.in-Some-Child-default.ensures.cases.1))) in
    rw c.from_residual.ensures (no_parent _ _ _ _ c.in-Some.last.now front c.in_err-node-in-Some-Child-default.ensures)

pub children-preserved : goal.children-preserved
children-preserved c =
    let front = rw c.in-Some-Child-default.field-0-0-is at (reached_front _ _ _ _ _ _ c.in-Some-Child-default.joins.now c.in-Some.last.now _ c.children.invariant.reached c.in-Some.ensures.cases.0
    c.in-Some-Child-default.ensures.cases.0 (omega (arith, c.in-Some.ensures.cases.1, c.in-Some-Child-default.ensures.cases.1))) in
    record {
      between = omega (arith, c.in-Some.ensures.cases.1, c.in-Some-Child-default.ensures.cases.1);
      fewer = omega (arith, c.in-Some.ensures.cases.1);
      reached = reached_child _ _ _ _ _ c.in-Some.last.now front (so _ c.fits_here.result c.fits_here.ensures c.if-not-fits_here.false) c.in_ok-node-in-Some-Child-default.ensures;
    }

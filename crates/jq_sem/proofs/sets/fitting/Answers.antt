use Rattle.std.proofs.Common.{rules, arith}
use Rattle.jq_sem.proofs.SetLemmas.{none_before, fits_one_more, fits_no_more}
use Rattle.jq_sem.proofs.sets.fitting.Goals as goal

pub compounds-init : goal.compounds-init
compounds-init c = λ v. none_before (c.in_ok-marks.ensures v).0

pub compounds-preserved : goal.compounds-preserved
compounds-preserved c =
    fits_one_more c.args.tree.now c.args.compounds.now c.compounds.rest.now c.in-Some.others.now c.in-Some.first.now c.items.result.now c.compounds.marks c.in_ok-fit.fit c.in_ok-more.more
    c.in-Some.ensures.cases.0 c.items.ensures c.compounds.invariant c.in_ok-fit.ensures c.in_ok-more.ensures

pub returns : goal.returns
returns c = fits_no_more c.args.tree.now c.args.compounds.now c.compounds.rest.now c.compounds.marks (first_of (omega arith, search rules)) c.compounds.invariant

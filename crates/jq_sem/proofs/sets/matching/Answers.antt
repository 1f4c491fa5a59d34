use Rattle.std.proofs.Common.{rules, arith}
use Rattle.jq_sem.proofs.SetLemmas.{none_before, matches_one_more, matches_no_more}
use Rattle.jq_sem.proofs.sets.matching.Goals as goal

pub selectors-init : goal.selectors-init
selectors-init c = λ v. none_before (c.in_ok-marks.ensures v).0

pub selectors-preserved : goal.selectors-preserved
selectors-preserved c =
    matches_one_more c.args.tree.now c.args.selectors.now c.selectors.rest.now c.in-Some.others.now c.in-Some.first.now c.selectors.marks c.in_ok-matched.matched c.in_ok-more.more
    c.in-Some.ensures.cases.0 c.selectors.invariant c.in_ok-matched.ensures c.in_ok-more.ensures

pub returns : goal.returns
returns c = matches_no_more c.args.tree.now c.args.selectors.now c.selectors.rest.now c.selectors.marks (first_of (omega arith, search rules)) c.selectors.invariant

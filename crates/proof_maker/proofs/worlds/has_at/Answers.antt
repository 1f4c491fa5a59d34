use Rattle.proof_maker.proofs.WorldLemmas.{added_first, added_never}
use Rattle.proof_maker.proofs.worlds.has_at.Goals as goal

pub returns-in-Some-clause-test : goal.returns-in-Some-clause-test
returns-in-Some-clause-test g c =
    added_first (g.S.Summaries.system c.args.sums.now) c.args.kind c.args.parent.now c.args.atom c.args.round c.in-Some.first c.in-Some.ensures.first

pub returns-in-None-clause-test : goal.returns-in-None-clause-test
returns-in-None-clause-test g c =
    added_never (g.S.Summaries.system c.args.sums.now) c.args.kind c.args.parent.now c.args.atom c.args.round c.in-None.ensures.first

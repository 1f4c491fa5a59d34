use Rattle.simple_core.specs.Pairs.{Asked}
use Rattle.class_adding.proofs.ClosingLemmas.{closes_start}
use Rattle.class_adding.proofs.labelling.page_labels.Goals as goal

pub returns-in_err-columns-clause-went : goal.returns-in_err-columns-clause-went
returns-in_err-columns-clause-went g c = closes_start g.S.Summaries c.args.system.now (Asked c.args.system.now c.args.page.now) c.from_residual.result c.args.sums.now c.from_residual.ensures.1 c.requires

pub returns-in_err-folded-clause-went : goal.returns-in_err-folded-clause-went
returns-in_err-folded-clause-went g c =
    let result = c.from_residual-in_err-folded.result in
    closes_start g.S.Summaries c.args.system.now (Asked c.args.system.now c.args.page.now) result c.args.sums.now c.from_residual-in_err-folded.ensures.1 c.requires

use Rattle.std.proofs.Common.{◌∙◌}
use Rattle.code_tokens.proofs.PairSteps.{one_other, all_others}
use Rattle.code_tokens.proofs.pairs.others_of.Goals as goal

pub pairs-preserved : goal.pairs-preserved
pairs-preserved c = record {
  long = c.put_pair.ensures.long ∙ c.pairs.invariant.long;
  reads = one_other c.pairs.others.items c.put_pair.new.others.items c.in-Some.pair.now c.in-Some.behind.now c.pairs.rest.now c.args.pairs.now c.args.size c.in-Some.ensures.cases.0 c.pairs.invariant.long c.put_pair.ensures.pair c.pairs.invariant.reads;
}

pub returns : goal.returns
returns c = all_others c.pairs.others.items c.pairs.rest.now c.args.pairs.now c.args.size c.in_default.ensures.cases c.pairs.invariant.long c.pairs.invariant.reads

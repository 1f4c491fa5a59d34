use Rattle.std.proofs.Common.{length}
use Rattle.code_tokens.specs.Pairs.{pairs_of}
use Rattle.code_tokens.proofs.PairSteps.{ends}
use Rattle.code_tokens.proofs.pairs.pairs_of.Goals as goal

pub returns : goal.returns
returns c = ends c.args.text.now (length c.args.tokens.now) c.tokens.opens c.tokens.rest.now c.tokens.pairs.items (pairs_of c.args.text.now c.args.tokens.now) c.tokens.invariant.reads c.in_default.ensures.cases

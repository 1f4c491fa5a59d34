use Rattle.code_tokens.proofs.PairSteps.{put_twice}
use Rattle.code_tokens.proofs.pairs.put_pair.Goals as goal

pub returns-clause-pair : goal.returns-clause-pair
returns-clause-pair c =
    put_twice c.args.others.now.items c.put.new.others.items c.put-2.new.others.items c.args.pair c.put.ensures.long c.put.ensures.here c.put.ensures.apart c.put-2.ensures.here c.put-2.ensures.apart

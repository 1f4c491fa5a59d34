use Rattle.std.proofs.Common.{length, ap, ◌∙◌}
use Rattle.std.proofs.lemmas.List.{length-set}
use Rattle.node_marks.proofs.RankLemmas.{lowered}
use Rattle.node_marks.proofs.rank_passes.lower.Goals as goal

pub returns-clause-count : goal.returns-clause-count
returns-clause-count c = ap length c.put.ensures ∙ length-set c.args.made.now.items c.args.node c.least.result

pub returns-clause-each : goal.returns-clause-each
returns-clause-each c k i =
    let old = rw c.as_slice.ensures.value at c.rank_at-old.ensures in
    rw (c.put.ensures, c.least.ensures, old) (lowered k c.args.made.now.items c.args.node c.args.rank c.requires i)

use Rattle.std.proofs.Common.{rules, of_calls}
use Rattle.std.proofs.lemmas.Fn.{always_returns_same}
use Rattle.closed_page.specs.Runs.{ends_before}
use Rattle.closed_page.proofs.RunLemmas.{parted}
use Rattle.closed_page.proofs.first_rounds.place_of.Goals as goal

pub returns-clause-point : goal.returns-clause-point
returns-clause-point c =
    c.partition_point.ensures.partitioned (λ x. ends_before x c.args.spot) (always_returns_same _ _ _ (λ a r f k. search (rules, of_calls))) (parted c.args.spot c.args.row.now c.requires)

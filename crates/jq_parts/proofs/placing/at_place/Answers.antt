use Rattle.tp_base.specs.Places.{place_at}
use Rattle.jq_chains.proofs.MarkSteps.{told_at}
use Rattle.jq_parts.proofs.placing.at_place.Goals as goal

pub returns : goal.returns
returns c text here =
    let parted = c.in_ok-unmarked.ensures in
    told_at c.args.place (place_at text c.args.statement.at) c.args.statement.action c.args.statement.handlers.items c.args.statement.chain
    c.in_ok-unmarked.unmarked.handlers c.in_ok-unmarked.unmarked.chain c.in_ok-unmarked.unmarked.sharp parted.handlers parted.chain parted.sharp here

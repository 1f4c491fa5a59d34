use Rattle.std.proofs.Common.{◌<◌, length}
use Rattle.closed_page.proofs.SpreadLemmas.{again_spots, all_moved}
use Rattle.closed_page.proofs.spreading.spread_notes.Goals as goal

pub returns-clause-spots : goal.returns-clause-spots
returns-clause-spots c =
    let nodes = c.args.labels.now.nodes in
    again_spots nodes c.args.numbers.now c.noted-known.result.now c.in_ok-index.index (λ i. i < length nodes) c.in_ok-notes.notes.items c.in_ok-notes.ensures

pub returns-clause-moved : goal.returns-clause-moved
returns-clause-moved c =
    all_moved c.args.folded.now c.args.labels.now c.args.numbers.now c.noted-known.result.now c.in_ok-index.index c.in_ok-notes.notes.items c.noted-known.ensures.firsts c.in_ok-index.ensures c.in_ok-notes.ensures c.requires.within

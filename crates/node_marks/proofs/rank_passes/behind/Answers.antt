use Rattle.std.proofs.Common.{◌≡◌, ◌<◌, ◌∙◌, length, get_or, arith, add-one}
use Rattle.std.proofs.lemmas.List.{length-replicate}
use Rattle.node_marks.proofs.PassLemmas.{none_behind}
use Rattle.node_marks.proofs.RankLemmas.{none_seen_yet, seen_more, behind_more}
use Rattle.node_marks.specs.Ranks.{under}
use Rattle.node_marks.proofs.rank_passes.behind.Goals as goal

pub nodes-init : goal.nodes-init
nodes-init c =
    let parents = c.args.parents.now in
    let ranks = c.args.ranks.now in
    rw (c.new-made.ensures.items, c.in_ok-seen.ensures) (record {
      made = λ k low. none_behind parents (under k ranks);
      seen = λ k low. none_seen_yet parents ranks (length parents) k low;
      count = length-replicate (length parents) (length parents);
    })

pub see-requires : goal.see-requires
see-requires c some =
    let within = c.nodes-test.true in
    let count = c.nodes.invariant.count in
    let up : get_or c.args.parents.now c.nodes.i 0 < c.nodes.i = c.requires c.nodes.i some (omega (arith, within)) in
    omega (arith, up, within, count)

pub nodes-preserved : goal.nodes-preserved
nodes-preserved c =
    let parents = c.args.parents.now in
    let ranks = c.args.ranks.now in
    let i = c.nodes.i in
    let old = c.nodes.invariant in
    let within = c.nodes-test.true in
    let rank = rw c.as_slice.ensures.value at c.rank_below-rank.ensures in
    rw (add-one, c.in_ok-push.ensures.items, rank) (record {
      made = λ k low. behind_more parents ranks (length parents) k low c.nodes.made.items c.nodes.seen.items i c.requires (omega (arith, within)) (old.made k low) (old.seen k low);
      seen = λ k low. seen_more parents ranks (length parents) k low c.nodes.seen.items c.see.new.seen.items i (old.seen k low) c.see.ensures.count (c.see.ensures.each k);
      count = c.see.ensures.count ∙ old.count;
    })

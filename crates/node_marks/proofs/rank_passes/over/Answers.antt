use Rattle.std.proofs.Common.{◌≡◌, ◌-◌, ◌<◌, ◌∙◌, suc, length, get_or, subst, arith}
use Rattle.std.proofs.lemmas.List.{length-replicate}
use Rattle.node_marks.specs.Passes.{AreSeen, SeenFrom}
use Rattle.node_marks.specs.Ranks.{under}
use Rattle.node_marks.proofs.RankLemmas.{none_seen_under, over_one}
use Rattle.node_marks.proofs.rank_passes.over.Goals as goal

pub nodes-init : goal.nodes-init
nodes-init c =
    let parents = c.args.parents.now in
    rw c.in_ok-made.ensures (record {
      within = omega arith;
      count = length-replicate (length parents) (length parents);
      made = λ k low. none_seen_under parents (under k c.args.ranks.now) k low;
    })

pub lower-requires : goal.lower-requires
lower-requires c =
    let n = c.nodes.next - 1 in
    let some = c.nodes-test.true in
    let within = c.nodes.invariant.within in
    let count = c.nodes.invariant.count in
    let up : get_or c.args.parents.now n 0 < n = c.requires n (omega (arith, some)) (omega (arith, some, within)) in
    rw c.number_at-parent.ensures (omega (arith, up, some, within, count))

pub nodes-preserved : goal.nodes-preserved
nodes-preserved c =
    let parents = c.args.parents.now in
    let ranks = c.args.ranks.now in
    let made = c.nodes.made.items in
    let n = c.nodes.next - 1 in
    let some = c.nodes-test.true in
    let within = c.nodes.invariant.within in
    let next : c.nodes.next ≡ suc n = omega (arith, some) in
    let each = rw (c.number_at-parent.ensures, c.rank_at-rank.ensures) at c.lower.ensures.each in
    record {
      within = omega (arith, within);
      count = c.lower.ensures.count ∙ c.nodes.invariant.count;
      made = λ k low.
          over_one parents ranks made c.lower.new.made.items n (length parents) k low (omega (arith, some)) (omega (arith, some, within)) (subst (λ z. AreSeen parents (under k made) (SeenFrom parents (under k ranks) z)) next (c.nodes.invariant.made k low))
          c.lower.ensures.count (each k);
    }

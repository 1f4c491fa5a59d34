use Rattle.std.proofs.Common.{◌≡◌, ◌-◌, ◌<◌, ◌∙◌, suc, length, get_or, set, ap, subst, arith}
use Rattle.std.proofs.lemmas.List.{length-set, length-replicate}
use Rattle.node_marks.specs.Numbering.{parent_number}
use Rattle.node_marks.specs.Passes.{AreSeen, SeenFrom}
use Rattle.node_marks.specs.Ranks.{rank, under}
use Rattle.node_marks.proofs.PassLemmas.{IsAhead, all_ahead}
use Rattle.node_marks.proofs.RankLemmas.{none_seen_under, over_one, none_ahead_yet, ahead_more}
use Rattle.node_marks.proofs.rank_passes.ahead.Goals as goal

pub nodes-init : goal.nodes-init
nodes-init c =
    let parents = c.args.parents.now in
    let ranks = c.args.ranks.now in
    rw (c.in_ok-made.ensures, c.in_ok-seen.ensures) (record {
      within = omega arith;
      made_count = length-replicate (length parents) (length parents);
      seen_count = length-replicate (length parents) (length parents);
      made = λ k low. none_ahead_yet parents ranks (length parents) k low;
      seen = λ k low. none_seen_under parents (under k ranks) k low;
    })

pub put-requires : goal.put-requires
put-requires c =
    let some = c.nodes-test.true in
    let within = c.nodes.invariant.within in
    let count = c.nodes.invariant.made_count in
    omega (arith, some, within, count)

pub lower-requires : goal.lower-requires
lower-requires c =
    let n = c.nodes.next - 1 in
    let some = c.nodes-test.true in
    let within = c.nodes.invariant.within in
    let count = c.nodes.invariant.seen_count in
    let up : get_or c.args.parents.now n 0 < n = c.requires n (omega (arith, some)) (omega (arith, some, within)) in
    rw c.number_at-parent.ensures (omega (arith, up, some, within, count))

pub nodes-preserved : goal.nodes-preserved
nodes-preserved c =
    let parents = c.args.parents.now in
    let ranks = c.args.ranks.now in
    let made = c.nodes.made.items in
    let seen = c.nodes.seen.items in
    let n = c.nodes.next - 1 in
    let some = c.nodes-test.true in
    let old = c.nodes.invariant in
    let within = old.within in
    let next : c.nodes.next ≡ suc n = omega (arith, some) in
    let rank' = rw (c.as_slice.ensures.value, c.number_at-parent.ensures) at c.rank_at-rank.ensures in
    let put_at : c.put.new.made.items ≡ set made n (rank seen (length parents) (parent_number parents n)) = c.put.ensures ∙ ap (λ r. set made n r) rank' in
    let each = rw (c.number_at-parent.ensures, c.rank_at-own.ensures) at c.lower.ensures.each in
    record {
      within = omega (arith, within);
      made_count = ap length c.put.ensures ∙ length-set made n c.rank_at-rank.result ∙ old.made_count;
      seen_count = c.lower.ensures.count ∙ old.seen_count;
      made = λ k low.
          rw put_at (ahead_more parents ranks (length parents) k low made seen n c.requires (omega (arith, some)) (omega (arith, some, within)) (subst (λ z. IsAhead parents (under k ranks) (under k made) z) next (old.made k low))
          (subst (λ z. AreSeen parents (under k seen) (SeenFrom parents (under k ranks) z)) next (old.seen k low)));
      seen = λ k low.
          over_one parents ranks seen c.lower.new.made.items n (length parents) k low (omega (arith, some)) (omega (arith, some, within)) (subst (λ z. AreSeen parents (under k seen) (SeenFrom parents (under k ranks) z)) next (old.seen k low))
          c.lower.ensures.count (each k);
    }

pub returns : goal.returns
returns c = λ k low. let done = c.nodes-test.false in all_ahead c.args.parents.now (under k c.args.ranks.now) (under k c.nodes.made.items) c.nodes.next (omega (arith, done)) (c.nodes.invariant.made k low)

use Rattle.std.proofs.Common.{◌≡◌, ◌-◌, ◌<◌, ◌∙◌, [], suc, length, min, set, get_or, ap, sym, subst, arith}
use Rattle.std.proofs.lemmas.List.{length-set, length-replicate}
use Rattle.node_marks.specs.Numbering.{parent_number}
use Rattle.node_marks.specs.Passes.{AreFreeOver}
use Rattle.node_marks.specs.Ranks.{rank, under}
use Rattle.node_marks.proofs.RankLemmas.{none_free, least_free}
use Rattle.node_marks.proofs.rank_passes.far_over.Goals as goal

pub nodes-init : goal.nodes-init
nodes-init c =
    let parents = c.args.parents.now in
    rw c.in_ok-made.ensures (record {
      within = omega arith;
      count = length-replicate (length parents) (length parents);
      made = λ k low. none_free parents (under k c.args.ranks.now) k low;
    })

pub put-requires : goal.put-requires
put-requires c =
    let n = c.nodes.next - 1 in
    let some = c.nodes-test.true in
    let within = c.nodes.invariant.within in
    let count = c.nodes.invariant.count in
    let up : get_or c.args.parents.now n 0 < n = c.requires n (omega (arith, some)) (omega (arith, some, within)) in
    rw c.number_at-parent.ensures (omega (arith, up, some, within, count))

pub nodes-preserved : goal.nodes-preserved
nodes-preserved c =
    let parents = c.args.parents.now in
    let ranks = c.args.ranks.now in
    let made = c.nodes.made.items in
    let none = length parents in
    let n = c.nodes.next - 1 in
    let up = parent_number parents n in
    let some = c.nodes-test.true in
    let within = c.nodes.invariant.within in
    let next : c.nodes.next ≡ suc n = omega (arith, some) in
    let low_rank = rw (c.as_slice.ensures.value, c.number_at-parent.ensures) at c.lowest-rank.ensures in
    let put_at : c.put.new.made.items ≡ set made up (min (min (rank ranks none n) (rank made none n)) (rank made none up)) =
    c.put.ensures ∙ ap (λ p. set made p c.lowest-rank.result) c.number_at-parent.ensures ∙ ap (λ r. set made up r) low_rank in
    record {
      within = omega (arith, within);
      count = ap length c.put.ensures ∙ length-set made c.number_at-parent.result c.lowest-rank.result ∙ c.nodes.invariant.count;
      made = λ k low.
          subst (λ z. AreFreeOver parents (under k ranks) [] (under k z) n) (sym put_at)
          (least_free parents ranks made n none k low c.requires (omega (arith, some)) (omega (arith, some, within)) (subst (λ z. AreFreeOver parents (under k ranks) [] (under k made) z) next (c.nodes.invariant.made k low)));
    }

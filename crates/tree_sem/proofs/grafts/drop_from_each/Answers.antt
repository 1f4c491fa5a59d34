use Rattle.std.proofs.Common.{◌≡◌, ◌+◌, ◌-◌, length, take, sym, ap, ◌∙◌, arith}
use Rattle.std.proofs.Math.Seq.{take-length}
use Rattle.tree_sem.specs.Actions.{add_trees}
use Rattle.tree_sem.specs.Trees.{edit_at, edit_each}
use Rattle.tree_sem.proofs.EachLemmas.{edit_each-more}
use Rattle.tree_sem.proofs.grafts.drop_from_each.Goals as goal

pub loop-left-preserved : goal.loop-left-preserved
loop-left-preserved c = record {
  within = omega (arith, c.loop-left.invariant.within);
  dropped = λ t is.
      let at = c.args.at.now in
      let tops = c.args.tops.now in
      let k = c.loop-left.left - 1 in
      let path = c.index-at-left.result in
      let one : c.loop-left.left ≡ k + 1 = omega arith in
      let all : take (length tops) tops ≡ tops = take-length tops in
      let last = edit_each-more (add_trees tops) t at k path (omega (arith, c.loop-left.invariant.within)) in
      c.drop_trees.ensures (edit_each (take k at) (add_trees tops) t)
      (c.loop-left.invariant.dropped t is ∙ ap (λ n. edit_each (take n at) (add_trees tops) t) one ∙ last ∙ ap (λ p. edit_at p (add_trees tops) (edit_each (take k at) (add_trees tops) t)) (sym c.index-at-left.is)
      ∙ ap (λ z. edit_at path (add_trees z) (edit_each (take k at) (add_trees tops) t)) (sym all));
}

pub returns : goal.returns
returns c = λ t is.
    let none : c.loop-left.left ≡ 0 = omega arith in
    c.loop-left.invariant.dropped t is ∙ ap (λ k. edit_each (take k c.args.at.now) (add_trees c.args.tops.now) t) none

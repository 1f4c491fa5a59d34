use Rattle.std.proofs.Common.{◌≡◌, ◌+◌, ◌-◌, take, ap, ◌∙◌, arith}
use Rattle.tree_sem.specs.Actions.{add_trees}
use Rattle.tree_sem.specs.Cuts.{drop_last}
use Rattle.tree_sem.specs.Trees.{edit_at}
use Rattle.tree_sem.proofs.DropLemmas.{one_dropped, none_added}
use Rattle.tree_sem.proofs.grafts.drop_trees.Goals as goal

pub loop-left-preserved : goal.loop-left-preserved
loop-left-preserved c = record {
  within = omega (arith, c.loop-left.invariant.within);
  dropped = λ t is.
      let one : c.loop-left.left ≡ c.loop-left.left - 1 + 1 = omega arith in
      c.drop_last.ensures ∙ ap (edit_at c.args.at.now drop_last) (c.loop-left.invariant.dropped t is ∙ ap (λ k. edit_at c.args.at.now (add_trees (take k c.args.tops.now)) t) one)
      ∙ one_dropped c.args.at.now t c.args.tops.now (c.loop-left.left - 1) t (omega (arith, c.loop-left.invariant.within));
}

pub returns : goal.returns
returns c = λ t is.
    let none : c.loop-left.left ≡ 0 = omega arith in
    c.loop-left.invariant.dropped t is ∙ ap (λ k. edit_at c.args.at.now (add_trees (take k c.args.tops.now)) t) none ∙ none_added c.args.at.now t

use Rattle.std.proofs.Common.{IsNone, sym, ◌∙◌, subst}
use Rattle.tree_sem.specs.Trees.{LabelTree, label_at}
use Rattle.closed_page.specs.Labelled.{HaveLabels}
use Rattle.closed_page.proofs.closed.Closed.new.Goals as goal

pub invariant_of-result : goal.invariant_of-result
invariant_of-result c =
    let p = c.in_ok-parts.parts in
    let is = c.in_ok-parts.ensures in (
      λ v a none. is.rounds v a ∙ c.requires.others v a (subst (λ (z : LabelTree). IsNone (label_at v z)) is.tree none),
      subst (λ (z : LabelTree). HaveLabels z p.firsts.nodes p.own.items) (sym is.tree) is.own,
    )

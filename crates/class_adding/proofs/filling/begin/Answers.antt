use Rattle.std.proofs.Common.{ℕ, List, Contains, sym, subst}
use Rattle.std.specs.List.Sorted.{IsStrictlyIncreasing}
use Rattle.tree_sem.specs.Trees.{LabelTree}
use Rattle.closed_page.specs.Gains.{label_in, AreStarts}
use Rattle.class_adding.specs.Alike.{AreAlike}
use Rattle.class_adding.specs.Work.{IsStart}
use Rattle.class_adding.proofs.filling.begin.Goals as goal

pub returns : goal.returns
returns c =
    let t = c.args.page.now in
    let nodes = c.in_ok-labels.labels.nodes in
    let same = c.in_ok-labels.ensures.labels in
    let all = c.in_ok-labels.ensures.nodes in
    record {
      labels = same;
      nodes = all;
      firsts = subst (λ (z : List (List ℕ)). AreStarts t z c.in_ok-labels.labels.firsts) (sym all) c.in_ok-labels.ensures.firsts;
      few = c.in_ok-labels.ensures.few;
      rising = subst (λ (z : List (List ℕ)). (v : List ℕ) → Contains z v → IsStrictlyIncreasing (label_in t v)) (sym all) c.in_ok-labels.ensures.rising;
      alike = subst (λ (z : LabelTree). AreAlike z nodes c.in_ok-alike.alike.items) same c.in_ok-alike.ensures;
      start = subst (λ (z : LabelTree). IsStart z nodes c.in_ok-work.work) same c.in_ok-work.ensures;
    }

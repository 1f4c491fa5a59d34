use Rattle.std.proofs.Common.{◌≡◌, ◌↔◌, ℕ, true, List, Contains, ap, sym, subst, ◌∙◌, arith}
use Rattle.std.proofs.lemmas.List.{take_all}
use Rattle.std.specs.List.Sorted.{IsStrictlyIncreasing}
use Rattle.tp_base.proofs.ClassLemmas.{IsStrictlyIncreasing-with_class}
use Rattle.class_diagrams.specs.Arena.{tree_at}
use Rattle.class_diagrams.specs.Trees.{eval}
use Rattle.pushdown_sym.specs.CellMap.{trees_in}
use Rattle.saturation.proofs.MemberLemmas.{members_none, members_kept, members_added}
use Rattle.saturation.proofs.labels.label_under.Goals as goal
use Rattle.saturation.proofs.labels.label_under.Goals.{then-satisfies+in_ok-add, else-satisfies}

pub loop-i-init : goal.loop-i-init
loop-i-init g c = record {
  members = members_none (λ a. eval (trees_in c.args.d.now.branches c.args.cells.now c.args.kind a) (g.L.AtomSet.atoms c.args.parent.now)) c.new-label.result c.new-label.ensures;
  rising = subst (λ (xs : List ℕ). IsStrictlyIncreasing xs) (sym c.new-label.ensures) (λ k within. absurd (omega arith));
}

pub loop-i-preserved : goal.loop-i-preserved
loop-i-preserved g c =
    let f = λ (a : ℕ). eval (trees_in c.args.d.now.branches c.args.cells.now c.args.kind a) (g.L.AtomSet.atoms c.args.parent.now) in
    elim c.if-satisfies.branch [
      | then-satisfies+in_ok-add w ↦ rw (w.label-is) (record {
        members = members_added f c.args.atoms.now c.loop-i.label w.add.new.self c.loop-i.i c.at-atom.result c.at-atom.ensures
            (ap (λ t. eval (tree_at c.args.d.now.branches t) (g.L.AtomSet.atoms c.args.parent.now)) (sym c.get-there.ensures) ∙ sym c.satisfies.ensures ∙ w.if-satisfies.true)
            w.in_ok-add.ensures.ok c.loop-i.invariant.members;
        rising = subst (λ (xs : List ℕ). IsStrictlyIncreasing xs) (sym w.in_ok-add.ensures.ok) (IsStrictlyIncreasing-with_class c.at-atom.result c.loop-i.label c.loop-i.invariant.rising);
      })
      | else-satisfies w ↦ rw (w.label-is) (record {
        members = members_kept f c.args.atoms.now c.loop-i.label c.loop-i.i c.at-atom.result c.at-atom.ensures
            (ap (λ t. eval (tree_at c.args.d.now.branches t) (g.L.AtomSet.atoms c.args.parent.now)) (sym c.get-there.ensures) ∙ sym c.satisfies.ensures ∙ w.if-satisfies.false)
            c.loop-i.invariant.members;
        rising = c.loop-i.invariant.rising;
      })
    ]

pub returns-clause-members : goal.returns-clause-members
returns-clause-members g c a =
    subst (λ (xs : List ℕ). Contains c.loop-i.label a ↔ (Contains xs a × (eval (trees_in c.args.d.now.branches c.args.cells.now c.args.kind a) (g.L.AtomSet.atoms c.args.parent.now) ≡ true)))
    (take_all c.loop-i.i c.args.atoms.now (omega (arith, c.loop-i-test.false, c.len-i-end.ensures.count))) (c.loop-i.invariant.members a)

use Rattle.std.proofs.Common.{ℕ, List, Ok, not, map, All, sym, ap, subst, ◌∙◌}
use Rattle.std.specs.List.Sorted.{IsStrictlyIncreasing}
use Rattle.class_diagrams.specs.References.{Reference}
use Rattle.class_diagrams.specs.Arena.{tree_at, IsIn}
use Rattle.diagram_ops.specs.Compositions.{atoms_of}
use Rattle.diagram_ops.proofs.StepLemmas.{brings_itself}
use Rattle.pushdown_sym.specs.CellMap.{place_in, is_false}
use Rattle.pushdown_sym.specs.Terms.{Term, disjunctions}
use Rattle.pushdown_sym.specs.Children.{terms_by}
use Rattle.pushdown_sym.specs.Adding.{Adds}
use Rattle.pushdown_sym.proofs.LinkLemmas.{all_paired, rising_paired, child_there, small_there}
use Rattle.pushdown_sym.proofs.AddLemmas.{nothing_added}
use Rattle.pushdown_sym.proofs.ChildLemmas.{none_by, one_by}
use Rattle.pushdown_sym.proofs.children.add_one.Goals as goal

pub returns-then-is_false : goal.returns-then-is_false
returns-then-is_false c =
    subst (λ (ts : List Term). Adds c.args.d.now c.args.d.now c.args.sofar ts (Ok c.args.sofar))
    (sym (none_by c.args.d.now.branches c.args.now.now c.args.kind c.args.child (ap is_false (sym c.get-there.ensures) ∙ sym c.is_false.ensures ∙ c.if-is_false.true)))
    (nothing_added c.args.d.now c.args.sofar c.requires.arena c.requires.sofar)

pub seen_by-requires : goal.seen_by-requires
seen_by-requires c = c.requires.child (ap (λ p. not (is_false p)) (sym c.get-there.ensures) ∙ ap not (sym c.is_false.ensures ∙ c.if-is_false.false))

pub add_child-requires-clause-child : goal.add_child-requires-clause-child
add_child-requires-clause-child c = c.requires.child (ap (λ p. not (is_false p)) (sym c.get-there.ensures) ∙ ap not (sym c.is_false.ensures ∙ c.if-is_false.false))

pub add_child-requires-clause-each : goal.add_child-requires-clause-each
add_child-requires-clause-each c =
    subst (λ (es : List (ℕ × Reference)). All (λ e. IsIn c.args.d.now.branches e.1) es) (sym (c.deref.ensures.value ∙ c.in-Ok.ensures.each))
    (all_paired (IsIn c.args.d.now.branches) (place_in c.args.now.now c.args.kind) (atoms_of (tree_at c.args.d.now.branches c.args.child.diagram)) (c.requires.inside c.args.kind))

pub add_child-requires-clause-order : goal.add_child-requires-clause-order
add_child-requires-clause-order c =
    subst (λ (es : List (ℕ × Reference)). IsStrictlyIncreasing (map (λ e. e.0) es)) (sym (c.deref.ensures.value ∙ c.in-Ok.ensures.each))
    (rising_paired (place_in c.args.now.now c.args.kind) (atoms_of (tree_at c.args.d.now.branches c.args.child.diagram)) c.in-Ok.ensures.rising)

pub returns-then-is_small : goal.returns-then-is_small
returns-then-is_small c =
    subst (λ (ts : List Term). Adds c.args.d.now c.add_small.new.d c.args.sofar ts c.add_small.result)
    (sym (one_by c.args.d.now.branches c.args.now.now c.args.kind c.args.child (ap is_false (sym c.get-there.ensures) ∙ sym c.is_false.ensures ∙ c.if-is_false.false)))
    (small_there c.args.d.now c.add_small.new.d c.args.now.now c.args.kind c.args.child c.args.sofar c.get-there.result c.add_small.result c.get-there.ensures c.add_small.ensures)

pub is_small-requires : goal.is_small-requires
is_small-requires c = c.requires.child (ap (λ p. not (is_false p)) (sym c.get-there.ensures) ∙ ap not (sym c.is_false.ensures ∙ c.if-is_false.false))

pub add_small-requires-clause-child : goal.add_small-requires-clause-child
add_small-requires-clause-child c = c.requires.child (ap (λ p. not (is_false p)) (sym c.get-there.ensures) ∙ ap not (sym c.is_false.ensures ∙ c.if-is_false.false))

pub returns-in-Ok : goal.returns-in-Ok
returns-in-Ok c =
    subst (λ (ts : List Term). Adds c.args.d.now c.add_child.new.d c.args.sofar ts c.add_child.result)
    (sym (one_by c.args.d.now.branches c.args.now.now c.args.kind c.args.child (ap is_false (sym c.get-there.ensures) ∙ sym c.is_false.ensures ∙ c.if-is_false.false)))
    (child_there c.args.d.now c.add_child.new.d c.args.now.now c.args.kind c.args.child c.args.sofar c.get-there.result c.deref.result.now c.add_child.result
    c.get-there.ensures (c.deref.ensures.value ∙ c.in-Ok.ensures.each) c.add_child.ensures)

pub returns-in-Err : goal.returns-in-Err
returns-in-Err c = record {
  answer = tt;
  brings = brings_itself c.args.d.now (disjunctions (tree_at c.args.d.now.branches c.args.sofar) (terms_by c.args.d.now.branches c.args.now.now c.args.kind c.args.child)) c.requires.arena;
}

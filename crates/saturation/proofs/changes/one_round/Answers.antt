use Rattle.std.proofs.Common.{List, [], ◌∷◌, ◌++◌, take, length, ◌<◌, Contains, Ok, Err, sym, subst, ap, ◌∙◌}
use Rattle.std.proofs.lemmas.List.{take_more, take_all}
use Rattle.class_diagrams.proofs.ArenaLemmas.{tree_at-further, IsIn-further}
use Rattle.class_diagrams.proofs.BranchLemmas.{StartsWith-itself, StartsWith-further}
use Rattle.simple_core.specs.declared.system.System.{System}
use Rattle.pushdown_sym.specs.CellMap.{Entries, place_in}
use Rattle.pushdown_sym.specs.Adding.{AreIn}
use Rattle.pushdown_sym.specs.Rounds.{given_atoms}
use Rattle.saturation.specs.Waking.{CellName}
use Rattle.saturation.specs.Saturation.{AreChanges, Steps}
use Rattle.saturation.proofs.RoundLemmas.{step_none, full_of}
use Rattle.saturation.proofs.changes.one_round.Goals as goal

pub loop-name-init : goal.loop-name-init
loop-name-init c = (c.in_ok-round.ensures, StartsWith-itself c.args.d.now.branches, λ k sound given tells. step_none c.args.equations.now k c.args.d.now c.new-changes.result.items c.new-changes.ensures.items c.requires.arena)

pub one_cell-requires-clause-kind : goal.one_cell-requires-clause-kind
one_cell-requires-clause-kind c =
    subst (λ (p : System × Entries). c.name-item.result.0 < length p.0.kinds) (sym c.loop-name.invariant.0)
    (subst (λ (x : CellName). x.0 < length c.args.equations.now.kinds) (sym c.name-item.is) (c.requires.kinds c.loop-name.name-index c.name-item.result c.loop-name-test.true))

pub one_cell-requires-clause-inside : goal.one_cell-requires-clause-inside
one_cell-requires-clause-inside c =
    subst (λ (p : System × Entries). AreIn c.loop-name.d.branches p.1) (sym c.loop-name.invariant.0)
    (λ j a. IsIn-further c.args.d.now.branches c.loop-name.d.branches (place_in c.args.now.now j a) c.loop-name.invariant.1 (c.requires.inside j a))

pub returns-in_err-one_cell-clause-full : goal.returns-in_err-one_cell-clause-full
returns-in_err-one_cell-clause-full c k sound given tells full =
    full_of c.args.equations.now k c.args.d.now c.one_cell.new.d (take c.loop-name.name-index c.args.todo.now ++ c.name-item.result ∷ []) c.one_cell.new.changes.items c.from_residual-in_err-one_cell.result c.in_err-one_cell.field-0.0 c.from_residual-in_err-one_cell.ensures.1 full
    ((subst (λ (p : System × Entries). Steps p.0 p.1 c.loop-name.d c.one_cell.new.d c.name-item.result c.loop-name.changes.items c.one_cell.new.changes.items (Err c.in_err-one_cell.field-0.0)) c.loop-name.invariant.0 c.in_err-one_cell.ensures.step) k c.args.d.now (take c.loop-name.name-index c.args.todo.now) sound
    (subst (λ (x : CellName). Contains (given_atoms c.args.equations.now) x.1) (sym c.name-item.is) (given c.loop-name.name-index c.name-item.result c.loop-name-test.true))
    (λ j a less. tree_at-further c.args.d.now.branches c.loop-name.d.branches (place_in c.args.now.now j a) c.loop-name.invariant.1 (c.requires.inside j a) ∙ tells j a less)
    (c.loop-name.invariant.2 k sound given tells))

pub loop-name-preserved : goal.loop-name-preserved
loop-name-preserved c = (
  c.in_ok-one_cell.ensures.same ∙ c.loop-name.invariant.0,
  StartsWith-further c.args.d.now.branches c.loop-name.d.branches c.one_cell.new.d.branches c.loop-name.invariant.1 c.in_ok-one_cell.ensures.stays,
  λ k sound given tells.
      subst (λ (done : List CellName). AreChanges c.args.equations.now k c.args.d.now c.one_cell.new.d done c.one_cell.new.changes.items)
      (sym (take_more c.args.todo.now c.loop-name.name-index c.name-item.result c.loop-name-test.true
      ∙ ap (λ (x : CellName). take c.loop-name.name-index c.args.todo.now ++ x ∷ []) (sym c.name-item.is)))
      ((subst (λ (p : System × Entries). Steps p.0 p.1 c.loop-name.d c.one_cell.new.d c.name-item.result c.loop-name.changes.items c.one_cell.new.changes.items (Ok tt)) c.loop-name.invariant.0 c.in_ok-one_cell.ensures.step) k c.args.d.now (take c.loop-name.name-index c.args.todo.now) sound
      (subst (λ (x : CellName). Contains (given_atoms c.args.equations.now) x.1) (sym c.name-item.is) (given c.loop-name.name-index c.name-item.result c.loop-name-test.true))
      (λ j a less. tree_at-further c.args.d.now.branches c.loop-name.d.branches (place_in c.args.now.now j a) c.loop-name.invariant.1 (c.requires.inside j a) ∙ tells j a less)
      (c.loop-name.invariant.2 k sound given tells)),
)

pub returns-clause-changes : goal.returns-clause-changes
returns-clause-changes c k sound given tells =
    subst (λ (done : List CellName). AreChanges c.args.equations.now k c.args.d.now c.loop-name.d done c.loop-name.changes.items)
    (take_all c.loop-name.name-index c.args.todo.now c.loop-name-test.false) (c.loop-name.invariant.2 k sound given tells)

use Rattle.std.proofs.Common.{List, [], ◌∷◌, ◌++◌, false, Err, refl, sym, ap, subst, ◌∙◌}
use Rattle.std.proofs.lemmas.Bool.{both_ways}
use Rattle.class_diagrams.specs.References.{Reference}
use Rattle.class_diagrams.specs.declared.faults.DiagramFault.{DiagramFault}
use Rattle.class_diagrams.specs.Arena.{tree_at}
use Rattle.simple_core.specs.declared.system.System.{System}
use Rattle.pushdown_sym.specs.CellMap.{Entries, trees_in}
use Rattle.saturation.specs.Waking.{CellName}
use Rattle.saturation.specs.Saturation.{AreChanges}
use Rattle.saturation.proofs.OneCellLemmas.{step_failed, step_kept, step_pushed}
use Rattle.saturation.proofs.changes.one_cell.Goals as goal

pub returns-in_err-next-clause-step : goal.returns-in_err-next-clause-step
returns-in_err-next-clause-step c k first done sound given tells was =
    step_failed c.args.round.now.0 k first c.args.d.now c.args.round.now.1 c.args.name done c.args.changes.now.items c.requires.kind sound given tells was
    c.next_cell.new.d c.from_residual.result c.in_err-next.field-0.0 c.from_residual.ensures.1 (λ e. c.in_err-next.ensures.full (ap (λ (x : DiagramFault). Err x) e))

pub returns-else-not-same-clause-step : goal.returns-else-not-same-clause-step
returns-else-not-same-clause-step c k first done sound given tells was =
    let h = c.in_ok-next.ensures in
    step_kept c.args.round.now.0 k first c.args.d.now c.args.round.now.1 c.args.name done c.args.changes.now.items c.requires.kind sound given tells was
    c.next_cell.new.d c.in_ok-next.next h.inside h.tree (record { stays = h.stays; only = h.only; limit = h.limit; arena = h.arena })
    (c.if-not-same.ensures.same.0 refl ∙ ap (tree_at c.next_cell.new.d.branches) c.get.ensures ∙ ap (λ (p : System × Entries). trees_in c.next_cell.new.d.branches p.1 c.args.name.0 c.args.name.1) h.same) (c.requires.inside c.args.name.0 c.args.name.1)

pub returns-in_ok-push-clause-step : goal.returns-in_ok-push-clause-step
returns-in_ok-push-clause-step c k first done sound given tells was =
    let h = c.in_ok-next.ensures in
    subst (λ (cs : List (CellName × Reference)). AreChanges c.args.round.now.0 k first c.next_cell.new.d (done ++ c.args.name ∷ []) cs) (sym c.in_ok-push.ensures.items)
    (step_pushed c.args.round.now.0 k first c.args.d.now c.args.round.now.1 c.args.name done c.args.changes.now.items c.requires.kind sound given tells was
    c.next_cell.new.d c.in_ok-next.next h.inside h.tree (record { stays = h.stays; only = h.only; limit = h.limit; arena = h.arena })
    (λ same. both_ways false refl (c.if-not-same.ensures.same.1 (same ∙ ap (λ (p : System × Entries). trees_in c.next_cell.new.d.branches p.1 c.args.name.0 c.args.name.1) (sym h.same) ∙ ap (tree_at c.next_cell.new.d.branches) (sym c.get.ensures)))) (c.requires.inside c.args.name.0 c.args.name.1))

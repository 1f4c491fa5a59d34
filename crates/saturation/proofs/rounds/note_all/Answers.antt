use Rattle.std.proofs.Common.{◌≡◌, suc, List, [], ◌∷◌, ◌++◌, take, sym, subst, ap, ◌∙◌}
use Rattle.std.proofs.lemmas.List.{take_more, take_all}
use Rattle.class_diagrams.specs.References.{Reference}
use Rattle.class_diagrams.specs.Arena.{tree_at, IsIn}
use Rattle.pushdown_sym.specs.CellMap.{trees_in}
use Rattle.pushdown_sym.specs.Rounds.{cell}
use Rattle.saturation.specs.HistoryMap.{history_in}
use Rattle.saturation.specs.Waking.{CellName}
use Rattle.saturation.specs.Saturation.{AreNotedUpTo}
use Rattle.saturation.proofs.rounds.note_all.Goals as goal

pub note_one-requires-clause-inside : goal.note_one-requires-clause-inside
note_one-requires-clause-inside c =
    subst (λ (x : CellName × Reference). IsIn c.args.d.now.branches x.1) (sym c.change-item.is) (c.requires.inside c.loop-change.change-index c.change-item.result c.loop-change-test.true)

pub loop-change-preserved : goal.loop-change-preserved
loop-change-preserved c = (
  c.in_ok-note_one.ensures.cells,
  λ s k round trees noted.
      let tree = subst (λ (x : CellName × Reference). tree_at c.args.d.now.branches x.1 ≡ cell s (suc k) x.0.0 x.0.1) (sym c.change-item.is) (trees c.loop-change.change-index c.change-item.result c.loop-change-test.true) in
      subst (λ (done : List (CellName × Reference)). AreNotedUpTo s c.args.d.now.branches k done (history_in c.note_one.new.log) (trees_in c.args.d.now.branches c.note_one.new.cells))
      (sym (take_more c.args.changes.now c.loop-change.change-index c.change-item.result c.loop-change-test.true
      ∙ ap (λ (x : CellName × Reference). take c.loop-change.change-index c.args.changes.now ++ x ∷ []) (sym c.change-item.is)))
      (c.in_ok-note_one.ensures.noted s k (take c.loop-change.change-index c.args.changes.now) round tree (c.loop-change.invariant.1 s k round trees noted)),
)

pub returns-clause-noted : goal.returns-clause-noted
returns-clause-noted c s k round trees noted =
    subst (λ (done : List (CellName × Reference)). AreNotedUpTo s c.args.d.now.branches k done (history_in c.loop-change.log) (trees_in c.args.d.now.branches c.loop-change.cells))
    (take_all c.loop-change.change-index c.args.changes.now c.loop-change-test.false) (c.loop-change.invariant.1 s k round trees noted)

use Rattle.std.proofs.Common.{◌≡◌, ℕ, suc, [], take, All}
use Rattle.simple_core.specs.declared.system.System.{System}
use Rattle.class_diagrams.specs.Arena.{tree_at}
use Rattle.pushdown_sym.specs.CellMap.{trees_in}
use Rattle.pushdown_sym.specs.Adding.{AreIn}
use Rattle.pushdown_sym.specs.Rounds.{cell}
use Rattle.saturation.specs.HistoryMap.{history_in}
use Rattle.saturation.specs.Saturation.{AreNotedUpTo}
use Rattle.saturation.proofs.rounds.note_all.Given as goal

abbrev pub invariant-loop-change : goal.invariant-loop-change
invariant-loop-change l = AreIn l.d.branches l.cells
    × ((s : System) (k : ℕ) → l.round ≡ suc k → All (λ c. tree_at l.d.branches c.1 ≡ cell s (suc k) c.0.0 c.0.1) l.changes
    → AreNotedUpTo s l.d.branches k [] (history_in l.fn.log) (trees_in l.d.branches l.fn.cells)
    → AreNotedUpTo s l.d.branches k (take l.change-index l.changes) (history_in l.log) (trees_in l.d.branches l.cells))

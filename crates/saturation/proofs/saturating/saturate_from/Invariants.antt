use Rattle.std.proofs.Common.{◌+◌, ◌-◌, ◌*◌, length}
use Rattle.tp_base.specs.declared.atoms.TheConstants.{MOST_ATOMS}
use Rattle.row_index.specs.Rows.{row_of}
use Rattle.pushdown_sym.specs.Rounds.{cell}
use Rattle.saturation.specs.HistoryMap.{history_in}
use Rattle.saturation.specs.Saturation.{IsDone}
use Rattle.saturation.specs.Waking.{AreEnds}
use Rattle.saturation.proofs.saturating.saturate_from.Given as goal

abbrev pub invariant-rounds : goal.invariant-rounds
invariant-rounds l = IsDone l.equations l.initial.d.limit l.round l.d (history_in l.log) l.cells l.todo.items × AreEnds l.equations (cell l.equations l.round) (row_of l.ends)

abbrev pub decreases-rounds : goal.decreases-rounds
decreases-rounds l = (l.initial.d.limit + 2) * (MOST_ATOMS * length l.equations.kinds) + 1 - l.round

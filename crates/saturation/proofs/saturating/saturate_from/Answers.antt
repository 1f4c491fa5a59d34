use Rattle.std.proofs.Common.{suc, ◌+◌, List, All, sym, subst, ◌∙◌, arith}
use Rattle.class_diagrams.specs.References.{Reference}
use Rattle.class_diagrams.specs.Arena.{IsIn}
use Rattle.row_index.specs.Rows.{row_of}
use Rattle.pushdown_sym.specs.Rounds.{cell}
use Rattle.pushdown_sym.proofs.AddLemmas.{cells_in}
use Rattle.simple_core.specs.declared.summaries.GainFault.TheVariants.{Spent}
use Rattle.saturation.specs.HistoryMap.{history_in}
use Rattle.saturation.specs.Waking.{CellName, AreEnds}
use Rattle.saturation.specs.Saturation.{AreChanges, IsDone}
use Rattle.saturation.proofs.RoundLemmas.{error_passed}
use Rattle.saturation.proofs.DoneLemmas.{todo_kinds, rounds_bound}
use Rattle.saturation.proofs.EndLemmas.{rounds_left, built_at_rest, whole_at_rest}
use Rattle.saturation.proofs.saturating.saturate_from.Goals as goal

pub rounds-init : goal.rounds-init
rounds-init c = (c.requires.done, c.requires.ends)

pub changed_cells-requires-clause-inside : goal.changed_cells-requires-clause-inside
changed_cells-requires-clause-inside c = c.rounds.invariant.0.inside

pub changed_cells-requires-clause-arena : goal.changed_cells-requires-clause-arena
changed_cells-requires-clause-arena c = c.rounds.invariant.0.round.work.arena

pub changed_cells-requires-clause-kinds : goal.changed_cells-requires-clause-kinds
changed_cells-requires-clause-kinds c =
    let s = c.args.equations.now in
    let nodes = c.args.d.now.limit in
    let k = c.rounds.round in
    let h = history_in c.rounds.log in
    let todo = c.deref.result.now in
    let done = subst (λ (cs : List CellName). IsDone c.args.equations.now c.args.d.now.limit c.rounds.round c.rounds.d (history_in c.rounds.log) c.rounds.cells cs) (sym c.deref.ensures.value) c.rounds.invariant.0 in
    todo_kinds s nodes k c.rounds.d h c.rounds.cells todo done

pub returns-in_err-changes-clause-spent : goal.returns-in_err-changes-clause-spent
returns-in_err-changes-clause-spent c spent =
    let s = c.args.equations.now in
    let nodes = c.args.d.now.limit in
    let k = c.rounds.round in
    let h = history_in c.rounds.log in
    let todo = c.deref.result.now in
    let done = subst (λ (cs : List CellName). IsDone c.args.equations.now c.args.d.now.limit c.rounds.round c.rounds.d (history_in c.rounds.log) c.rounds.cells cs) (sym c.deref.ensures.value) c.rounds.invariant.0 in
    c.in_err-changes.ensures.spent nodes k h c.requires.sound done (error_passed c.from_residual.result c.in_err-changes.field-0.0 Spent c.from_residual.ensures.1 spent)

pub returns-then-are_none-clause-inside : goal.returns-then-are_none-clause-inside
returns-then-are_none-clause-inside c =
    let s = c.args.equations.now in
    let nodes = c.args.d.now.limit in
    let k = c.rounds.round in
    let h = history_in c.rounds.log in
    let todo = c.deref.result.now in
    let done = subst (λ (cs : List CellName). IsDone c.args.equations.now c.args.d.now.limit c.rounds.round c.rounds.d (history_in c.rounds.log) c.rounds.cells cs) (sym c.deref.ensures.value) c.rounds.invariant.0 in
    let changed = c.in_ok-changes.ensures.changes nodes k h c.requires.sound done in
    cells_in c.rounds.d.branches c.changed_cells.new.d.branches c.rounds.cells changed.brings.stays c.rounds.invariant.0.inside

pub returns-then-are_none-clause-built : goal.returns-then-are_none-clause-built
returns-then-are_none-clause-built c =
    let s = c.args.equations.now in
    let nodes = c.args.d.now.limit in
    let k = c.rounds.round in
    let h = history_in c.rounds.log in
    let todo = c.deref.result.now in
    let done = subst (λ (cs : List CellName). IsDone c.args.equations.now c.args.d.now.limit c.rounds.round c.rounds.d (history_in c.rounds.log) c.rounds.cells cs) (sym c.deref.ensures.value) c.rounds.invariant.0 in
    let changed = c.in_ok-changes.ensures.changes nodes k h c.requires.sound done in
    built_at_rest s c.requires.sound nodes k c.rounds.d c.changed_cells.new.d h c.rounds.cells todo done c.in_ok-changes.changes.items changed
    (sym c.as_slice-list.ensures.value ∙ c.are_none.ensures.none c.if-are_none.true)

pub returns-then-are_none-clause-whole : goal.returns-then-are_none-clause-whole
returns-then-are_none-clause-whole c _ =
    let s = c.args.equations.now in
    let nodes = c.args.d.now.limit in
    let k = c.rounds.round in
    let h = history_in c.rounds.log in
    let todo = c.deref.result.now in
    let done = subst (λ (cs : List CellName). IsDone c.args.equations.now c.args.d.now.limit c.rounds.round c.rounds.d (history_in c.rounds.log) c.rounds.cells cs) (sym c.deref.ensures.value) c.rounds.invariant.0 in
    let changed = c.in_ok-changes.ensures.changes nodes k h c.requires.sound done in
    whole_at_rest s c.requires.sound nodes k c.rounds.d c.changed_cells.new.d h c.rounds.cells todo done c.in_ok-changes.changes.items changed
    (sym c.as_slice-list.ensures.value ∙ c.are_none.ensures.none c.if-are_none.true)

pub overflow_add-round : goal.overflow_add-round
overflow_add-round c =
    let s = c.args.equations.now in
    let nodes = c.args.d.now.limit in
    let k = c.rounds.round in
    let h = history_in c.rounds.log in
    let todo = c.deref.result.now in
    let done = subst (λ (cs : List CellName). IsDone c.args.equations.now c.args.d.now.limit c.rounds.round c.rounds.d (history_in c.rounds.log) c.rounds.cells cs) (sym c.deref.ensures.value) c.rounds.invariant.0 in
    omega (arith, rounds_left s c.requires.sound nodes k c.rounds.d c.rounds.d h c.rounds.cells todo done)

pub noted-requires-clause-cells : goal.noted-requires-clause-cells
noted-requires-clause-cells c =
    let s = c.args.equations.now in
    let nodes = c.args.d.now.limit in
    let k = c.rounds.round in
    let h = history_in c.rounds.log in
    let todo = c.deref.result.now in
    let done = subst (λ (cs : List CellName). IsDone c.args.equations.now c.args.d.now.limit c.rounds.round c.rounds.d (history_in c.rounds.log) c.rounds.cells cs) (sym c.deref.ensures.value) c.rounds.invariant.0 in
    let changed = c.in_ok-changes.ensures.changes nodes k h c.requires.sound done in
    cells_in c.rounds.d.branches c.changed_cells.new.d.branches c.rounds.cells changed.brings.stays c.rounds.invariant.0.inside

pub noted-requires-clause-inside : goal.noted-requires-clause-inside
noted-requires-clause-inside c =
    let s = c.args.equations.now in
    let nodes = c.args.d.now.limit in
    let k = c.rounds.round in
    let h = history_in c.rounds.log in
    let todo = c.deref.result.now in
    let done = subst (λ (cs : List CellName). IsDone c.args.equations.now c.args.d.now.limit c.rounds.round c.rounds.d (history_in c.rounds.log) c.rounds.cells cs) (sym c.deref.ensures.value) c.rounds.invariant.0 in
    let changed = c.in_ok-changes.ensures.changes nodes k h c.requires.sound done in
    subst (λ (cs : List (CellName × Reference)). All (λ (x : CellName × Reference). IsIn c.changed_cells.new.d.branches x.1) cs) (sym c.as_slice-list.ensures.value) changed.inside

pub rounds-preserved : goal.rounds-preserved
rounds-preserved c =
    let s = c.args.equations.now in
    let nodes = c.args.d.now.limit in
    let k = c.rounds.round in
    let h = history_in c.rounds.log in
    let todo = c.deref.result.now in
    let done = subst (λ (cs : List CellName). IsDone c.args.equations.now c.args.d.now.limit c.rounds.round c.rounds.d (history_in c.rounds.log) c.rounds.cells cs) (sym c.deref.ensures.value) c.rounds.invariant.0 in
    let changed = c.in_ok-changes.ensures.changes nodes k h c.requires.sound done in
    let listed = subst (λ (cs : List (CellName × Reference)). AreChanges c.args.equations.now c.rounds.round c.rounds.d c.changed_cells.new.d c.deref.result.now cs) (sym c.as_slice-list.ensures.value) changed in
    let first = c.are_none.ensures.some c.if-are_none.false in
    let next = c.in_ok-next.ensures s nodes k c.rounds.d todo (omega arith) c.requires.sound c.requires.count c.requires.reads c.rounds.invariant.1 done listed first.0 first.1 in
    subst (λ n. IsDone c.args.equations.now c.args.d.now.limit n c.changed_cells.new.d (history_in c.noted.new.log) c.noted.new.cells c.in_ok-next.next.items
    × AreEnds c.args.equations.now (cell c.args.equations.now n) (row_of c.noted.new.ends)) {x = suc c.rounds.round} {y = c.rounds.round + 1} (omega arith) next

pub rounds-smaller : goal.rounds-smaller
rounds-smaller c =
    let s = c.args.equations.now in
    let nodes = c.args.d.now.limit in
    let k = c.rounds.round in
    let h = history_in c.rounds.log in
    let todo = c.deref.result.now in
    let done = subst (λ (cs : List CellName). IsDone c.args.equations.now c.args.d.now.limit c.rounds.round c.rounds.d (history_in c.rounds.log) c.rounds.cells cs) (sym c.deref.ensures.value) c.rounds.invariant.0 in
    let changed = c.in_ok-changes.ensures.changes nodes k h c.requires.sound done in
    let listed = subst (λ (cs : List (CellName × Reference)). AreChanges c.args.equations.now c.rounds.round c.rounds.d c.changed_cells.new.d c.deref.result.now cs) (sym c.as_slice-list.ensures.value) changed in
    let first = c.are_none.ensures.some c.if-are_none.false in
    let next = c.in_ok-next.ensures s nodes k c.rounds.d todo (omega arith) c.requires.sound c.requires.count c.requires.reads c.rounds.invariant.1 done listed first.0 first.1 in
    omega (arith, rounds_bound s nodes (suc k) c.changed_cells.new.d (history_in c.noted.new.log) c.noted.new.cells c.in_ok-next.next.items next.0)

use Rattle.std.proofs.Common.{◌≡◌, ◌<◌, [], ◌++◌, List, length, ap, ◌∙◌}
use Rattle.std.specs.List.{range_with_len}
use Rattle.std.proofs.lemmas.List.Elements.{All-contains}
use Rattle.row_index.specs.Rows.{row_of}
use Rattle.simple_core.specs.declared.rules.Kind.{Kind}
use Rattle.simple_core.specs.declared.rules.Spawn.{Spawn}
use Rattle.pushdown_sym.specs.CellMap.{trees_in}
use Rattle.pushdown_sym.specs.Rounds.{cell}
use Rattle.saturation.specs.Waking.{named_each}
use Rattle.saturation.specs.Starting.{labelled_each}
use Rattle.saturation.proofs.FirstCells.{no_ends, nothing, labels_below, all_changed, are_first, starts_as}
use Rattle.saturation.proofs.EndsLemmas.{ends_same}
use Rattle.saturation.proofs.names.first_cells.Goals as goal

pub returns-clause-first : goal.returns-clause-first
returns-clause-first c =
    let s = c.args.system.now in
    let cells = c.args.now.now in
    let listed = c.deref.result.now in
    let are : listed ≡ labelled_each s (length s.kinds) = c.deref.ensures.value ∙ c.in_ok-labels.ensures in
    let count : length c.items-count.result.now ≡ length s.kinds = ap (λ (ks : List Kind). length ks) c.items-count.ensures in
    let read = c.in_ok-cells.ensures s (nothing s) [] c.requires.sound count c.requires.reads (labels_below s listed are) (no_ends s c.args.ends.now c.requires.none)
    (all_changed s [] cells c.requires.cells listed are) in
    are_first s [] cells c.requires.cells listed are c.requires.sound c.in_ok-anywhere.anywhere c.in_ok-anywhere.ensures
    c.in_ok-cells.cells.items c.add_kinds.new.cells.items c.in_ok-once.once.items read.0
    (c.in_ok-add_kinds.ensures ∙ ap (λ n. c.in_ok-cells.cells.items ++ named_each (range_with_len 0 n) c.in_ok-anywhere.anywhere) count)
    c.in_ok-once.ensures.kept c.in_ok-once.ensures.only

pub returns-clause-ends : goal.returns-clause-ends
returns-clause-ends c =
    let s = c.args.system.now in
    let cells = c.args.now.now in
    let listed = c.deref.result.now in
    let are : listed ≡ labelled_each s (length s.kinds) = c.deref.ensures.value ∙ c.in_ok-labels.ensures in
    let count : length c.items-count.result.now ≡ length s.kinds = ap (λ (ks : List Kind). length ks) c.items-count.ensures in
    let read = c.in_ok-cells.ensures s (nothing s) [] c.requires.sound count c.requires.reads (labels_below s listed are) (no_ends s c.args.ends.now c.requires.none)
    (all_changed s [] cells c.requires.cells listed are) in
    ends_same s (trees_in [] cells) (cell s 0) (row_of c.readers.new.ends) (λ x there. All-contains (λ (x : Spawn). x.kind < length s.kinds) s.child x c.requires.sound.spawned there)
    (λ j a kind. starts_as s [] cells c.requires.cells j a) read.1

use Rattle.std.proofs.Common.{◌≡◌, ℕ, List, length, sym, ap, subst, ◌∙◌}
use Rattle.simple_core.specs.declared.rules.Kind.{Kind}
use Rattle.simple_core.specs.declared.system.System.{System}
use Rattle.simple_core.specs.Systems.{IsSound}
use Rattle.row_index.specs.Rows.{row_of}
use Rattle.pushdown_sym.specs.CellMap.{place_in}
use Rattle.pushdown_sym.specs.Rounds.{cell}
use Rattle.saturation.specs.Histories.{start_place}
use Rattle.saturation.specs.HistoryMap.{Noted, history_in}
use Rattle.saturation.specs.Tables.{AreReadsOf}
use Rattle.saturation.specs.Waking.{AreEnds}
use Rattle.saturation.specs.Starting.{AreFirst}
use Rattle.saturation.proofs.StartLemmas.{first_done}
use Rattle.saturation.proofs.saturating.saturate_by.Goals as goal

pub first_cells-requires-clause-sound : goal.first_cells-requires-clause-sound
first_cells-requires-clause-sound c = subst IsSound c.requires.same c.requires.sound

pub first_cells-requires-clause-cells : goal.first_cells-requires-clause-cells
first_cells-requires-clause-cells c = subst (λ (s : System). (j a : ℕ) → place_in c.args.cells.now j a ≡ start_place s j a) c.requires.same c.requires.cells

pub saturate_from-requires-clause-count : goal.saturate_from-requires-clause-count
saturate_from-requires-clause-count c = ap (λ (ks : List Kind). length ks) c.items-count.ensures ∙ ap (λ (s : System). length s.kinds) (sym c.requires.same)

pub saturate_from-requires-clause-reads : goal.saturate_from-requires-clause-reads
saturate_from-requires-clause-reads c = subst (λ (s : System). AreReadsOf s c.in_ok-reads.reads) (sym c.requires.same) c.in_ok-reads.ensures

pub saturate_from-requires-clause-done : goal.saturate_from-requires-clause-done
saturate_from-requires-clause-done c =
    let d = c.args.d.now in
    first_done c.args.equations.now d.limit d (history_in c.args.log.now) c.args.cells.now c.in_ok-start.start.items
    (λ i. record { branches = c.requires.empty i; limit = d.limit }) c.requires.arena
    (λ j a. ap (λ (h : List (List Noted)). history_in h j a) c.requires.log) c.requires.cells
    (subst (λ (s : System). AreFirst s c.in_ok-start.start.items) (sym c.requires.same) c.in_ok-start.ensures.first)

pub saturate_from-requires-clause-ends : goal.saturate_from-requires-clause-ends
saturate_from-requires-clause-ends c = subst (λ (s : System). AreEnds s (cell s 0) (row_of c.first_cells.new.ends)) (sym c.requires.same) c.in_ok-start.ensures.ends

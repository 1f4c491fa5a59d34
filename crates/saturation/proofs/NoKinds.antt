-- Where a system adds no nodes, there is nothing to calculate.
use Rattle.std.proofs.Common.{◌≡◌, ℕ, List, [], length, All, Contains, refl, ap, arith}
use Rattle.tp_base.proofs.Rising.{All-from_Contains, Contains-none}
use Rattle.class_diagrams.specs.Arena.{tree_at, IsIn, Arena, IsArena}
use Rattle.diagram_ops.proofs.StepLemmas.{brings_itself}
use Rattle.simple_core.specs.declared.system.System.{System}
use Rattle.simple_core.specs.Systems.{IsSound}
use Rattle.pushdown_sym.specs.CellMap.{Entries, place_in}
use Rattle.pushdown_sym.specs.Terms.{partial_results}
use Rattle.pushdown_sym.specs.Rounds.{cell, of_each_cell}
use Rattle.saturation.specs.Budgets.{HasToBeSpent}
use Rattle.saturation.specs.Histories.{start_place}
use Rattle.saturation.specs.HistoryMap.{Noted, history_in}
use Rattle.saturation.specs.Waking.{CellName, Fits}
use Rattle.saturation.specs.Starting.{AreFirst}
use Rattle.saturation.specs.Saturation.{empty, AreChanges, IsDone, IsBuilt}
use Rattle.saturation.proofs.StartLemmas.{first_done}
use Rattle.saturation.proofs.EndLemmas.{built_at_rest, whole_at_rest}

all_none : {X : Type 0} (P : X → Type 0) → All P []
all_none P = All-from_Contains P [] (λ x there. absurd (Contains-none x there))

module _ (s : System) (sound : IsSound s) (none : length s.kinds ≡ 0) (d : Arena) (log : List (List Noted)) (cells : Entries)
    (new : d ≡ empty d.limit) (arena : IsArena d) (unlogged : log ≡ []) (start : (j a : ℕ) → place_in cells j a ≡ start_place s j a) where
  none_first : AreFirst s []
  none_first = record {
    up = λ l there j kind. absurd (omega (arith, none, kind));
    down = λ l there c in_child j kind maker child. absurd (omega (arith, none, kind));
    bare = λ r there needs j kind. absurd (omega (arith, none, kind));
    needing = λ r there b j needs kind label. absurd (omega (arith, none, kind));
    cells = all_none (Fits s);
  }

  begun : IsDone s d.limit 0 d (history_in log) cells []
  begun = first_done s d.limit d (history_in log) cells [] new arena (λ j a. ap (λ (h : List (List Noted)). history_in h j a) unlogged) start none_first

  nothing_changes : AreChanges s 0 d d [] []
  nothing_changes = record {
    inside = all_none (λ c. IsIn d.branches c.1);
    trees = all_none (λ c. tree_at d.branches c.1 ≡ cell s 1 c.0.0 c.0.1);
    differ = all_none _;
    listed = all_none (λ c. Contains {X = CellName} [] c.0);
    others = λ j a there. absurd (Contains-none {X = CellName} (j, a) there);
    brings = brings_itself d (of_each_cell s (partial_results s (cell s 0))) arena;
  }

  pub none_built : IsBuilt s d (history_in log) cells
  none_built = built_at_rest s sound d.limit 0 d d (history_in log) cells [] begun [] nothing_changes refl

  pub none_whole : ¬ HasToBeSpent s d.limit
  none_whole = whole_at_rest s sound d.limit 0 d d (history_in log) cells [] begun [] nothing_changes refl

-- The first round.
use Rattle.std.proofs.Common.{◌≡◌, ℕ, zero, List, [], refl, sym, ap, subst, arith, inl, inr}
use Rattle.tp_base.specs.Classes.{has_class}
use Rattle.class_diagrams.specs.Trees.{Tree, leaf}
use Rattle.class_diagrams.specs.Arena.{tree_at, IsIn, Arena, IsArena}
use Rattle.diagram_ops.specs.Steps.{Brings}
use Rattle.diagram_ops.proofs.StepLemmas.{brings_itself}
use Rattle.simple_core.specs.declared.system.System.{System}
use Rattle.simple_core.specs.Systems.{kind_label}
use Rattle.pushdown_sym.specs.CellMap.{Entries, place_in}
use Rattle.pushdown_sym.specs.Rounds.{cell, work}
use Rattle.saturation.specs.Histories.{Change, start_place, IsHistory}
use Rattle.saturation.specs.Waking.{CellName}
use Rattle.saturation.specs.Saturation.{Histories, empty, IsRound, IsDone}
use Rattle.saturation.specs.Starting.{AreFirst}
use Rattle.saturation.proofs.LoopLemmas.{is_listed}
use Rattle.saturation.proofs.IdleLemmas.{idle}

first_told : (s : System) (ts : List Tree) (j a : ℕ) → IsHistory s ts 0 [] j a
first_told s ts j a = record {
  order = tt;
  past = λ k d within. absurd (omega arith);
  inside = λ k d within. absurd (omega arith);
  cells = λ k le. subst (λ z. leaf (has_class a (kind_label s j)) ≡ cell s z j a) {x = zero} {y = k} (omega arith) refl;
}

-- all cells that a rule may change in the first round
pub first_round : (s : System) (nodes : ℕ) (d : Arena) (histories : Histories) (todo : List CellName) → d ≡ empty nodes → IsArena d → ((j a : ℕ) → histories j a ≡ []) → AreFirst s todo
    → IsRound s nodes 0 d histories todo
first_round s nodes d histories todo new arena none first = record {
  told = λ j a kind. subst (λ (h : List Change). IsHistory s d.branches 0 h j a) (sym (none j a)) (first_told s d.branches j a);
  others = λ j a kind. elim (is_listed todo j a) [ inl listed ↦ inl listed | inr unlisted ↦ inr (idle s todo first j a kind unlisted) ];
  cells = first.cells;
  changed = λ m less. absurd (omega arith);
  work = subst (λ (z : Arena). Brings (empty nodes) z (work s 0)) (sym new) (brings_itself (empty nodes) (work s 0) (subst IsArena new arena));
}

-- the state at the beginning
pub first_done : (s : System) (nodes : ℕ) (d : Arena) (histories : Histories) (cells : Entries) (todo : List CellName) → d ≡ empty nodes → IsArena d → ((j a : ℕ) → histories j a ≡ [])
    → ((j a : ℕ) → place_in cells j a ≡ start_place s j a) → AreFirst s todo
    → IsDone s nodes 0 d histories cells todo
first_done s nodes d histories cells todo new arena none start first = record {
  inside = λ j a. subst (IsIn d.branches) (sym (start j a)) tt;
  round = first_round s nodes d histories todo new arena none first;
  tells = λ j a kind. ap (tree_at d.branches) (start j a);
}

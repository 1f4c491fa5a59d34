-- The changes of a cell: in which rounds it got which diagram.
--     place_after s j a history k            the diagram after k rounds
--     AreGrowing ts history label            under the label, later diagrams are true wherever earlier ones are
--     first_in starts ts history label       the first round whose diagram is true under the label
--     IsHistory s ts n history j a           the history has exactly the changes up to round n of the cell of kind j and atom a
use Rattle.std.specs.Prelude.{◌≡◌, ℕ, ◌<◌, ◌≤◌, nat_lt, Bool, true, length, get_or, if◌then◌else◌, List, [], ◌∷◌, Option, Some, None, All}
use Rattle.tp_base.specs.Classes.{has_class}
use Rattle.class_diagrams.specs.References.{Reference, leaf_reference}
use Rattle.class_diagrams.specs.Trees.{Tree, eval}
use Rattle.class_diagrams.specs.Arena.{tree_at, IsIn}
use Rattle.simple_core.specs.declared.system.System.{System}
use Rattle.simple_core.specs.Systems.{kind_label}
use Rattle.pushdown_sym.specs.Rounds.{cell}

-- a round, and the diagram from then on
abbrev pub Change : Type 0
Change = ℕ × Reference

-- the diagram of the last change up to round k, or the one before all changes
abbrev pub place_from : Reference → List Change → ℕ → Reference
place_from first [] k = first
place_from first (c ∷ cs) k = place_from (if nat_lt k c.0 then first else c.1) cs k

-- before all changes the diagram is true for the atoms of the kind's label, and else false
abbrev pub start_place : System → ℕ → ℕ → Reference
start_place s j a = leaf_reference (has_class a (kind_label s j))

abbrev pub place_after : System → ℕ → ℕ → List Change → ℕ → Reference
place_after s j a history k = place_from (start_place s j a) history k

-- the rounds increase strictly
abbrev pub AreInOrder : List Change → Type 0
AreInOrder [] = Unit {0}
AreInOrder (c ∷ cs) = All (λ d. c.0 < d.0) cs × AreInOrder cs

abbrev pub first_holding : List Tree → List Change → List ℕ → Option ℕ
first_holding branches [] label = None
first_holding branches (c ∷ cs) label = if eval (tree_at branches c.1) label then Some c.0 else first_holding branches cs label

-- later diagrams are true under the label wherever earlier ones are
abbrev pub AreGrowing : List Tree → List Change → List ℕ → Type 0
AreGrowing branches history label = (i j : ℕ) (c : Change) → i ≤ j → j < length history
    → eval (tree_at branches (get_or history i c).1) label ≡ true → eval (tree_at branches (get_or history j c).1) label ≡ true

abbrev pub first_in : Bool → List Tree → List Change → List ℕ → Option ℕ
first_in starts branches history label = if starts then Some 0 else first_holding branches history label

pub record IsHistory (s : System) (branches : List Tree) (n : ℕ) (history : List Change) (j a : ℕ) : Type 0 where
  pub order : AreInOrder history
  pub past : All (λ c. c.0 ≤ n) history
  pub inside : All (λ c. IsIn branches c.1) history
  pub cells : (k : ℕ) → k ≤ n → tree_at branches (place_after s j a history k) ≡ cell s k j a

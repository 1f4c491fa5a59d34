-- The nodes of a page by number: for each its parent's number, if it has one, and its step from there.
--     path_next before o s        the path one step s below the node o of those before; the root's path if o is none
--     paths_up parents steps n    the paths of the first n nodes
--     paths_by parents steps      the paths of all nodes
--     AreNumbered nodes ..        the nodes at these paths have these parents, steps and children, and the root is the first
--     parent_told numbers i       the number of the i-th node's parent; the root's entry has no meaning
--     told numbers                the parents of all nodes
--     AreColumns t numbers steps  the parents and steps are those of the nodes of t
use Rattle.std.specs.Prelude.{◌≡◌, ℕ, zero, suc, ◌<◌, List, [], ◌∷◌, ◌++◌, map, Option, Some, None, length, get_or}
use Rattle.tree_sem.specs.Trees.{LabelTree}
use Rattle.row_index.specs.Rows.{AreByNumber}
use Rattle.node_marks.specs.Numbering.{IsNumbering}

abbrev pub path_next : List (List ℕ) → Option ℕ → ℕ → List ℕ
path_next before None s = []
path_next before (Some p) s = get_or before p [] ++ s ∷ []

unfoldable pub paths_up : List (Option ℕ) → List ℕ → ℕ → List (List ℕ)
paths_up parents steps zero = []
paths_up parents steps (suc n) = paths_up parents steps n ++ path_next (paths_up parents steps n) (get_or parents n None) (get_or steps n 0) ∷ []

abbrev pub paths_by : List (Option ℕ) → List ℕ → List (List ℕ)
paths_by parents steps = paths_up parents steps (length parents)

pub record AreNumbered (nodes : List (List ℕ)) (parents : List (Option ℕ)) (steps : List ℕ) (kids : List (List ℕ)) : Type 0 where
  pub some : 0 < length nodes
  pub parents_count : length parents ≡ length nodes
  pub steps_count : length steps ≡ length nodes
  pub root : (i : ℕ) → i < length nodes → get_or parents i None ≡ None → get_or nodes i [] ≡ []
  pub above : (i p : ℕ) → i < length nodes → get_or parents i None ≡ Some p → (p < i) × (get_or nodes i [] ≡ get_or nodes p [] ++ get_or steps i 0 ∷ [])
  pub once : (i j : ℕ) → i < length nodes → j < length nodes → get_or nodes i [] ≡ get_or nodes j [] → i ≡ j
  pub below : AreByNumber parents kids

abbrev pub parent_told : List ℕ → ℕ → Option ℕ
parent_told numbers zero = None
parent_told numbers (suc i) = Some (get_or numbers (suc i) 0)

abbrev pub told : List ℕ → List (Option ℕ)
told [] = []
told (number ∷ numbers) = None ∷ map Some numbers

abbrev pub AreColumns : LabelTree → List ℕ → List ℕ → Type 0
AreColumns t numbers steps = (labels : List (List ℕ)) × IsNumbering t numbers steps labels

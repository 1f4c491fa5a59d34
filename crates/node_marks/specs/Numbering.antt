-- The nodes of a tree in the order of the document: of each the number of its parent, its own number among the parent's
-- children, and its label. The root stands first, and its parent's number is of no account.
--     IsNumbering      of all nodes
--     IsWalkedTo       of the nodes before the one at v, with the numbers of those on the way to v
use Rattle.std.specs.Prelude.{◌≡◌, ℕ, ◌-◌, ◌<◌, List, [], ◌∷◌, ◌++◌, length, take, get_or, Some}
use Rattle.tree_sem.specs.Trees.{LabelTree, count_of, label_at}
use Rattle.tree_sem.specs.Order.{paths_of, rest_of}
use Rattle.node_marks.specs.Marks.{path_at}

abbrev pub parent_number : List ℕ → ℕ → ℕ
parent_number parents i = get_or parents i 0

-- each node but the first has a smaller number above it
abbrev pub AreAbove : List ℕ → Type 0
AreAbove parents = (i : ℕ) → 0 < i → i < length parents → parent_number parents i < i

-- the first n nodes
pub record AreNumbered (t : LabelTree) (parents steps : List ℕ) (labels : List (List ℕ)) (n : ℕ) : Type 0 where
  pub parents_count : length parents ≡ n
  pub steps_count : length steps ≡ n
  pub labels_count : length labels ≡ n
  pub smaller : AreAbove parents
  pub above : (i : ℕ) → 0 < i → i < n → path_at t i ≡ path_at t (parent_number parents i) ++ get_or steps i 0 ∷ []
  pub label : (i : ℕ) → i < n → label_at (path_at t i) t ≡ Some (get_or labels i [])

abbrev pub IsNumbering : LabelTree → List ℕ → List ℕ → List (List ℕ) → Type 0
IsNumbering t parents steps labels = AreNumbered t parents steps labels (count_of t)

pub record IsWalkedTo (t : LabelTree) (parents steps : List ℕ) (labels : List (List ℕ)) (line v : List ℕ) : Type 0 where
  pub done : List (List ℕ)
  pub cut : paths_of t ≡ done ++ v ∷ rest_of v t
  pub numbered : AreNumbered t parents steps labels (length done)
  pub way : (m : ℕ) → m < length v → (m < length line) × (get_or line m 0 < length done) × (path_at t (get_or line m 0) ≡ take m v)

-- the number of the parent of v, where `line` has the numbers on the way to v, and the last step of v
abbrev pub number_above : List ℕ → List ℕ → ℕ
number_above line v = get_or line (length v - 1) 0

abbrev pub last_step : List ℕ → ℕ
last_step v = get_or v (length v - 1) 0

-- The labels of a page, by the numbers of its nodes.
--     Labelled               a tree, the paths of its nodes, the first rounds of its atoms, and the number of notes that hold these
--     node_of l i            the path of the node with this number
--     IsAbove nodes v o      o is the number of the parent of v, or none if no node is the parent
--     AreKids nodes i row    the row has exactly the numbers of the children of the i-th node
--     IsParentIn nodes c row the row has the number of the c-th node's parent
--     IsHeard nodes callers c   the c-th node is in the row of its parent
--     HaveLabels u nodes own the tree u has exactly these nodes, with these labels
--     AreRelated u nodes own the same, and no path stands twice
use Rattle.std.specs.Prelude.{◌≡◌, ℕ, ◌<◌, List, [], ◌∷◌, ◌++◌, Option, Some, None, length, get_or, Contains, IsSome, refl}
use Rattle.std.specs.Coded.{Coded, code_by, coded×, coded_ℕ, coded_list}
use Rattle.tree_sem.specs.Trees.{LabelTree, node_at, label_at}
use Rattle.tree_sem.specs.TreeCode.{tree_code}
use Rattle.row_index.specs.Rows.{row_of}
use Rattle.closed_page.specs.Views.{PageFirst, page_first_code}

pub record Labelled : Type 0 where
  pub labels : LabelTree
  pub nodes : List (List ℕ)
  pub firsts : List PageFirst
  pub notes : ℕ

abbrev pub labelled_code : Coded Labelled
labelled_code =
    code_by (LabelTree × (List (List ℕ) × (List PageFirst × ℕ))) (coded× tree_code (coded× (coded_list (coded_list coded_ℕ)) (coded× (coded_list page_first_code) coded_ℕ)))
    (λ l. (l.labels, (l.nodes, (l.firsts, l.notes)))) (λ p. record { labels = p.0; nodes = p.1.0; firsts = p.1.1.0; notes = p.1.1.1 }) (λ l. refl)

-- the path of the node with this number
abbrev pub node_of : Labelled → ℕ → List ℕ
node_of l i = get_or l.nodes i []

abbrev pub IsAbove : List (List ℕ) → List ℕ → Option ℕ → Type 0
IsAbove nodes v None = (p : List ℕ) (n : ℕ) → v ≡ p ++ n ∷ [] → Contains nodes p → ⊥
IsAbove nodes v (Some j) = (j < length nodes) × (n : ℕ) × (v ≡ get_or nodes j [] ++ n ∷ [])

-- the row has exactly the numbers of the children of the i-th node
pub record AreKids (nodes : List (List ℕ)) (i : ℕ) (row : List ℕ) : Type 0 where
  pub only : (c : ℕ) → Contains row c → (c < length nodes) × (n : ℕ) × (get_or nodes c [] ≡ get_or nodes i [] ++ n ∷ [])
  pub whole : (c n : ℕ) → c < length nodes → get_or nodes c [] ≡ get_or nodes i [] ++ n ∷ [] → Contains row c

abbrev pub IsParentIn : List (List ℕ) → ℕ → List ℕ → Type 0
IsParentIn nodes c row = (p n : ℕ) → p < length nodes → get_or nodes c [] ≡ get_or nodes p [] ++ n ∷ [] → Contains row p

-- each row has only children of its node
abbrev pub AreKidsAll : List (List ℕ) → List (List ℕ) → Type 0
AreKidsAll nodes callers = (i c : ℕ) → Contains (row_of callers i) c → (c < length nodes) × (n : ℕ) × (get_or nodes c [] ≡ get_or nodes i [] ++ n ∷ [])

abbrev pub IsHeard : List (List ℕ) → List (List ℕ) → ℕ → Type 0
IsHeard nodes callers c = (i n : ℕ) → i < length nodes → get_or nodes c [] ≡ get_or nodes i [] ++ n ∷ [] → Contains (row_of callers i) c

-- one more node was added to the row of its parent
pub record IsCalled (nodes old new : List (List ℕ)) (c : ℕ) : Type 0 where
  pub kept : (i j : ℕ) → Contains (row_of old i) j → Contains (row_of new i) j
  pub only : AreKidsAll nodes old → AreKidsAll nodes new
  pub heard : IsHeard nodes new c

-- the first n nodes have these labels in u
pub record AreAllLabels (u : LabelTree) (nodes own : List (List ℕ)) (n : ℕ) : Type 0 where
  pub count : length own ≡ n
  pub each : (i : ℕ) → i < n → label_at (get_or nodes i []) u ≡ Some (get_or own i [])

pub record HaveLabels (u : LabelTree) (nodes own : List (List ℕ)) : Type 0 where
  pub whole : (v : List ℕ) → IsSome (node_at v u) → Contains nodes v
  pub labels : AreAllLabels u nodes own (length nodes)

pub record AreRelated (u : LabelTree) (nodes own : List (List ℕ)) : Type 0 where
  pub whole : (v : List ℕ) → IsSome (node_at v u) → Contains nodes v
  pub once : (i j : ℕ) → i < length nodes → j < length nodes → get_or nodes i [] ≡ get_or nodes j [] → i ≡ j
  pub labels : AreAllLabels u nodes own (length nodes)

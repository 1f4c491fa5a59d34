-- A page whose nodes take their labels and first rounds from other nodes.
--     moved g v                  the first g, for the node at v instead
--     IsSpread t numbers l l'    in l' the i-th node of t has the label and firsts that l has for the node with the i-th number
use Rattle.std.specs.Prelude.{◌≡◌, ◌↔◌, ℕ, ◌<◌, List, get_or, Contains, IsSome}
use Rattle.tree_sem.specs.Trees.{LabelTree, count_of, node_at, label_at}
use Rattle.tree_sem.specs.Order.{paths_of}
use Rattle.closed_page.specs.Labelled.{Labelled, node_of}
use Rattle.closed_page.specs.Views.{PageFirst}

abbrev pub moved : PageFirst → List ℕ → PageFirst
moved g v = record { at = v; atom = g.atom; round = g.round }

-- the path of the node of l that has the i-th of these numbers
abbrev pub from_at : Labelled → List ℕ → ℕ → List ℕ
from_at l numbers i = node_of l (get_or numbers i 0)

-- the first f is a first of the source of the i-th node, for the i-th node
pub record IsMoved (numbers : List ℕ) (l l' : Labelled) (i : ℕ) (f : PageFirst) : Type 0 where
  pub first : PageFirst
  pub known : Contains l.firsts first
  pub at : first.at ≡ from_at l numbers i
  pub same : f ≡ moved first (node_of l' i)

pub record IsSpread (t : LabelTree) (numbers : List ℕ) (l l' : Labelled) : Type 0 where
  pub nodes : l'.nodes ≡ paths_of t
  pub there : (v : List ℕ) → IsSome (node_at v l'.labels) ↔ IsSome (node_at v t)
  pub label : (i : ℕ) → i < count_of t → label_at (node_of l' i) l'.labels ≡ label_at (from_at l numbers i) l.labels
  pub right : (f : PageFirst) → Contains l'.firsts f → (i : ℕ) × (i < count_of t) × IsMoved numbers l l' i f
  pub whole : (i : ℕ) (g : PageFirst) → i < count_of t → Contains l.firsts g → g.at ≡ from_at l numbers i → Contains l'.firsts (moved g (node_of l' i))

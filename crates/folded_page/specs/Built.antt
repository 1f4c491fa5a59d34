-- The folded tree, as far as it is built.
--     IsOnLastWay p t       p leads to the last node, or to a node above it
--     IsAddedLast t u v l   u is t with one node more, behind all others: a child of the one at v, with the label l
--     IsInOrder g line n    the current node is the last one; its number, and the numbers of the nodes on the way to it, are
--                           the line, and there are n nodes
--     AreFoldable           leads of a page's nodes
--     IsFoldedTo .. u ns    the first nodes of the page have these numbers in u, and no others are nodes of u, which has one for
--                           each of them that is its own lead
--     IsFolding .. m        the same of the first m nodes, with the line of u
use Rattle.std.specs.Prelude.{◌≡◌, ℕ, suc, ◌<◌, List, [], ◌∷◌, ◌++◌, length, take, get_or, Some}
use Rattle.tree_sem.specs.Trees.{LabelTree, tree_of, length_of, count_of, label_at}
use Rattle.tree_sem.specs.Nodes.{IsNode}
use Rattle.tree_sem.specs.Order.{paths_of}
use Rattle.tree_sem.specs.Growing.{GrowingTree}
use Rattle.node_marks.specs.Marks.{path_at}
use Rattle.node_marks.specs.Numbering.{parent_number, AreAbove}
use Rattle.folded_page.specs.Folding.{image_at}
use Rattle.folded_page.specs.Leads.{lead_of, own_count, AreLeads}

abbrev pub IsOnLastWay : List ℕ → LabelTree → Type 0
IsOnLastWay [] t = Unit {0}
IsOnLastWay (k ∷ p) t = (s : LabelTree) × (tree_of t.below k ≡ Some s) × (length_of t.below ≡ suc k) × IsOnLastWay p s

pub record IsAddedLast (t u : LabelTree) (v l : List ℕ) : Type 0 where
  pub step : ℕ
  pub paths : paths_of u ≡ paths_of t ++ (v ++ step ∷ []) ∷ []
  pub label : label_at (v ++ step ∷ []) u ≡ Some l
  pub kept : (w : List ℕ) → IsNode t w → label_at w u ≡ label_at w t

pub record IsInOrder (g : GrowingTree) (line : List ℕ) (n : ℕ) : Type 0 where
  pub count : n ≡ count_of g.tree
  pub last : IsOnLastWay g.at g.tree
  pub long : length line ≡ suc (length g.at)
  pub within : (m : ℕ) → m < length line → get_or line m 0 < count_of g.tree
  pub way : (m : ℕ) → m < length line → path_at g.tree (get_or line m 0) ≡ take m g.at

pub record AreFoldable (parents leads : List ℕ) (labels : List (List ℕ)) : Type 0 where
  pub are_leads : AreLeads parents labels leads
  pub smaller : AreAbove parents
  pub labelled : length labels ≡ length parents
  pub some : 0 < length parents

pub record IsFoldedTo (parents leads : List ℕ) (labels : List (List ℕ)) (u : LabelTree) (numbers : List ℕ) : Type 0 where
  pub within : (i : ℕ) → i < length numbers → get_or numbers i 0 < count_of u
  pub few : count_of u ≡ own_count leads (length numbers)
  pub root : get_or numbers 0 0 ≡ 0
  pub led : (i : ℕ) → i < length numbers → get_or numbers (lead_of leads i) 0 ≡ get_or numbers i 0
  pub label : (i : ℕ) → i < length numbers → label_at (image_at u numbers i) u ≡ Some (get_or labels i [])
  pub above : (i : ℕ) → 0 < i → i < length numbers → lead_of leads i ≡ i → (m : ℕ) × (image_at u numbers i ≡ image_at u numbers (parent_number parents i) ++ m ∷ [])
  pub image : (k : ℕ) → k < count_of u → (c : ℕ) × (c < length numbers) × (lead_of leads c ≡ c) × (get_or numbers c 0 ≡ k)
  pub once : (c d : ℕ) → c < length numbers → d < length numbers → lead_of leads c ≡ c → lead_of leads d ≡ d → get_or numbers c 0 ≡ get_or numbers d 0 → c ≡ d

pub record IsFolding (parents leads : List ℕ) (labels : List (List ℕ)) (g : GrowingTree) (line : List ℕ) (n : ℕ) (numbers : List ℕ) (m : ℕ) : Type 0 where
  pub so_far : IsFoldedTo parents leads labels g.tree numbers
  pub order : IsInOrder g line n
  pub long : length numbers ≡ m
  pub some : 0 < m

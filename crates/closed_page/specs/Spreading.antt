-- How a page takes its labels and firsts from another page.
--     IsNumberAt nodes p s o     o is the number of the node at the spot, or none if no node is there
--     AreLabelled t own u        the tree u has the nodes of t with these labels
--     note_path nodes n          the path of the node of the note n
--     AreNumbersOf nodes ns v n  v has the numbers of the nodes of the first n notes
--     AreByNode nodes ns rows    the row of a node has exactly the places of its notes
--     again s m                  the note m, at another spot
--     all_again known s places   the notes at these places, at another spot
--     AreAgain nodes numbers known rows These ns   ns are the notes of These nodes, each copied from the node with its number
--     AreMoved numbers l l' fs   the firsts fs are firsts of l, each for a node of l' instead
use Rattle.std.specs.Prelude.{◌≡◌, ◌↔◌, ◌<◌, ℕ, List, [], map, Option, Some, None, length, get_or, Contains, IsSome}
use Rattle.tree_sem.specs.Trees.{LabelTree, count_of, node_at, label_at}
use Rattle.tree_sem.specs.Order.{paths_of}
use Rattle.row_index.specs.Rows.{row_of}
use Rattle.closed_page.specs.declared.first_rounds.Spot.{Spot}
use Rattle.closed_page.specs.declared.notes.NodeNews.{NodeNews}
use Rattle.closed_page.specs.Firsts.{path_to, IsSpotOf}
use Rattle.closed_page.specs.Labelled.{Labelled, node_of}
use Rattle.closed_page.specs.Spread.{moved, from_at, IsMoved}
use Rattle.closed_page.specs.Views.{PageFirst}

abbrev pub IsNumberAt : List (List ℕ) → ℕ → ℕ → Option ℕ → Type 0
IsNumberAt nodes p s None = Contains nodes (path_to nodes p s) → ⊥
IsNumberAt nodes p s (Some k) = (k < length nodes) × (get_or nodes k [] ≡ path_to nodes p s)

pub record AreLabelled (t : LabelTree) (own : List (List ℕ)) (u : LabelTree) : Type 0 where
  pub there : (v : List ℕ) → IsSome (node_at v u) ↔ IsSome (node_at v t)
  pub label : (i : ℕ) → i < count_of t → label_at (get_or (paths_of t) i []) u ≡ Some (get_or own i [])

abbrev pub no_news : NodeNews
no_news = record { spot = record { parent = 0; step = 0 }; round = 0; atoms = [] }

abbrev pub news_at : List NodeNews → ℕ → NodeNews
news_at ns p = get_or ns p no_news

abbrev pub note_path : List (List ℕ) → NodeNews → List ℕ
note_path nodes n = path_to nodes n.spot.parent n.spot.step

pub record AreNumbersOf (nodes : List (List ℕ)) (ns : List NodeNews) (numbers : List (Option ℕ)) (n : ℕ) : Type 0 where
  pub count : length numbers ≡ n
  pub each : (j : ℕ) → j < n → IsNumberAt nodes (news_at ns j).spot.parent (news_at ns j).spot.step (get_or numbers j None)

pub record AreByNode (nodes : List (List ℕ)) (ns : List NodeNews) (rows : List (List ℕ)) : Type 0 where
  pub within : (k j : ℕ) → Contains (row_of rows k) j → j < length ns
  pub right : (k j : ℕ) → Contains (row_of rows k) j → note_path nodes (news_at ns j) ≡ get_or nodes k []
  pub whole : (k j : ℕ) → k < length nodes → j < length ns → note_path nodes (news_at ns j) ≡ get_or nodes k [] → Contains (row_of rows k) j

abbrev pub again : Spot → NodeNews → NodeNews
again s m = record { spot = s; round = m.round; atoms = m.atoms }

abbrev pub all_again : List NodeNews → Spot → List ℕ → List NodeNews
all_again known s places = map (λ p. again s (news_at known p)) places

-- the note n is the p-th known note, at the spot of the i-th node
pub record IsAgain (nodes : List (List ℕ)) (known : List NodeNews) (i p : ℕ) (n : NodeNews) : Type 0 where
  pub stands : IsSpotOf nodes (get_or nodes i []) n.spot
  pub same : n ≡ again n.spot (news_at known p)

-- the notes ns of the nodes in `These` are those that are known of their sources
pub record AreAgain (nodes : List (List ℕ)) (numbers : List ℕ) (known : List NodeNews) (rows : List (List ℕ)) (These : ℕ → Type 0) (ns : List NodeNews) : Type 0 where
  pub right : (n : NodeNews) → Contains ns n → (i : ℕ) × (p : ℕ) × These i × Contains (row_of rows (get_or numbers i 0)) p × IsAgain nodes known i p n
  pub whole : (i p : ℕ) → These i → Contains (row_of rows (get_or numbers i 0)) p → (n : NodeNews) × Contains ns n × IsAgain nodes known i p n

pub record AreMoved (numbers : List ℕ) (l l' : Labelled) (fs : List PageFirst) : Type 0 where
  pub right : (f : PageFirst) → Contains fs f → (i : ℕ) × (i < length l'.nodes) × IsMoved numbers l l' i f
  pub whole : (i : ℕ) (g : PageFirst) → i < length l'.nodes → Contains l.firsts g → g.at ≡ from_at l numbers i → Contains fs (moved g (node_of l' i))

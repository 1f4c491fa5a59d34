-- Gains: atoms that nodes get in a round, and the first rounds that follow.
--     label_in u v             the label of u at v
--     firsts_at at own label round   firsts of this round: the atoms of the label that are not in `own`
--     new_of own label         the atoms of the label that are not in `own`
--     IsLonger own new         new is `own` with some atoms added
--     Gain                     the path of a node, and the atoms that it gains
--     gains_at nodes gs        the gains gs, with paths in place of node numbers
--     with_gains u gs          the tree u after the gains gs, one by one
--     IsGrown u w              w is the tree u after some gains
--     news u gs round          the firsts that the gains gs add
--     starts t nodes           the firsts of these nodes before any round
--     paths_at nodes ns        the paths of the nodes with these numbers
--     AreStarts t nodes fs     the firsts fs are those of these nodes before any round, in some order of the nodes
use Rattle.std.specs.Prelude.{◌≡◌, ℕ, List, [], ◌∷◌, ◌++◌, map, not, unwrap_or, get_or, Contains}
use Rattle.std.specs.List.{filter}
use Rattle.tp_base.specs.Classes.{has_class, union_of}
use Rattle.tree_sem.specs.Trees.{LabelTree, label_at, edit_at}
use Rattle.tree_sem.specs.Actions.{add_classes}
use Rattle.closed_page.specs.declared.gains.NodeGain.{NodeGain}
use Rattle.closed_page.specs.Views.{PageFirst}

abbrev pub label_in : LabelTree → List ℕ → List ℕ
label_in u v = unwrap_or (label_at v u) []

abbrev pub firsts_at : List ℕ → List ℕ → List ℕ → ℕ → List PageFirst
firsts_at at own label round = map (λ a. record { at = at; atom = a; round = round }) (filter (λ a. not (has_class a own)) label)

abbrev pub new_of : List ℕ → List ℕ → List ℕ
new_of own label = filter (λ a. not (has_class a own)) label

abbrev pub IsLonger : List ℕ → List ℕ → Type 0
IsLonger own new = (more : List ℕ) × (new ≡ union_of own more)

pub record Gain : Type 0 where
  pub at : List ℕ
  pub label : List ℕ

abbrev pub gain_at : List (List ℕ) → NodeGain → Gain
gain_at nodes g = record { at = get_or nodes g.number []; label = g.label }

abbrev pub gains_at : List (List ℕ) → List NodeGain → List Gain
gains_at nodes gs = map (gain_at nodes) gs

abbrev pub with_gain : LabelTree → Gain → LabelTree
with_gain u g = edit_at g.at (add_classes g.label) u

abbrev pub with_gains : LabelTree → List Gain → LabelTree
with_gains u [] = u
with_gains u (g ∷ gains) = with_gains (with_gain u g) gains

abbrev pub IsGrown : LabelTree → LabelTree → Type 0
IsGrown u w = (gains : List Gain) × (w ≡ with_gains u gains)

abbrev pub news : LabelTree → List Gain → ℕ → List PageFirst
news u [] round = []
news u (g ∷ gains) round = firsts_at g.at (label_in u g.at) g.label round ++ news (with_gain u g) gains round

abbrev pub starts : LabelTree → List (List ℕ) → List PageFirst
starts t [] = []
starts t (v ∷ vs) = firsts_at v [] (label_in t v) 0 ++ starts t vs

abbrev pub paths_at : List (List ℕ) → List ℕ → List (List ℕ)
paths_at nodes ns = map (λ c. get_or nodes c []) ns

pub record AreStarts (t : LabelTree) (nodes : List (List ℕ)) (firsts : List PageFirst) : Type 0 where
  pub order : List (List ℕ)
  pub are : firsts ≡ starts t order
  pub only : (v : List ℕ) → Contains order v → Contains nodes v
  pub whole : (v : List ℕ) → Contains nodes v → Contains order v

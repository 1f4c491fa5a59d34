-- The table behind a `Tree`: a slot for each node, and free slots.
use Rattle.std.specs.Prelude.{◌≡◌, ◌≢◌, ◌⊎◌, ℕ, ◌+◌, ◌≤◌, List, [], ◌∷◌, ◌++◌, length, Option, Some, None, option_map, option_and_then, unwrap_or, slice_get}
use Rattle.std.specs.List.{sum_by}
use Rattle.std.specs.List.Sorted.{IsStrictlyIncreasing}
use Rattle.slab.specs.Slab.{Slab, get, ContainsKey, slab_len}
use Rattle.tree_sem.specs.declared.slots.Slot.{Slot}
use Rattle.tree_sem.specs.declared.tree_fault.TheConstants.{MOST_NODES}
use Rattle.tp_base.specs.Classes.{union_of}
use Rattle.tree_sem.specs.Trees.{LabelTree, label_at, count_of}
use Rattle.tree_sem.specs.Arena.{tree_to, place_from, path_up, IsArena}

-- the label of the node i, the numbers of its children, and its parent's
abbrev pub label_in : Slab Slot → ℕ → List ℕ
label_in slots i = unwrap_or (option_map (λ s. s.label) (get slots i)) []

abbrev pub kids_in : Slab Slot → ℕ → List ℕ
kids_in slots i = unwrap_or (option_map (λ s. s.children.items) (get slots i)) []

abbrev pub parent_in : Slab Slot → ℕ → Option ℕ
parent_in slots i = option_and_then (λ s. s.parent) (get slots i)

-- no node is so deep
unfoldable pub most_levels : ℕ
most_levels = MOST_NODES

-- the tree of the node i
abbrev pub tree_in : Slab Slot → ℕ → LabelTree
tree_in slots i = tree_to (label_in slots) (kids_in slots) most_levels i

-- its path
abbrev pub path_in : Slab Slot → ℕ → List ℕ
path_in slots i = path_up (kids_in slots) (parent_in slots) most_levels i

-- the label of the node at a path, with these classes too
abbrev pub united : Slab Slot → List ℕ → List ℕ → List ℕ
united slots classes p = union_of (unwrap_or (label_at p (tree_in slots 0)) []) classes

-- what holds of the nodes and of slots that are on the way to become or no longer are such
pub record IsForest (slots : Slab Slot) : Type 0 where
  pub arena : IsArena most_levels (kids_in slots) (parent_in slots)
  pub root : ContainsKey slots 0
  pub rising : (i : ℕ) → IsStrictlyIncreasing (label_in slots i)

-- what is true of each table: no node is out of reach
pub record IsTable (slots : Slab Slot) : Type 0 where
  pub forest : IsForest slots
  pub counted : count_of (tree_in slots 0) ≡ slab_len slots
  pub in_limit : slab_len slots ≤ MOST_NODES

-- the place of a node of the root's tree
pub record IsPlace (slots : Slab Slot) (place : ℕ) : Type 0 where
  pub table : IsTable slots
  pub leads : place_from (kids_in slots) 0 (path_in slots place) ≡ Some place

-- the same, but that the node at the place has this label, these children and this parent
pub record IsChanged (old new : Slab Slot) (place : ℕ) (l cs : List ℕ) (above : Option ℕ) : Type 0 where
  pub count : slab_len new ≡ slab_len old
  pub here : ContainsKey new place
  pub label : label_in new place ≡ l
  pub children : kids_in new place ≡ cs
  pub parent : parent_in new place ≡ above
  pub others : (i : ℕ) → i ≢ place → get new i ≡ get old i

-- the same, with one node more, which has the label and is the last child of the node at the place
pub record IsGrown (old new : Slab Slot) (place child : ℕ) (l : List ℕ) : Type 0 where
  pub count : slab_len new ≡ slab_len old + 1
  pub fresh : get old child ≡ None
  pub new_label : label_in new child ≡ l
  pub new_children : kids_in new child ≡ []
  pub new_parent : parent_in new child ≡ Some place
  pub here : ContainsKey new place
  pub label : label_in new place ≡ label_in old place
  pub children : kids_in new place ≡ kids_in old place ++ child ∷ []
  pub parent : parent_in new place ≡ parent_in old place
  pub others : (i : ℕ) → i ≢ child → i ≢ place → get new i ≡ get old i

-- the same, without the node at the place
pub record IsRemoved (old new : Slab Slot) (place : ℕ) : Type 0 where
  pub count : slab_len new + 1 ≡ slab_len old
  pub gone : get new place ≡ None
  pub others : (i : ℕ) → i ≢ place → get new i ≡ get old i

-- a node that is no one's child, and not the root
pub record IsLoose (slots : Slab Slot) (top : ℕ) : Type 0 where
  pub here : ContainsKey slots top
  pub orphan : (i k : ℕ) → slice_get (kids_in slots i) k ≡ Some top → ⊥
  pub no_parent : parent_in slots top ≡ None
  pub not_root : top ≢ 0

-- the last child is taken from the node at the place, which is gone where it has none; what is next is the child or the parent
abbrev pub IsFreed : Slab Slot → Slab Slot → ℕ → Option ℕ → Type 0
IsFreed old new place next =
    ((cs : List ℕ) × (c : ℕ) × (kids_in old place ≡ cs ++ c ∷ []) × IsChanged old new place (label_in old place) cs (parent_in old place) × (next ≡ Some c))
    ⊎ ((kids_in old place ≡ []) × IsRemoved old new place × (next ≡ parent_in old place))

-- how many slots and children there are
abbrev pub weight_of : Option Slot → ℕ
weight_of None = 0
weight_of (Some s) = 1 + length s.children.items

abbrev pub weight : Slab Slot → ℕ
weight slots = sum_by weight_of slots.slots

-- what a path leads to, it leads to still
abbrev pub Stays : Slab Slot → Slab Slot → Type 0
Stays old new = (p : List ℕ) (i : ℕ) → place_from (kids_in old) 0 p ≡ Some i → place_from (kids_in new) 0 p ≡ Some i

abbrev pub both_of : Option ℕ → Option ℕ → Option (ℕ × ℕ)
both_of None b = None
both_of (Some a) None = None
both_of (Some a) (Some b) = Some (a, b)

-- the node `to` has got its next child from those of `from`, and these two are next; or it has all, and their parents are
abbrev pub IsCopied : Slab Slot → Slab Slot → Slab Slot → ℕ → ℕ → Option (ℕ × ℕ) → Type 0
IsCopied old new source to from next =
    ((c : ℕ) × (d : ℕ) × (slice_get (kids_in source from) (length (kids_in old to)) ≡ Some c) × IsGrown old new to d (label_in source c) × IsStrictlyIncreasing (label_in source c) × (next ≡ Some (d, c)))
    ⊎ ((length (kids_in source from) ≤ length (kids_in old to)) × (new ≡ old) × (next ≡ both_of (parent_in old to) (parent_in source from)))

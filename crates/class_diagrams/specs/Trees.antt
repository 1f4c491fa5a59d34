-- Decision trees over class sets.
use Rattle.std.specs.Prelude.{◌≡◌, ◌≢◌, ℕ, ◌<◌, Bool, true, false, not, ◌&&◌, ◌==◌, nat_lt, if◌then◌else◌, List, [], ◌∷◌, ◌++◌, fold, ◌⊎◌}
use Rattle.std.specs.List.{list_any}
use Rattle.std.specs.List.Sorted.{IsStrictlyIncreasing}
use Rattle.tp_base.specs.Classes.{has_class}

-- a leaf is true or false for every set; a branch looks at one atom
pub data Tree : Type 0 where
  leaf : (value : Bool) → Tree
  branch : (atom : ℕ) (low high : Tree) → Tree

-- whether a set satisfies the tree: a branch goes high where the set has its atom, else low
abbrev pub eval : Tree → List ℕ → Bool
eval (leaf value) set = value
eval (branch atom low high) set = if has_class atom set then eval high set else eval low set

-- what satisfies the first tree satisfies the second
abbrev pub Implies : Tree → Tree → Type 0
Implies t u = (set : List ℕ) → eval t set ≡ true → eval u set ≡ true

-- every set satisfies both trees or neither
abbrev pub AgreeOnAllSets : Tree → Tree → Type 0
AgreeOnAllSets t u = (set : List ℕ) → IsStrictlyIncreasing set → eval t set ≡ eval u set

abbrev pub IsLeaf : Tree → Type 0
IsLeaf (leaf value) = Unit {0}
IsLeaf (branch atom low high) = ⊥

-- the tree is a leaf, or its first atom is above the number
abbrev pub StartsAbove : ℕ → Tree → Type 0
StartsAbove a (leaf value) = Unit {0}
StartsAbove a (branch atom low high) = a < atom

-- atoms increase downwards, low and high differ, and what satisfies low satisfies high
abbrev pub IsOrdered : Tree → Type 0
IsOrdered (leaf value) = Unit {0}
IsOrdered (branch atom low high) =
    StartsAbove atom low × StartsAbove atom high × (low ≢ high) × Implies low high × IsOrdered low × IsOrdered high

-- whether two trees are the same
abbrev pub same_tree : Tree → Tree → Bool
same_tree (leaf v) (leaf w) = if v then w else not w
same_tree (branch a l h) (branch b m k) = (a == b) && same_tree l m && same_tree h k
same_tree (leaf v) (branch b m k) = false
same_tree (branch a l h) (leaf w) = false

-- the branch with these two trees, or the one tree where they are the same
abbrev pub join : ℕ → Tree → Tree → Tree
join atom low high = if same_tree low high then low else branch atom low high

module _ (leaf_rule : Bool → Tree → Tree) where
  -- a branch with each other tree, by what its low and its high tree give with each
  abbrev pub combine_branch : ℕ → Tree → Tree → (Tree → Tree) → (Tree → Tree) → Tree → Tree
  combine_branch a l h with_low with_high (leaf v) = leaf_rule v (branch a l h)
  combine_branch a l h with_low with_high (branch b m k) =
      if nat_lt a b then join a (with_low (branch b m k)) (with_high (branch b m k))
      else if nat_lt b a then join b (combine_branch a l h with_low with_high m) (combine_branch a l h with_low with_high k)
      else join a (with_low m) (with_high k)

  -- two trees, the smaller atom first: low with low, high with high, and a leaf with a tree by its rule
  abbrev pub combine : Tree → Tree → Tree
  combine (leaf v) u = leaf_rule v u
  combine (branch a l h) u = combine_branch a l h (combine l) (combine h) u

-- true leaves the other tree, false takes its place
abbrev pub and_leaf : Bool → Tree → Tree
and_leaf true t = t
and_leaf false t = leaf false

-- false leaves the other tree, true takes its place
abbrev pub or_leaf : Bool → Tree → Tree
or_leaf true t = leaf true
or_leaf false t = t

-- the tree of the sets that satisfy both
unfoldable pub tand : Tree → Tree → Tree
tand t u = combine and_leaf t u

-- the tree of the sets that satisfy one or both
unfoldable pub tor : Tree → Tree → Tree
tor t u = combine or_leaf t u

-- the tree of the sets that have the atom
abbrev pub variable : ℕ → Tree
variable atom = branch atom (leaf false) (leaf true)

-- whether the tree is one of these
abbrev pub has_tree : Tree → List Tree → Bool
has_tree t ts = list_any (same_tree t) ts

-- the trees, and the tree last unless it is there
abbrev pub with_tree : Tree → List Tree → List Tree
with_tree t ts = if has_tree t ts then ts else ts ++ t ∷ []

-- the trees, and behind them the branches of the tree that are not among them, each behind its parts
abbrev pub with_branches : List Tree → Tree → List Tree
with_branches ts (leaf value) = ts
with_branches ts (branch atom low high) = with_tree (branch atom low high) (with_branches (with_branches ts low) high)

-- the different branches of the trees
abbrev pub subs : List Tree → List Tree
subs trees = fold with_branches [] trees

-- the first tree is a branch of the second, or the second itself
abbrev pub IsBranchOf : Tree → Tree → Type 0
IsBranchOf t (leaf value) = ⊥
IsBranchOf t (branch atom low high) = (t ≡ branch atom low high) ⊎ (IsBranchOf t low ⊎ IsBranchOf t high)

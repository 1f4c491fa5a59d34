-- Arenas and their references, and what an answer does to an arena.
use Rattle.std.proofs.Common.{◌≡◌, ℕ, ◌<◌, ◌≤◌, Bool, true, false, List, [], ◌∷◌, ◌++◌, length, get_or, Result, Ok, Err, IsErrAnd, IsTrue, ◌↔◌, All, refl, sym, ap, subst, ◌∙◌, arith, length-append}
use Rattle.std.proofs.lemmas.Bool.{both_ways, false_from_ne_true}
use Rattle.std.proofs.lemmas.List.{get_or_append_left}
use Rattle.std.proofs.lemmas.List.Folds.{list_any_at}
use Rattle.class_diagrams.specs.declared.refs.Target.{Target}
use Rattle.class_diagrams.specs.declared.refs.Target.TheVariants.{Leaf, Branch}
use Rattle.class_diagrams.specs.declared.faults.DiagramFault.{DiagramFault}
use Rattle.class_diagrams.specs.declared.faults.DiagramFault.TheVariants.{Full, Memory}
use Rattle.class_diagrams.specs.Trees.{Tree, leaf, branch, eval, same_tree, has_tree, with_tree, with_branches, join, IsLeaf, IsOrdered, AgreeOnAllSets}
use Rattle.class_diagrams.specs.Arena.{StartsWith, Holds, IsClosed, tree_at, IsIn, AreSame, Arena, IsArena}
use Rattle.class_diagrams.specs.Answers.{Gives}
use Rattle.class_diagrams.proofs.TreeLemmas.{same_tree-refl, join-same, join-other, same_where_agree, agree_where_same}
use Rattle.class_diagrams.proofs.BranchLemmas.{StartsWith-itself, StartsWith-with_branches, with_tree-new, with_branches-held}

-- ### references

-- a reference keeps its tree
pub tree_at-further : (ts us : List Tree) (p : Target) → StartsWith ts us → IsIn ts p → tree_at us p ≡ tree_at ts p
tree_at-further ts us (Leaf v) first within = refl
tree_at-further ts us (Branch k) first within = rw first.1 (get_or_append_left ts first.0 (leaf false) k within)

pub IsIn-further : (ts us : List Tree) (p : Target) → StartsWith ts us → IsIn ts p → IsIn us p
IsIn-further ts us (Leaf v) first within = tt
IsIn-further ts us (Branch k) first within = rw first.1 (omega (arith, length-append ts first.0))

pub has_tree-at : (t : Tree) (ts : List Tree) (k : ℕ) (d : Tree) → k < length ts → get_or ts k d ≡ t → has_tree t ts ≡ true
has_tree-at t ts k d within at = list_any_at (same_tree t) ts k d within (subst (λ u. same_tree t u ≡ true) (sym at) (same_tree-refl t))

holds_at : (ts : List Tree) (k : ℕ) → k < length ts → (t : Tree) → get_or ts k (leaf false) ≡ t → Holds ts t
holds_at ts k within (leaf v) at = tt
holds_at ts k within (branch a l h) at = has_tree-at (branch a l h) ts k (leaf false) within at

-- the tree of a reference is held
pub Holds-tree_at : (ts : List Tree) (p : Target) → IsIn ts p → Holds ts (tree_at ts p)
Holds-tree_at ts (Leaf v) within = tt
Holds-tree_at ts (Branch k) within = holds_at ts k within (get_or ts k (leaf false)) refl

-- and meets the condition
pub IsOrdered-tree_at : (ts : List Tree) (p : Target) → All IsOrdered ts → IsIn ts p → IsOrdered (tree_at ts p)
IsOrdered-tree_at ts (Leaf v) ordered within = tt
IsOrdered-tree_at ts (Branch k) ordered within = ordered k (leaf false) within

-- a branch is no leaf
no_leaf : (ts : List Tree) (k : ℕ) → AreSame ts → k < length ts → (t : Tree) → get_or ts k (leaf false) ≡ t → IsLeaf t → ⊥
no_leaf ts k same within (leaf v) at is_leaf = let equal : Branch k ≡ Leaf v = same (Branch k) (Leaf v) within tt at in cc
no_leaf ts k same within (branch a l h) at is_leaf = is_leaf

pub branch_is_no_leaf : (ts : List Tree) (k : ℕ) → AreSame ts → k < length ts → IsLeaf (tree_at ts (Branch k)) → ⊥
branch_is_no_leaf ts k same within is_leaf = no_leaf ts k same within (get_or ts k (leaf false)) refl is_leaf

pub no_leaf_there : (ts : List Tree) (p : Target) (k : ℕ) → AreSame ts → Branch k ≡ p → IsIn ts p → (true ≡ false → IsLeaf (tree_at ts p)) × (IsLeaf (tree_at ts p) → true ≡ false)
no_leaf_there ts p k same at within = (
  λ no. absurd (both_ways true no refl),
  λ is_leaf. absurd (branch_is_no_leaf ts k same (subst (IsIn ts) (sym at) within) (subst (λ q. IsLeaf (tree_at ts q)) (sym at) is_leaf)),
)

-- ### answers

-- want of memory, behind a `?`
pub gives_error : (a b : Arena) (t : Tree) (r : Result Target DiagramFault) → IsErrAnd r (λ e. e ≡ Memory) → Gives a b t (Err Memory) → Gives a b t r
gives_error a b t (Ok p) memory gives = absurd memory
gives_error a b t (Err e) memory gives = subst (λ x. Gives a b t (Err x)) (sym memory) gives

pub with_branches-parts : (ts : List Tree) (a : ℕ) (l h : Tree) → IsClosed ts → Holds ts l → Holds ts h → with_branches ts (branch a l h) ≡ with_tree (branch a l h) ts
with_branches-parts ts a l h closed low high = rw (with_branches-held ts l closed low, with_branches-held ts h closed high) refl

-- a reference of the arena
pub gives_held : (a : Arena) (p : Target) → IsArena a → IsIn a.branches p → Gives a a (tree_at a.branches p) (Ok p)
gives_held a p arena within =
    let same : with_branches a.branches (tree_at a.branches p) ≡ a.branches = with_branches-held a.branches (tree_at a.branches p) arena.closed (Holds-tree_at a.branches p within) in
    record {
      answer = (within, refl, sym same);
      stays = StartsWith-itself a.branches;
      only = rw same (StartsWith-itself a.branches);
      limit = refl;
      arena = arena;
    }

pub gives_no_memory : (a : Arena) (t : Tree) → IsArena a → Gives a a t (Err Memory)
gives_no_memory a t arena = record {
  answer = tt;
  stays = StartsWith-itself a.branches;
  only = StartsWith-with_branches a.branches t;
  limit = refl;
  arena = arena;
}

-- a new branch in a full arena
pub gives_full : (a : Arena) (n : ℕ) (l h : Tree) → IsArena a → Holds a.branches l → Holds a.branches h → has_tree (branch n l h) a.branches ≡ false
    → a.limit ≤ length a.branches → Gives a a (branch n l h) (Err Full)
gives_full a n l h arena low high new past =
    let more : with_branches a.branches (branch n l h) ≡ a.branches ++ branch n l h ∷ [] =
    with_branches-parts a.branches n l h arena.closed low high ∙ with_tree-new (branch n l h) a.branches new in
    record {
      answer = rw more (omega (arith, length-append a.branches (branch n l h ∷ [])));
      stays = StartsWith-itself a.branches;
      only = StartsWith-with_branches a.branches (branch n l h);
      limit = refl;
      arena = arena;
    }

-- ### a joined branch

pub joined_ordered : (a : Arena) (n : ℕ) (p q : Target) → IsArena a → IsIn a.branches p → IsIn a.branches q → (p ≡ q → ⊥)
    → IsOrdered (join n (tree_at a.branches p) (tree_at a.branches q)) → IsOrdered (branch n (tree_at a.branches p) (tree_at a.branches q))
joined_ordered a n p q arena p_in q_in apart ordered =
    subst IsOrdered (join-other n (tree_at a.branches p) (tree_at a.branches q) (λ same. apart (arena.same p q p_in q_in same))) ordered

pub gives_joined : (a : Arena) (b : Arena) (n : ℕ) (p q : Target) (r : Result Target DiagramFault) → IsArena a → IsIn a.branches p → IsIn a.branches q → (p ≡ q → ⊥)
    → Gives a b (branch n (tree_at a.branches p) (tree_at a.branches q)) r → Gives a b (join n (tree_at a.branches p) (tree_at a.branches q)) r
gives_joined a b n p q r arena p_in q_in apart gives =
    subst (λ t. Gives a b t r) (sym (join-other n (tree_at a.branches p) (tree_at a.branches q) (λ same. apart (arena.same p q p_in q_in same)))) gives

pub gives_one : (a : Arena) (n : ℕ) (p q : Target) → IsArena a → IsIn a.branches p → p ≡ q → Gives a a (join n (tree_at a.branches p) (tree_at a.branches q)) (Ok p)
gives_one a n p q arena p_in same =
    subst (λ t. Gives a a t (Ok p)) (sym (join-same n (tree_at a.branches p) (tree_at a.branches q) (ap (tree_at a.branches) same))) (gives_held a p arena p_in)

-- ### references that agree

pub same_trees : (a : Arena) (p q : Target) (b : Bool) → IsArena a → IsIn a.branches p → IsIn a.branches q → IsTrue b ↔ (p ≡ q)
    → IsTrue b ↔ (tree_at a.branches p ≡ tree_at a.branches q)
same_trees a p q b arena p_in q_in is = (λ yes. ap (tree_at a.branches) (is.0 yes), λ trees. is.1 (arena.same p q p_in q_in trees))

pub same_meaning : (a : Arena) (p q : Target) (b : Bool) → IsArena a → IsIn a.branches p → IsIn a.branches q → IsTrue b ↔ (tree_at a.branches p ≡ tree_at a.branches q)
    → IsTrue b ↔ AgreeOnAllSets (tree_at a.branches p) (tree_at a.branches q)
same_meaning a p q b arena p_in q_in is = (
  λ yes. agree_where_same (tree_at a.branches p) (tree_at a.branches q) (is.0 yes),
  λ agree. is.1 (same_where_agree (tree_at a.branches p) (tree_at a.branches q)
      (IsOrdered-tree_at a.branches p arena.ordered p_in) (IsOrdered-tree_at a.branches q arena.ordered q_in) agree),
)

-- whether a leaf is the true one
leaf_is : (ts : List Tree) (p r : Target) (b : Bool) (set : List ℕ) → AreSame ts → IsIn ts p → IsIn ts r → tree_at ts r ≡ leaf true → IsTrue b ↔ (p ≡ r)
    → (t : Tree) → tree_at ts p ≡ t → IsLeaf t → b ≡ eval t set
leaf_is ts p r b set same p_in r_in true_leaf is (leaf true) at is_leaf = is.1 (same p r p_in r_in (at ∙ sym true_leaf))
leaf_is ts p r b set same p_in r_in true_leaf is (leaf false) at is_leaf =
    false_from_ne_true b (λ yes. let values : leaf false ≡ leaf true = sym at ∙ ap (tree_at ts) (is.0 yes) ∙ true_leaf in cc)
leaf_is ts p r b set same p_in r_in true_leaf is (branch a l h) at is_leaf = absurd is_leaf

pub leaf_value : (ts : List Tree) (p r : Target) (b : Bool) (set : List ℕ) → AreSame ts → IsIn ts p → IsIn ts r → tree_at ts r ≡ leaf true → IsTrue b ↔ (p ≡ r)
    → IsLeaf (tree_at ts p) → b ≡ eval (tree_at ts p) set
leaf_value ts p r b set same p_in r_in true_leaf is is_leaf = leaf_is ts p r b set same p_in r_in true_leaf is (tree_at ts p) refl is_leaf

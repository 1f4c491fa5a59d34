-- The branches of a diagram, and a walk that finds them.
use Rattle.std.specs.Prelude.{◌≡◌, ℕ, ◌<◌, ◌≤◌, List, [], length, fold, Contains, slice_get, Some}
use Rattle.std.specs.List.{IsDistinct}
use Rattle.indexmap.specs.IndexSet.{insert_key}
use Rattle.tp_base.specs.Classes.{with_class}
use Rattle.class_diagrams.specs.References.{Reference}
use Rattle.class_diagrams.specs.Trees.{Tree, leaf, branch, IsBranchOf}
use Rattle.class_diagrams.specs.Arena.{tree_at, IsIn}
use Rattle.class_diagrams.proofs.ReferenceLemmas.{ref_eq}

-- a diagram goes behind those that were seen, unless its tree is a leaf or it is there
abbrev pub with_branch_of : Tree → List Reference → Reference → List Reference
with_branch_of (leaf value) seen f = seen
with_branch_of (branch atom low high) seen f = insert_key ref_eq seen f

abbrev pub with_branch : List Tree → List Reference → Reference → List Reference
with_branch branches seen f = with_branch_of (tree_at branches f) seen f

-- one of the diagrams has the tree
abbrev pub HasTree : List Tree → List Reference → Tree → Type 0
HasTree branches seen t = (p : Reference) × Contains seen p × (tree_at branches p ≡ t)

-- the tree is a leaf, or one of the diagrams has it
abbrev pub IsSeen : List Tree → List Reference → Tree → Type 0
IsSeen branches seen (leaf value) = Unit {0}
IsSeen branches seen (branch atom low high) = HasTree branches seen (branch atom low high)

-- both parts of a branch are seen
abbrev pub HasParts : List Tree → List Reference → Tree → Type 0
HasParts branches seen (leaf value) = Unit {0}
HasParts branches seen (branch atom low high) = IsSeen branches seen low × IsSeen branches seen high

-- a diagram of a branch of f's tree
abbrev pub IsBranchIn : List Tree → Reference → Reference → Type 0
IsBranchIn branches f p = IsIn branches p × IsBranchOf (tree_at branches p) (tree_at branches f)

-- each different branch of f's tree, by its diagram
pub record AreBranches (branches : List Tree) (f : Reference) (seen : List Reference) : Type 0 where
  pub different : IsDistinct ref_eq seen
  pub each : (p : Reference) → Contains seen p → IsBranchIn branches f p
  pub whole : (t : Tree) → IsBranchOf t (tree_at branches f) → HasTree branches seen t

-- different branches of f's tree, and its own; the parts of the first n are seen too
pub record IsWalk (branches : List Tree) (f : Reference) (seen : List Reference) (n : ℕ) : Type 0 where
  pub few : n ≤ length seen
  pub different : IsDistinct ref_eq seen
  pub each : (p : Reference) → Contains seen p → IsBranchIn branches f p
  pub first : IsSeen branches seen (tree_at branches f)
  pub closed : (i : ℕ) (p : Reference) → i < n → slice_get seen i ≡ Some p → HasParts branches seen (tree_at branches p)

-- the set with the atom at which a tree branches
abbrev pub with_root : Tree → List ℕ → List ℕ
with_root (leaf value) atoms = atoms
with_root (branch atom low high) atoms = with_class atom atoms

-- the atoms at which the trees of some diagrams branch
abbrev pub roots_of : List Tree → List Reference → List ℕ
roots_of branches seen = fold (λ atoms p. with_root (tree_at branches p) atoms) [] seen

-- Meanings for the atoms, rules and kinds of a system, in trees and in the statements that change them.
--     end_by, AreLegalBy the tree after some steps, and whether each is legal in the tree before it
--     IsReading          the rules of the system are sound for the meaning of its atoms
--     IsWitness          a proof unfolds to legal steps and a node, and at their end the target is true of the node
use Rattle.std.specs.Prelude.{◌≡◌, ℕ, true, false, if◌then◌else◌, List, [], ◌∷◌, ◌++◌, length, Contains, Some, None, IsSome, slice_get}
use Rattle.tree_sem.specs.declared.actions.Step.{Step}
use Rattle.tree_sem.specs.Nodes.{HasAtom}
use Rattle.tree_sem.specs.Series as series
use Rattle.tree_sem.specs.Trees.{LabelTree, tree_of, length_of, node_at, edit_at}
use Rattle.tree_sem.specs.Growth.{Grows}
use Rattle.tree_sem.specs.Actions.{add_classes, add_trees}
use Rattle.simple_core.specs.declared.rules.Kind.{Kind}
use Rattle.simple_core.specs.declared.rules.Link.{Link}
use Rattle.simple_core.specs.declared.rules.Local as rule
use Rattle.simple_core.specs.declared.rules.Spawn.{Spawn}
use Rattle.simple_core.specs.declared.system.System.{System}
use Rattle.simple_core.specs.Systems.{kind_label}
use Rattle.proof_check.specs.declared.proofs.Proof.{Proof}
use Rattle.proof_check.specs.Unfolding.{forest_children, unfolded}

-- as in `Series`, for steps alone
abbrev pub end_by : (LabelTree → Step → LabelTree) → LabelTree → List Step → LabelTree
end_by after t steps = series.end_by (λ t (none : Unit {0}) step. after t step) t tt steps

abbrev pub AreLegalBy : (LabelTree → Step → Type 0) → (LabelTree → Step → LabelTree) → LabelTree → List Step → Type 0
AreLegalBy Legal after t steps = series.AreLegalBy (λ t (none : Unit {0}) step. Legal t step) (λ t (none : Unit {0}) step. after t step) t tt steps

abbrev pub step_at : ℕ → List ℕ → Step
step_at s v = record { stmt = s; at = v }

-- A meaning for a system. It has the subtree of each kind in its forest, and the legal steps with the trees that they lead to. It says
-- of which nodes an atom, and the target, are true.
pub record Reading : Type 1 where
  pub system : System
  pub kind_tree : ℕ → LabelTree
  pub Legal : LabelTree → Step → Type 0
  pub after : LabelTree → Step → LabelTree
  pub Means : LabelTree → List ℕ → ℕ → Type 0
  pub target : ℕ
  pub Goal : LabelTree → List ℕ → Type 0

abbrev pub read_by : System → (ℕ → LabelTree) → (LabelTree → Step → Type 0) → (LabelTree → Step → LabelTree) → (LabelTree → List ℕ → ℕ → Type 0) → ℕ
    → (LabelTree → List ℕ → Type 0) → Reading
read_by system kind_tree legal after means target found = record {
  system = system;
  kind_tree = kind_tree;
  Legal = legal;
  after = after;
  Means = means;
  target = target;
  Goal = found;
}

pub record IsReading (r : Reading) (page : LabelTree) : Type 0 where
  -- the truth of an atom at a node is kept when the tree grows
  pub means_kept : (t u : LabelTree) → Grows t u → (v : List ℕ) (a : ℕ) → r.Means t v a → r.Means u v a
  pub goal_kept : (t u : LabelTree) → Grows t u → (v : List ℕ) → r.Goal t v → r.Goal u v
  -- the atoms of a label are true at its node, on the page and in a forest
  pub page_label : (v : List ℕ) (a : ℕ) → HasAtom page v a → r.Means page v a
  pub kind_labels : (j : ℕ) (t x : LabelTree) (v : List ℕ) → node_at v t ≡ Some x → ((a : ℕ) → Contains (r.kind_tree j).label a → Contains x.label a)
      → (a : ℕ) → Contains (kind_label r.system j) a → r.Means t v a
  -- each rule is sound
  pub local : (rule : rule.Local) → Contains r.system.local rule → rule.stmt ≡ None → (t : LabelTree) (v : List ℕ) → IsSome (node_at v t)
      → ((a : ℕ) → Contains rule.needs a → r.Means t v a) → r.Means t v rule.gives
  pub act : (rule : rule.Local) → Contains r.system.local rule → (s : ℕ) → rule.stmt ≡ Some s → (t : LabelTree) (v : List ℕ) → IsSome (node_at v t)
      → ((a : ℕ) → Contains rule.needs a → r.Means t v a)
      → r.Legal t (step_at s v) × ((classes : List ℕ) × (r.after t (step_at s v) ≡ edit_at v (add_classes classes) t)) × r.Means (r.after t (step_at s v)) v rule.gives
  pub up : (link : Link) → Contains r.system.up link → (t : LabelTree) (p : List ℕ) (k : ℕ) → IsSome (node_at (p ++ k ∷ []) t) → r.Means t p link.from → r.Means t (p ++ k ∷ []) link.to
  pub down : (link : Link) → Contains r.system.down link → (t : LabelTree) (v : List ℕ) (k : ℕ) → IsSome (node_at v t) → r.Means t (v ++ k ∷ []) link.from → r.Means t v link.to
  -- a statement that brings a forest is legal where its spawn rule's atom is true, and adds the forest there
  pub inside : (c : Spawn) (kind : Kind) → Contains r.system.child c → slice_get r.system.kinds c.kind ≡ Some kind → kind.above ≡ None → kind.beside ≡ false
      → (t : LabelTree) (v : List ℕ) → IsSome (node_at v t) → r.Means t v c.needs → r.Legal t (step_at kind.stmt v)
  pub beside : (c : Spawn) (kind : Kind) → Contains r.system.child c → slice_get r.system.kinds c.kind ≡ Some kind → kind.above ≡ None → kind.beside ≡ true
      → (link : Link) → Contains r.system.down link → link.to ≡ c.needs
      → (t : LabelTree) (v : List ℕ) (k : ℕ) → r.Means t (v ++ k ∷ []) link.from → r.Legal t (step_at kind.stmt (v ++ k ∷ []))
  pub tops : (i : ℕ) (kind : Kind) → slice_get r.system.kinds i ≡ Some kind → kind.above ≡ None
      → (trees : List LabelTree) × (slice_get trees kind.number ≡ Some (r.kind_tree i)) × (length trees ≡ kind.siblings)
      × ((t : LabelTree) (v : List ℕ) (k : ℕ) → r.after t (step_at kind.stmt (if kind.beside then v ++ k ∷ [] else v)) ≡ edit_at v (add_trees trees) t)
  pub inner : (i j : ℕ) (kind : Kind) → slice_get r.system.kinds i ≡ Some kind → kind.above ≡ Some j → tree_of (r.kind_tree j).below kind.number ≡ Some (r.kind_tree i)
  pub children : (j : ℕ) → IsSome (slice_get r.system.kinds j) → length_of (r.kind_tree j).below ≡ forest_children r.system j
  -- the target atom comes from a rule that looks at one node, and then goes up from a child
  pub target_page : (v : List ℕ) → HasAtom page v r.target → ⊥
  pub target_kind : (j : ℕ) → Contains (kind_label r.system j) r.target → ⊥
  pub target_local : (rule : rule.Local) → Contains r.system.local rule → rule.gives ≡ r.target → (t : LabelTree) (v : List ℕ) → ((a : ℕ) → Contains rule.needs a → r.Means t v a) → r.Goal t v
  pub target_up : (link : Link) → Contains r.system.up link → link.to ≡ r.target → ⊥
  pub target_down : (link : Link) → Contains r.system.down link → link.to ≡ r.target → link.from ≡ r.target

-- the steps of the proof are legal from the page, and at their end the target is true of the proof's node
pub record IsWitness (r : Reading) (page : LabelTree) (proof : Proof) : Type 0 where
  pub legal : AreLegalBy r.Legal r.after page (unfolded r.system proof page r.target).0
  pub found : r.Goal (end_by r.after page (unfolded r.system proof page r.target).0) (unfolded r.system proof page r.target).1

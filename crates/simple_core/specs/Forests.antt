-- A condition on a system besides its soundness. With it, proofs of atoms keep to the forests of the script's statements.
use Rattle.std.specs.Prelude.{◌≡◌, ◌≢◌, ℕ, true, List, Contains, Some, None, slice_get}
use Rattle.tree_sem.specs.Trees.{LabelTree}
use Rattle.tree_sem.specs.Nodes.{HasAtom}
use Rattle.simple_core.specs.declared.rules.Kind.{Kind}
use Rattle.simple_core.specs.declared.rules.Link.{Link}
use Rattle.simple_core.specs.declared.rules.Local.{Local}
use Rattle.simple_core.specs.declared.rules.Spawn.{Spawn}
use Rattle.simple_core.specs.declared.system.System.{System}
use Rattle.simple_core.specs.Systems.{kind_label}

abbrev pub NoLocal : System → ℕ → Type 0
NoLocal s a = (r : Local) → Contains s.local r → r.gives ≢ a

abbrev pub NoLink : List Link → ℕ → Type 0
NoLink links a = (l : Link) → Contains links l → l.to ≢ a

-- the atom is in labels of the kind j and comes from nowhere else
abbrev pub IsOwn : System → LabelTree → ℕ → ℕ → Type 0
IsOwn s page a j = NoLocal s a × NoLink s.up a × NoLink s.down a × ((v : List ℕ) → ¬ HasAtom page v a) × ((i : ℕ) → Contains (kind_label s i) a → i ≡ j)

-- the atom is given by a child alone
abbrev pub IsFromBelow : System → LabelTree → ℕ → Type 0
IsFromBelow s page a = NoLocal s a × NoLink s.up a × ((v : List ℕ) → ¬ HasAtom page v a) × ((i : ℕ) → ¬ Contains (kind_label s i) a)

-- A spawn of an inner kind needs the own atom of the kind above it. A spawn of a top kind that goes beside the selected node needs an atom that comes
-- from a child alone.
pub record KeepsForests (s : System) (page : LabelTree) : Type 0 where
  pub inner : (c : Spawn) (kind : Kind) (j : ℕ) → Contains s.child c → slice_get s.kinds c.kind ≡ Some kind → kind.above ≡ Some j → IsOwn s page c.needs j
  pub beside : (c : Spawn) (kind : Kind) → Contains s.child c → slice_get s.kinds c.kind ≡ Some kind → kind.above ≡ None → kind.beside ≡ true → IsFromBelow s page c.needs

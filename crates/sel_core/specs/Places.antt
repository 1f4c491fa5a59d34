-- The places of a selector's groups, from right to left.
--     IsUpTo u v                    u is v, or the path of a node above
--     MatchesNode n s               the selector matches the node
--     IsLeft n parts joins          what is left of a selector matches some node above; without parts it does
--     Leaves from s n parts joins   the last group of a selector fits with its last compound at a node, and leaves this
use Rattle.std.specs.Prelude.{◌≡◌, ℕ, ◌≤◌, List, [], ◌∷◌, length, take}
use Rattle.tree_sem.specs.Paths.{IsAncestor}
use Rattle.tree_sem.specs.TreeNodes.{TreeNode}
use Rattle.sel_text.specs.declared.selectors.Compound.{Compound}
use Rattle.sel_text.specs.declared.selectors.Join.{Join}
use Rattle.sel_core.specs.Selectors.{Matches}
use Rattle.sel_text.specs.Selectors.{Selector}
use Rattle.sel_text.specs.Parts.{selector_from}

abbrev pub IsUpTo : List ℕ → List ℕ → Type 0
IsUpTo u v = (len : ℕ) × (len ≤ length v) × (u ≡ take len v)

abbrev pub MatchesNode : TreeNode → Selector → Type 0
MatchesNode n s = Matches n.tree n.path s

abbrev pub IsLeft : TreeNode → List Compound → List Join → Type 0
IsLeft n [] joins = Unit {0}
IsLeft n (c ∷ parts) joins = (u : List ℕ) × IsAncestor u n.path × Matches n.tree u (selector_from (c ∷ parts) joins)

-- where the rest matches above the node n, the selector matches the node `from`;
-- and wherever the selector matches that node or one above, the rest matches above n
pub record Leaves (from : TreeNode) (s : Selector) (n : TreeNode) (parts : List Compound) (joins : List Join) : Type 0 where
  pub enough : IsLeft n parts joins → MatchesNode from s
  pub needed : (u : List ℕ) → IsUpTo u from.path → Matches from.tree u s → IsLeft n parts joins

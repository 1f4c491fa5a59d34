-- The nearest place that fits a group loses nothing: what matches above some node matches above each one further down.
use Rattle.std.proofs.Common.{◌≡◌, ◌↔◌, ℕ, suc, ◌+◌, ◌<◌, List, [], ◌∷◌, ◌++◌, length, Option, Some, None, option_map, refl, sym, subst, inl, inr, arith}
use Rattle.tree_sem.specs.Paths.{parent_of, IsAncestor}
use Rattle.tree_sem.specs.Trees.{LabelTree}
use Rattle.tree_sem.specs.TreeNodes.{TreeNode, node_of, parent_node}
use Rattle.tree_sem.specs.Nodes.{HasAtoms}
use Rattle.sel_text.specs.declared.selectors.Compound.{Compound}
use Rattle.sel_text.specs.declared.selectors.Join.{Join}
use Rattle.sel_text.specs.declared.selectors.Join.TheVariants.{Inside, Child}
use Rattle.sel_core.specs.Selectors.{Matches}
use Rattle.sel_text.specs.Selectors.{Selector}
use Rattle.sel_text.specs.Parts.{and_then, selector_from}
use Rattle.sel_core.specs.Places.{IsUpTo, MatchesNode, IsLeft, Leaves}
use Rattle.sel_text.proofs.PartLemmas.{selector_from-push, selector_from-subject}
use Rattle.sel_core.proofs.UpwardLemmas as up

-- the selector s matches `from` exactly where its front matches n, and each place of s gives one of the front at n or above
pub record IsReached (from : TreeNode) (s : Selector) (n : TreeNode) (front : Selector) : Type 0 where
  pub enough : MatchesNode n front → MatchesNode from s
  pub back : MatchesNode from s → MatchesNode n front
  pub needed : (u : List ℕ) → IsUpTo u from.path → Matches from.tree u s → (w : List ℕ) × IsUpTo w n.path × Matches n.tree w front

pub reached_itself : (n : TreeNode) (s : Selector) → IsReached n s n s
reached_itself n s = record { enough = λ h. h; back = λ h. h; needed = λ u is h. (u, is, h) }

module _ (from : TreeNode) (s : Selector) (n : TreeNode) where
  -- behind a `>`, at the parent
  pub reached_child : (m : TreeNode) (front : Selector) (c : Compound) → IsReached from s n (and_then front Child c) → HasAtoms n.tree n.path c.atoms → Some m ≡ parent_node n → IsReached from s m front
  reached_child m front c r fit is =
      let above = up.parent_is n m is in
      let p = above.0 in
      let at : TreeNode = record { tree = n.tree; path = p } in
      let there : IsReached from s at front = record {
        enough = λ h. r.enough (up.child_matches n.tree n.path front c p above.1 fit h);
        back = λ h. up.matches_child n.tree n.path front c p above.1 (r.back h);
        needed = λ u within h.
            let f = r.needed u within h in
            let w = f.0 in
            elim (parent_of w) as (λ o. parent_of w ≡ o → (x : List ℕ) × IsUpTo x p × Matches n.tree x front) [
              | None ↦ λ e. absurd (up.root_matches n.tree w front c e f.2)
              | Some q ↦ λ e. (q, up.parents_up_to w n.path q p f.1 e above.1, up.matches_child n.tree w front c q e f.2)
            ] refl;
      } in
      subst (λ z. IsReached from s z front) (λ i. record { tree = sym above.2 i; path = sym above.3 i }) there

  -- where the root is asked for one
  pub no_parent : (front : Selector) (c : Compound) → IsReached from s n (and_then front Child c) → None ≡ parent_node n → MatchesNode from s → ⊥
  no_parent front c r none h = up.root_matches n.tree n.path front c (up.parent_none n none) (r.back h)

  -- behind a join that is no `>`
  pub leaves_inside : (parts : List Compound) (joins : List Join) (c : Compound)
      → IsReached from s n (and_then (selector_from parts joins) Inside c) → HasAtoms n.tree n.path c.atoms → 0 < length parts → Leaves from s n parts joins
  leaves_inside [] joins c r fit some = absurd (omega arith)
  leaves_inside (d ∷ parts) joins c r fit some =
      let front = selector_from (d ∷ parts) joins in
      record {
        enough = λ h. r.enough (up.inside_matches n.tree n.path front c h.0 h.1 fit h.2);
        needed = λ u within h.
            let f = r.needed u within h in
            let g = up.matches_inside n.tree f.0 front c f.2 in
            (g.0, up.above_up_to g.0 f.0 n.path g.1 f.1, g.2);
      }

  -- at the first compound
  pub leaves_nothing : (parts : List Compound) (joins : List Join) (c : Compound)
      → IsReached from s n (selector_from (parts ++ c ∷ []) joins) → HasAtoms n.tree n.path c.atoms → length parts ≡ 0 → length joins ≡ 0 → Leaves from s n parts joins
  leaves_nothing [] [] c r fit none empty = record { enough = λ h. r.enough (fit, tt); needed = λ u within h. tt }
  leaves_nothing [] (j ∷ joins) c r fit none empty = absurd (omega arith)
  leaves_nothing (d ∷ parts) joins c r fit none empty = absurd (omega arith)

  -- without its last compound and join
  pub reached_front : (all parts : List Compound) (between joins : List Join) (c : Compound) (j : Join)
      → IsReached from s n (selector_from all between) → all ≡ parts ++ c ∷ [] → between ≡ joins ++ j ∷ [] → length parts ≡ length joins + 1
      → IsReached from s n (and_then (selector_from parts joins) j c)
  reached_front all parts between joins c j r e f same = rw (← selector_from-push parts joins c j same, ← e, ← f) r

  -- where the last compound doesn't fit
  pub fits_not : (all parts : List Compound) (joins : List Join) (c : Compound)
      → IsReached from s n (selector_from all joins) → all ≡ parts ++ c ∷ [] → length parts ≡ length joins → (HasAtoms n.tree n.path c.atoms → ⊥) → MatchesNode from s → ⊥
  fits_not all parts joins c r e same not_fits h =
      let there : MatchesNode n (selector_from (parts ++ c ∷ []) joins) = rw (← e) (r.back h) in
      not_fits (rw (← selector_from-subject parts joins c same) there.0)

-- what the selector matches above n is the node `next`, which is above n, or above that
abbrev pub IsTried : TreeNode → Selector → Option TreeNode → Type 0
IsTried n s None = (u : List ℕ) → IsAncestor u n.path → Matches n.tree u s → ⊥
IsTried n s (Some next) = (next.tree ≡ n.tree) × IsAncestor next.path n.path × ((u : List ℕ) → IsAncestor u n.path → Matches n.tree u s → IsUpTo u next.path)

-- how many nodes are still to be tried
abbrev pub left_over : Option TreeNode → ℕ
left_over None = 0
left_over (Some n) = suc (length n.path)

pub parent_leaves_less : (n : TreeNode) → left_over (parent_node n) < left_over (Some n)
parent_leaves_less n = elim (parent_of n.path) as (λ o. parent_of n.path ≡ o → left_over (option_map (λ v. let q : TreeNode = record { tree = n.tree; path = v } in q) o) < suc (length n.path)) [
  | None ↦ λ e. omega arith
  | Some p ↦ λ e. omega (arith, (up.parent_take n.path p e).2)
] refl

module _ (n : TreeNode) (s : Selector) where
  pub tried_first : IsTried n s (parent_node n)
  tried_first = elim (parent_of n.path) as (λ o. parent_of n.path ≡ o → IsTried n s (option_map (λ v. let q : TreeNode = record { tree = n.tree; path = v } in q) o)) [
    | None ↦ λ e u is h. up.above_root n.path u e is
    | Some p ↦ λ e. (refl, up.parent_above n.path p e, λ u is h. up.above_parent n.path p u e is)
  ] refl

  pub tried_more : (next : TreeNode) → IsTried n s (Some next) → (MatchesNode next s → ⊥) → IsTried n s (parent_node next)
  tried_more next (same, above, all) fails =
      elim (parent_of next.path) as (λ o. parent_of next.path ≡ o → IsTried n s (option_map (λ v. let q : TreeNode = record { tree = next.tree; path = v } in q) o)) [
        | None ↦ λ e u is h. up.above_root next.path u e (higher u is h)
        | Some p ↦ λ e. (same, up.above_up_to p next.path n.path (up.parent_above next.path p e) (up.above_within next.path n.path above), λ u is h. up.above_parent next.path p u e (higher u is h))
      ] refl
    where
      higher : (u : List ℕ) → IsAncestor u n.path → Matches n.tree u s → IsAncestor u next.path
      higher u is h = elim (up.up_to_cases u next.path (all u is h)) [
        | inl e ↦ absurd (fails (subst (λ t. Matches t next.path s) (sym same) (subst (λ w. Matches n.tree w s) e h)))
        | inr found ↦ found
      ]

-- the nearest node that the selector's last group fits serves as well as each other one
pub tried_found : (n : TreeNode) (all : List Compound) (between : List Join) (next l : TreeNode) (parts : List Compound) (joins : List Join) → 0 < length all
    → IsTried n (selector_from all between) (Some next) → Leaves next (selector_from all between) l parts joins → IsLeft n all between ↔ IsLeft l parts joins
tried_found n [] between next l parts joins some tried leaves = absurd (omega arith)
tried_found n (c ∷ all) between next l parts joins some (same, above, up_to) leaves = (
  λ h. leaves.needed h.0 (up_to h.0 h.1 h.2) (subst (λ t. Matches t h.0 (selector_from (c ∷ all) between)) (sym same) h.2),
  λ h. (next.path, above, subst (λ t. Matches t next.path (selector_from (c ∷ all) between)) same (leaves.enough h)),
)

pub tried_all : (n : TreeNode) (all : List Compound) (between : List Join) → 0 < length all → IsTried n (selector_from all between) None → IsLeft n all between → ⊥
tried_all n [] between some tried h = absurd (omega arith)
tried_all n (c ∷ all) between some tried h = tried h.0 h.1 h.2

-- the place of the last group
pub first_placed : (t : LabelTree) (v : List ℕ) (node : TreeNode) (all all' : List Compound) (between between' : List Join) (l : TreeNode) (parts : List Compound) (joins : List Join)
    → Some node ≡ node_of t v → all' ≡ all → between' ≡ between → Leaves node (selector_from all' between') l parts joins → Matches t v (selector_from all between) ↔ IsLeft l parts joins
first_placed t v node all all' between between' l parts joins is same same' leaves =
    let here = up.node_is t v node is in
    let at : TreeNode = record { tree = t; path = v } in
    let leaves' : Leaves at (selector_from all between) l parts joins = subst (λ n. Leaves n (selector_from all between) l parts joins) (λ i. record { tree = here.0 i; path = here.1 i }) (rw (same, same') at leaves) in
    (λ h. leaves'.needed v (up.up_to_itself v) h, leaves'.enough)

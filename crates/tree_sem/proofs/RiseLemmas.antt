-- Trees whose labels rise go on being such.
use Rattle.std.proofs.Common.{◌≡◌, ℕ, ◌<◌, List, [], ◌∷◌, length, get_or, Some, None, option_map, option_and_then, All, refl, sym, ◌∙◌, subst, inl, inr, arith}
use Rattle.std.specs.List.Sorted.{IsStrictlyIncreasing}
use Rattle.std.proofs.lemmas.Bool.{cases_order}
use Rattle.std.proofs.lemmas.Option.{get_or_from_slice_get, slice_get_within}
use Rattle.tp_base.proofs.ClassLemmas.{IsStrictlyIncreasing-with_class, IsStrictlyIncreasing-union_of}
use Rattle.tree_sem.specs.Trees.{LabelTree, leaf, tree_of, node_at, edit_at, add_class, add_child}
use Rattle.tree_sem.specs.Nodes.{AllRise}
use Rattle.tree_sem.specs.Actions.{add_classes, add_trees}
use Rattle.tree_sem.proofs.EditLemmas.{tree_of-edit_tree, tree_of-edit_tree_other}
use Rattle.tree_sem.proofs.BothLemmas.{pushed_cases}

pub rises_child : (t : LabelTree) → AllRise t → (k : ℕ) (c : LabelTree) → tree_of t.below k ≡ Some c → AllRise c
rises_child t rises k c at v label is = rises (k ∷ v) label (rw at is)

-- the labels of a tree whose root and children are such
pub rises_by : (t : LabelTree) → IsStrictlyIncreasing t.label → ((k : ℕ) (c : LabelTree) → tree_of t.below k ≡ Some c → AllRise c) → AllRise t
rises_by t root below [] label at = let same : t.label ≡ label = cc in subst IsStrictlyIncreasing same root
rises_by t root below (k ∷ v) label at = elim (tree_of t.below k) as (λ o. tree_of t.below k ≡ o → option_map (λ (n : LabelTree). n.label) (option_and_then (node_at v) o) ≡ Some label → IsStrictlyIncreasing label) [
  | None ↦ λ e is. cc
  | Some c ↦ λ e is. below k c e v label is
] refl at

-- an edit that keeps it of its node keeps it of the tree
pub edit_rises : (f : LabelTree → LabelTree) → ((s : LabelTree) → AllRise s → AllRise (f s)) → (p : List ℕ) (t : LabelTree) → AllRise t → AllRise (edit_at p f t)
edit_rises f keeps [] t rises = keeps t rises
edit_rises f keeps (k ∷ p) t rises = rises_by (edit_at (k ∷ p) f t) (rises [] t.label refl) (λ m c at. elim (cases_order m k) [
  | inl same ↦
      elim (tree_of t.below k) as (λ o. tree_of t.below k ≡ o → option_map (edit_at p f) o ≡ Some c → AllRise c) [
        | None ↦ λ e is. cc
        | Some s ↦ λ e is.
            let same' : edit_at p f s ≡ c = cc in
            subst (λ (z : LabelTree). AllRise z) same' (edit_rises f keeps p s (rises_child t rises k s e))
      ] refl (sym (tree_of-edit_tree (edit_at p f) t.below k) ∙ rw same at at)
  | inr (inl less) ↦ rises_child t rises m c (sym (tree_of-edit_tree_other (edit_at p f) t.below k m (λ e. omega arith)) ∙ at)
  | inr (inr more) ↦ rises_child t rises m c (sym (tree_of-edit_tree_other (edit_at p f) t.below k m (λ e. omega arith)) ∙ at)
])

pub add_class_rises : (a : ℕ) (p : List ℕ) (t : LabelTree) → AllRise t → AllRise (edit_at p (add_class a) t)
add_class_rises a p t = edit_rises (add_class a) (λ s rises. rises_by (add_class a s) (IsStrictlyIncreasing-with_class a s.label (rises [] s.label refl)) (rises_child s rises)) p t

pub add_classes_rises : (classes p : List ℕ) (t : LabelTree) → AllRise t → AllRise (edit_at p (add_classes classes) t)
add_classes_rises classes p t =
    edit_rises (add_classes classes) (λ s rises. rises_by (add_classes classes s) (IsStrictlyIncreasing-union_of s.label classes (rises [] s.label refl)) (rises_child s rises)) p t

pub add_trees_rises : (tops : List LabelTree) → All AllRise tops → (p : List ℕ) (t : LabelTree) → AllRise t → AllRise (edit_at p (add_trees tops) t)
add_trees_rises tops each p t = edit_rises (add_trees tops) (λ s rises. rises_by (add_trees tops s) (rises [] s.label refl) (λ k c at. elim (pushed_cases tops s.below k c at) [
  | inl old ↦ rises_child s rises k c old
  | inr (i, new) ↦ subst (λ (z : LabelTree). AllRise z) (get_or_from_slice_get tops i c c new) (each i c (slice_get_within tops i c new))
])) p t

pub add_child_rises : (l : List ℕ) → IsStrictlyIncreasing l → (p : List ℕ) (t : LabelTree) → AllRise t → AllRise (edit_at p (add_child l) t)
add_child_rises l up p t = add_trees_rises (leaf l ∷ []) (λ k d within. one k d within) p t
  where
    one : (k : ℕ) (d : LabelTree) → k < length (leaf l ∷ []) → AllRise (get_or (leaf l ∷ []) k d)
    one k d within = let first : k ≡ 0 = omega arith in rw first (rises_by (leaf l) up (λ m c at. cc))

-- The same change at a node and at its image.
use Rattle.std.proofs.Common.{◌≡◌, ◌⊎◌, ℕ, zero, suc, ◌+◌, ◌≤◌, List, [], ◌∷◌, ◌++◌, length, take, drop, fold, Some, None, option_map, option_and_then, unwrap_or, Contains, refl, sym, ap, ◌∙◌, subst, inl, inr, arith, length-append, length-drop}
use Rattle.std.specs.Prelude.{slice_get}
use Rattle.std.proofs.lemmas.List.{take-append-le, take-append-drop, take_all}
use Rattle.std.proofs.lemmas.Bool.{cases_lt}
use Rattle.std.proofs.Math.Seq.{take-length, take-add}
use Rattle.std.proofs.lemmas.List.Elements.{All-contains}
use Rattle.tp_base.specs.Classes.{union_of}
use Rattle.tp_base.proofs.ClassLemmas.{Contains-union_of}
use Rattle.tp_base.proofs.Rising.{All-from_Contains}
use Rattle.tree_sem.specs.declared.actions.Action.{Action}
use Rattle.tree_sem.specs.declared.actions.Action.TheVariants.{Classes, Inside, Beside}
use Rattle.tree_sem.specs.Trees.{Row, no_nodes, node, LabelTree, tree_of, length_of, push_tree, node_at, edit_at}
use Rattle.tree_sem.specs.Paths.{parent_of}
use Rattle.tree_sem.specs.Actions.{add_classes, add_trees, act}
use Rattle.tree_sem.specs.Embedding.{IsWithin, IsImage}
use Rattle.tree_sem.specs.Growth.{Grows}
use Rattle.tree_sem.specs.Nodes.{IsNode}
use Rattle.tree_sem.proofs.RowLemmas.{there, node_at-append, node_at-child, child_node_at}
use Rattle.tree_sem.proofs.PathLemmas.{parent_of-child, child_of_parent, parent_of-none, IsSome-take}
use Rattle.tree_sem.proofs.EditLemmas.{node_at-edit_at, node_at-edit_at_below, node_at-edit_at_above, tree_of-push_tree}
use Rattle.tree_sem.proofs.WithinLemmas.{within_itself, within_at, are_within_each, image_node, image_above}
use Rattle.tree_sem.proofs.GrowthLemmas.{all_pushed_stay, classes_grow, trees_grow, edit_grows, IsNode-grows}
use Rattle.tree_sem.proofs.ImageLemmas.{image_whole, image_grows, edit_image}

-- the last number of a path
pub last_of : (w : List ℕ) (m : ℕ) → length w ≡ suc m → (l : ℕ) × (w ≡ take m w ++ l ∷ [])
last_of [] m long = absurd (omega arith)
last_of (k ∷ []) zero long = (k, refl)
last_of (k ∷ l ∷ w) zero long = absurd (omega arith)
last_of (k ∷ []) (suc m) long = absurd (omega arith)
last_of (k ∷ l ∷ w) (suc m) long = let rest = last_of (l ∷ w) m (omega arith) in (rest.0, ap (λ z. k ∷ z) rest.1)

-- the rest of the way to an image, from one level on
pub image_rest : (t u : LabelTree) (v w : List ℕ) → IsImage t u v w → (m : ℕ) → m ≤ length v → (s x : LabelTree) → node_at (take m v) t ≡ Some s → node_at (take m w) u ≡ Some x → IsImage s x (drop m v) (drop m w)
image_rest t u v w image m le s x at at' =
    let same = image.same_length in
    record {
      is_node =
          let whole : take m v ++ drop m v ≡ v = take-append-drop m v in
          let is : IsNode t (take m v ++ drop m v) = rw whole image.is_node in
          rw (node_at-append (take m v) (drop m v) t, at) at is;
      same_length = omega (arith, length-drop m v, length-drop m w);
      levels = λ n le' y is.
          let front : take (m + n) v ≡ take m v ++ take n (drop m v) = take-add m n v in
          let front' : take (m + n) w ≡ take m w ++ take n (drop m w) = take-add m n w in
          let here : node_at (take (m + n) v) t ≡ Some y = ap (λ z. node_at z t) front ∙ node_at-append (take m v) (take n (drop m v)) t ∙ ap (option_and_then (node_at (take n (drop m v)))) at ∙ is in
          let found = image.levels (m + n) (omega (arith, le', length-drop m v)) y here in
          let there : node_at (take n (drop m w)) x ≡ Some found.0 =
          ap (option_and_then (node_at (take n (drop m w)))) (sym at') ∙ sym (node_at-append (take m w) (take n (drop m w)) u) ∙ ap (λ z. node_at z u) (sym front') ∙ found.1 in
          (found.0, there, found.2);
    }

-- a child of an image, which is an image of a child
image_with_child : (t u : LabelTree) (p q : List ℕ) → IsImage t u p q → (k l : ℕ) (c x : LabelTree) → node_at (p ++ k ∷ []) t ≡ Some c → node_at (q ++ l ∷ []) u ≡ Some x → IsWithin c x → IsImage t u (p ++ k ∷ []) (q ++ l ∷ [])
image_with_child t u p q image k l c x at at' within =
    let long = length-append p (k ∷ []) in
    let long' = length-append q (l ∷ []) in
    let same = image.same_length in
    record {
      is_node = rw at refl;
      same_length = omega arith;
      levels = λ m le y is. elim (cases_lt (length p) m) [
        | inr above ↦
            let front : take m (p ++ k ∷ []) ≡ take m p = take-append-le m p (k ∷ []) above in
            let front' : take m (q ++ l ∷ []) ≡ take m q = take-append-le m q (l ∷ []) (omega arith) in
            rw front' (image.levels m above y (rw front at is))
        | inl past ↦
            let whole : take m (p ++ k ∷ []) ≡ p ++ k ∷ [] = take_all m (p ++ k ∷ []) (omega arith) in
            let whole' : take m (q ++ l ∷ []) ≡ q ++ l ∷ [] = take_all m (q ++ l ∷ []) (omega arith) in
            let here : node_at (p ++ k ∷ []) t ≡ Some y = rw whole at is in
            let same' : c ≡ y = cc in
            (x, rw whole' at', subst (λ (z : LabelTree). IsWithin z x) same' within)
      ];
    }

-- Some edit that grows its node, and keeps what is within another tree within it.
module _ (f : LabelTree → LabelTree) (keeps : (s x : LabelTree) → IsWithin s x → IsWithin (f s) (f x)) (grows : (s : LabelTree) → Grows s (f s))
    (v w : List ℕ) (t u : LabelTree) (image : IsImage t u v w) where
  pub edit_both : IsWithin (edit_at v f t) (edit_at w f u)
  edit_both =
      edit_image f v w t (edit_at w f u) (image_grows t u v w image (edit_at w f u) (edit_grows f grows w u))
      (λ s x at at'.
      let found = image_node t u v w image s at in
      let there : node_at w (edit_at w f u) ≡ Some (f found.0) = node_at-edit_at w f u ∙ ap (option_map f) found.1 in
      let same : f found.0 ≡ x = cc in
      subst (λ (z : LabelTree). IsWithin (f s) z) same (keeps s found.0 found.2))

-- and the node is an image still
module _ (f : LabelTree → LabelTree) (keeps : (s x : LabelTree) → IsWithin s x → IsWithin (f s) (f x)) (grows : (s : LabelTree) → Grows s (f s))
    (v w : List ℕ) (t u : LabelTree) (image : IsImage t u v w) where
  both_level : (m : ℕ) → m ≤ length v → (s : LabelTree) → node_at (take m v) (edit_at v f t) ≡ Some s → (x : LabelTree) × (node_at (take m w) (edit_at w f u) ≡ Some x) × IsWithin s x
  both_level m le s at =
      let here : node_at (take m v) (edit_at v f t) ≡ option_map (edit_at (drop m v) f) (node_at (take m v) t) =
      ap (λ z. node_at (take m v) (edit_at z f t)) (sym (take-append-drop m v)) ∙ node_at-edit_at_above (take m v) (drop m v) f t in
      let here' : node_at (take m w) (edit_at w f u) ≡ option_map (edit_at (drop m w) f) (node_at (take m w) u) =
      ap (λ z. node_at (take m w) (edit_at z f u)) (sym (take-append-drop m w)) ∙ node_at-edit_at_above (take m w) (drop m w) f u in
      let old = there (node_at (take m v) t) (IsSome-take m v t image.is_node) in
      let found = image.levels m le old.0 old.1 in
      let edited : Some (edit_at (drop m v) f old.0) ≡ Some s = sym (here ∙ ap (option_map (edit_at (drop m v) f)) old.1) ∙ at in
      let same : edit_at (drop m v) f old.0 ≡ s = cc in
      let rest = image_rest t u v w image m le old.0 found.0 old.1 found.1 in (
        edit_at (drop m w) f found.0,
        here' ∙ ap (option_map (edit_at (drop m w) f)) found.1,
        subst (λ (z : LabelTree). IsWithin z (edit_at (drop m w) f found.0)) same (edit_both f keeps grows (drop m v) (drop m w) old.0 found.0 rest),
      )

  pub edit_image_both : IsImage (edit_at v f t) (edit_at w f u) v w
  edit_image_both = record { is_node = IsNode-grows t (edit_at v f t) (edit_grows f grows v t) v image.is_node; same_length = image.same_length; levels = both_level }

pub classes_both : (classes : List ℕ) (s x : LabelTree) → IsWithin s x → IsWithin (add_classes classes s) (add_classes classes x)
classes_both classes s x within = (
  All-from_Contains (Contains (union_of x.label classes)) (union_of s.label classes) (λ a is. elim ((Contains-union_of s.label classes a).0 is) [
    | inl old ↦ (Contains-union_of x.label classes a).1 (inl (All-contains (Contains x.label) s.label a within.0 old))
    | inr new ↦ (Contains-union_of x.label classes a).1 (inr new)
  ]),
  within.1,
)

-- the trees of a row, and then more trees: an old one or a new one
pub push_cases : (r : Row) (t : LabelTree) (j : ℕ) (y : LabelTree) → tree_of (push_tree r t) j ≡ Some y → (tree_of r j ≡ Some y) ⊎ (t ≡ y)
push_cases no_nodes t zero y at = let same : t ≡ y = cc in inr same
push_cases no_nodes t (suc j) y at = cc
push_cases (node l below next) t zero y at = inl at
push_cases (node l below next) t (suc j) y at = push_cases next t j y at

pub pushed_cases : (tops : List LabelTree) (r : Row) (j : ℕ) (y : LabelTree) → tree_of (fold push_tree r tops) j ≡ Some y
    → (tree_of r j ≡ Some y) ⊎ ((m : ℕ) × (slice_get tops m ≡ Some y))
pushed_cases [] r j y at = inl at
pushed_cases (t ∷ tops) r j y at = elim (pushed_cases tops (push_tree r t) j y at) [
  | inl here ↦ elim (push_cases r t j y here) [ inl old ↦ inl old | inr same ↦ inr (0, ap Some same) ]
  | inr later ↦ inr (suc later.0, later.1)
]

pub pushed_there : (tops : List LabelTree) (r : Row) (m : ℕ) (y : LabelTree) → slice_get tops m ≡ Some y → (l : ℕ) × (tree_of (fold push_tree r tops) l ≡ Some y)
pushed_there [] r m y at = cc
pushed_there (t ∷ tops) r zero y at = (length_of r, all_pushed_stay tops (push_tree r t) (length_of r) y (tree_of-push_tree r t ∙ at))
pushed_there (t ∷ tops) r (suc m) y at = pushed_there tops (push_tree r t) m y at

pub trees_both : (tops : List LabelTree) (s x : LabelTree) → IsWithin s x → IsWithin (add_trees tops s) (add_trees tops x)
trees_both tops s x within = (
  within.0,
  are_within_each (fold push_tree s.below tops) (fold push_tree x.below tops) (λ j y at. elim (pushed_cases tops s.below j y at) [
    | inl old ↦ let of = within_at s.below x.below within.1 j y old in (of.0, of.1, all_pushed_stay tops x.below of.0 of.1 of.2, of.3)
    | inr (m, new) ↦ let of = pushed_there tops x.below m y new in (of.0, y, of.1, within_itself y)
  ]),
)

-- a child stays where it is
child_kept : (tops : List LabelTree) (p : List ℕ) (k : ℕ) (t c : LabelTree) → node_at (p ++ k ∷ []) t ≡ Some c → node_at (p ++ k ∷ []) (edit_at p (add_trees tops) t) ≡ Some c
child_kept tops p k t c at =
    let is : IsNode t (p ++ k ∷ []) = rw at refl in
    let family = node_at-child p k t is in
    let same : Some family.1 ≡ Some c = sym (child_node_at p k t family.0 family.1 family.2 family.3) ∙ at in
    node_at-edit_at_below p (k ∷ []) (add_trees tops) t family.0 family.2 ∙ ap (option_and_then (node_at [])) (all_pushed_stay tops family.0.below k family.1 family.3) ∙ same

-- the parents of a node and of its image
parents : (v p w : List ℕ) (t u : LabelTree) → parent_of v ≡ Some p → IsImage t u v w → (q : List ℕ) × (k : ℕ) × (l : ℕ) × (v ≡ p ++ k ∷ []) × (w ≡ q ++ l ∷ []) × (parent_of w ≡ Some q) × IsImage t u p q
parents v p w t u up image =
    let split = child_of_parent v p up in
    let count : length v ≡ length p + 1 = ap length split.1 ∙ length-append p (split.0 ∷ []) in
    let long = image.same_length in
    let last = last_of w (length p) (omega arith) in
    let q = take (length p) w in
    let above = image_above t u v w image (length p) (omega (arith, count)) in
    let front : take (length p) v ≡ p = ap (take (length p)) split.1 ∙ take-append-le (length p) p (split.0 ∷ []) (omega arith) ∙ take-length p in
    (q, split.0, last.0, split.1, last.1, ap parent_of last.1 ∙ parent_of-child q last.0, subst (λ z. IsImage t u z q) front above)

-- the image of a root is the root
root_image : (v w : List ℕ) (t u : LabelTree) → parent_of v ≡ None → IsImage t u v w → parent_of w ≡ None
root_image v [] t u none image = refl
root_image v (l ∷ w) t u none image = let long = image.same_length in let short : length v ≡ 0 = ap length (parent_of-none v none) in absurd (omega arith)

pub act_both : (a : Action) (v w : List ℕ) (t u : LabelTree) → IsImage t u v w → IsWithin (act a v t) (act a w u)
act_both (Classes classes) v w t u image = edit_both (add_classes classes) (classes_both classes) (classes_grow classes) v w t u image
act_both (Inside forest) v w t u image = edit_both (add_trees forest.tops) (trees_both forest.tops) (trees_grow forest.tops) v w t u image
act_both (Beside forest) v w t u image =
    elim (parent_of v) as (λ o. parent_of v ≡ o → IsWithin (unwrap_or (option_map (λ p. edit_at p (add_trees forest.tops) t) o) t) (act (Beside forest) w u)) [
      | None ↦ λ e. rw (root_image v w t u e image) (image_whole t u v w image)
      | Some p ↦ λ e.
          let above = parents v p w t u e image in
          rw above.5 (edit_both (add_trees forest.tops) (trees_both forest.tops) (trees_grow forest.tops) p above.0 t u above.6)
    ] refl

beside_image : (tops : List LabelTree) (v p w : List ℕ) (t u : LabelTree) → parent_of v ≡ Some p → IsImage t u v w
    → (q : List ℕ) × (parent_of w ≡ Some q) × IsImage (edit_at p (add_trees tops) t) (edit_at q (add_trees tops) u) v w
beside_image tops v p w t u up image =
    let (q, k, l, split, split', up', above) = parents v p w t u up image in
    let at = there (node_at v t) image.is_node in
    let found = image_node t u v w image at.0 at.1 in
    let old : node_at (p ++ k ∷ []) t ≡ Some at.0 = ap (λ z. node_at z t) (sym split) ∙ at.1 in
    let old' : node_at (q ++ l ∷ []) u ≡ Some found.0 = ap (λ z. node_at z u) (sym split') ∙ found.1 in
    let both = edit_image_both (add_trees tops) (trees_both tops) (trees_grow tops) p q t u above in
    let child = image_with_child (edit_at p (add_trees tops) t) (edit_at q (add_trees tops) u) p q both k l at.0 found.0 (child_kept tops p k t at.0 old) (child_kept tops q l u found.0 old') found.2 in
    let t' = edit_at p (add_trees tops) t in
    let u' = edit_at q (add_trees tops) u in
    (q, up', subst (λ z. IsImage t' u' v z) (sym split') (subst (λ z. IsImage t' u' z (q ++ l ∷ [])) (sym split) child))

-- the image of a node that acts is an image afterwards
pub act_image : (a : Action) (v w : List ℕ) (t u : LabelTree) → IsImage t u v w → IsImage (act a v t) (act a w u) v w
act_image (Classes classes) v w t u image = edit_image_both (add_classes classes) (classes_both classes) (classes_grow classes) v w t u image
act_image (Inside forest) v w t u image = edit_image_both (add_trees forest.tops) (trees_both forest.tops) (trees_grow forest.tops) v w t u image
act_image (Beside forest) v w t u image =
    elim (parent_of v) as (λ o. parent_of v ≡ o → IsImage (unwrap_or (option_map (λ p. edit_at p (add_trees forest.tops) t) o) t) (act (Beside forest) w u) v w) [
      | None ↦ λ e. rw (root_image v w t u e image) image
      | Some p ↦ λ e. let both = beside_image forest.tops v p w t u e image in rw both.1 both.2
    ] refl

-- Facts on trees within trees.
use Rattle.std.proofs.Common.{◌≡◌, ℕ, zero, suc, ◌+◌, ◌≤◌, List, [], ◌∷◌, ◌++◌, length, take, fold, Some, None, option_map, option_and_then, unwrap_or, IsSome, IsSomeAnd, All, Contains, refl, sym, ap, ◌∙◌, subst, inl, inr, add-zero, append-nil, append_assoc, arith, length-append}
use Rattle.std.proofs.lemmas.Bool.{cases_lt}
use Rattle.std.proofs.lemmas.List.Elements.{All-contains_itself, All-contains, All-weaker}
use Rattle.std.proofs.lemmas.List.{take-append-le, length-take}
use Rattle.std.proofs.Math.Seq.{take-length}
use Rattle.tp_base.specs.Classes.{with_class, union_of}
use Rattle.tp_base.proofs.ClassLemmas.{with_class-keeps, union_of-keeps_left}
use Rattle.tree_sem.specs.declared.actions.Action.{Action}
use Rattle.tree_sem.specs.declared.actions.Action.TheVariants.{Classes, Inside, Beside}
use Rattle.tree_sem.specs.Trees.{Row, no_nodes, node, LabelTree, leaf, tree_of, node_at, label_at, edit_at, edit_tree, add_class, add_child, push_tree}
use Rattle.tree_sem.specs.Paths.{parent_of}
use Rattle.tree_sem.specs.Actions.{add_classes, add_trees, act}
use Rattle.tree_sem.specs.Embedding.{AreWithin, IsWithin, IsImage}
use Rattle.tree_sem.proofs.RowLemmas.{node_at-append, node_at-child, child_node_at}
use Rattle.tree_sem.proofs.PathLemmas.{take_take, IsSome-take}

-- each row is within one that has its trees, d places later
are_within : (ts us : Row) (d : ℕ) → ((k : ℕ) (t : LabelTree) → tree_of ts k ≡ Some t → tree_of us (k + d) ≡ Some t) → AreWithin ts us
are_within no_nodes us d has = tt
are_within (node l below next) us d has =
    let here : tree_of us d ≡ Some (record { label = l; below = below }) = subst (λ q. tree_of us q ≡ Some (record { label = l; below = below })) {x = 0 + d} (omega arith) (has 0 _ refl) in (
      (d, record { label = l; below = below }, here, All-contains_itself l, are_within below below 0 (λ k t at. rw add-zero at)),
      are_within next us (suc d) (λ k s at. subst (λ q. tree_of us q ≡ Some s) {x = suc k + d} (omega arith) (has (suc k) s at)),
    )

pub within_itself : (t : LabelTree) → IsWithin t t
within_itself t = (All-contains_itself t.label, are_within t.below t.below 0 (λ k s at. rw add-zero at))

pub all_in : (xs ys zs : List ℕ) → All (Contains ys) xs → All (Contains zs) ys → All (Contains zs) xs
all_in xs ys zs a b = All-weaker (Contains ys) (Contains zs) (λ x there. All-contains (Contains zs) ys x b there) xs a

-- the tree of this number in a row that is within another
pub within_at : (ts us : Row) → AreWithin ts us → (k : ℕ) (t : LabelTree) → tree_of ts k ≡ Some t → (l : ℕ) × (u : LabelTree) × (tree_of us l ≡ Some u) × IsWithin t u
within_at no_nodes us w k t at = cc
within_at (node l below next) us w zero t at =
    let same : record { label = l; below = below } ≡ t = cc in subst (λ (z : LabelTree). (m : ℕ) × (u : LabelTree) × (tree_of us m ≡ Some u) × IsWithin z u) same (w.0.0, w.0.1, w.0.2, (w.0.3, w.0.4))
within_at (node l below next) us w (suc k) t at = within_at next us w.1 k t at

-- a row is within one where each of its trees is within some tree
pub are_within_each : (ts us : Row) → ((k : ℕ) (t : LabelTree) → tree_of ts k ≡ Some t → (l : ℕ) × (u : LabelTree) × (tree_of us l ≡ Some u) × IsWithin t u) → AreWithin ts us
are_within_each no_nodes us has = tt
are_within_each (node l below next) us has =
    let first = has 0 (record { label = l; below = below }) refl in
    ((first.0, first.1, first.2, first.3.0, first.3.1), are_within_each next us (λ k s at. has (suc k) s at))

-- one tree within another, and that within a third
are_within_both : (ts us vs : Row) → AreWithin ts us → AreWithin us vs → AreWithin ts vs
are_within_both no_nodes us vs a b = tt
are_within_both (node l below next) us vs a b =
    let step = within_at us vs b a.0.0 a.0.1 a.0.2 in (
      (step.0, step.1, step.2, all_in l a.0.1.label step.1.label a.0.3 step.3.0, are_within_both below a.0.1.below step.1.below a.0.4 step.3.1),
      are_within_both next us vs a.1 b,
    )

pub within_both : (t u v : LabelTree) → IsWithin t u → IsWithin u v → IsWithin t v
within_both t u v a b = (all_in t.label u.label v.label a.0 b.0, are_within_both t.below u.below v.below a.1 b.1)

-- an edit that grows the node grows the tree
edited_at : (h : LabelTree → LabelTree) → ((s : LabelTree) → IsWithin s (h s)) → (ts : Row) (k m : ℕ) (s : LabelTree) → tree_of ts m ≡ Some s → (u : LabelTree) × (tree_of (edit_tree h ts k) m ≡ Some u) × IsWithin s u
edited_at h grows no_nodes k m s at = cc
edited_at h grows (node l below next) zero zero s at =
    let first : LabelTree = record { label = l; below = below } in
    let same : first ≡ s = cc in
    (h s, ap (λ z. Some (h z)) same, grows s)
edited_at h grows (node l below next) zero (suc m) s at = (s, at, within_itself s)
edited_at h grows (node l below next) (suc k) zero s at = (s, at, within_itself s)
edited_at h grows (node l below next) (suc k) (suc m) s at = edited_at h grows next k m s at

pub edit_within : (f : LabelTree → LabelTree) → ((s : LabelTree) → IsWithin s (f s)) → (p : List ℕ) (t : LabelTree) → IsWithin t (edit_at p f t)
edit_within f grows [] t = grows t
edit_within f grows (k ∷ p) t =
    (All-contains_itself t.label, are_within_each t.below (edit_tree (edit_at p f) t.below k) (λ m s at. let found = edited_at (edit_at p f) (edit_within f grows p) t.below k m s at in (m, found.0, found.1, found.2)))

pub All-with_class : (a : ℕ) (xs : List ℕ) → All (Contains (with_class a xs)) xs
All-with_class a xs = All-weaker (Contains xs) (Contains (with_class a xs)) (with_class-keeps a xs) xs (All-contains_itself xs)

pub All-union_of : (xs ys : List ℕ) → All (Contains (union_of xs ys)) xs
All-union_of xs ys = All-weaker (Contains xs) (Contains (union_of xs ys)) (union_of-keeps_left xs ys) xs (All-contains_itself xs)

pub add_class_within : (a : ℕ) (t : LabelTree) → IsWithin t (add_class a t)
add_class_within a t = (All-with_class a t.label, (within_itself t).1)

pub add_classes_within : (classes : List ℕ) (t : LabelTree) → IsWithin t (add_classes classes t)
add_classes_within classes t = (All-union_of t.label classes, (within_itself t).1)

pub pushed_at : (ts : Row) (t s : LabelTree) (m : ℕ) → tree_of ts m ≡ Some s → tree_of (push_tree ts t) m ≡ Some s
pushed_at no_nodes t s m at = cc
pushed_at (node l below next) t s zero at = at
pushed_at (node l below next) t s (suc m) at = pushed_at next t s m at

push_within : (l : List ℕ) (ts : Row) (t : LabelTree) → AreWithin ts (push_tree ts t)
push_within l ts t = are_within_each ts (push_tree ts t) (λ k s at. (k, s, pushed_at ts t s k at, within_itself s))

pub add_child_within : (l : List ℕ) (t : LabelTree) → IsWithin t (add_child l t)
add_child_within l t = (All-contains_itself t.label, push_within l t.below (leaf l))

pub add_trees_within : (tops : List LabelTree) (t : LabelTree) → IsWithin t (add_trees tops t)
add_trees_within tops t = (All-contains_itself t.label, all_pushed tops t.below)
  where
    all_pushed : (tops : List LabelTree) (ts : Row) → AreWithin ts (fold push_tree ts tops)
    all_pushed [] ts = (within_itself (record { label = []; below = ts })).1
    all_pushed (u ∷ tops) ts = are_within_both ts (push_tree ts u) (fold push_tree (push_tree ts u) tops) (push_within [] ts u) (all_pushed tops (push_tree ts u))

-- each action grows the tree
pub act_within : (a : Action) (v : List ℕ) (t : LabelTree) → IsWithin t (act a v t)
act_within (Classes classes) v t = edit_within (add_classes classes) (add_classes_within classes) v t
act_within (Inside forest) v t = edit_within (add_trees forest.tops) (add_trees_within forest.tops) v t
act_within (Beside forest) v t =
    elim (parent_of v) as (λ o. IsWithin t (unwrap_or (option_map (λ p. edit_at p (add_trees forest.tops) t) o) t)) [
      | None ↦ within_itself t
      | Some p ↦ edit_within (add_trees forest.tops) (add_trees_within forest.tops) p t
    ]

-- each node has an image
pub carried : (v : List ℕ) (t u : LabelTree) → IsWithin t u → IsSome (node_at v t) → (w : List ℕ) × IsImage t u v w
carried [] t u w is = ([], record { is_node = is; same_length = refl; levels = λ m le s at. at_root m s at })
  where
    at_root : (m : ℕ) (s : LabelTree) → node_at (take m []) t ≡ Some s → (x : LabelTree) × (node_at (take m []) u ≡ Some x) × IsWithin s x
    at_root zero s at = let same : t ≡ s = cc in (u, refl, subst (λ (z : LabelTree). IsWithin z u) same w)
    at_root (suc m) s at = let same : t ≡ s = cc in (u, refl, subst (λ (z : LabelTree). IsWithin z u) same w)
carried (k ∷ v) t u w is =
    elim (tree_of t.below k) as (λ o. tree_of t.below k ≡ o → IsSome (option_and_then (node_at v) o) → (q : List ℕ) × IsImage t u (k ∷ v) q) [
      | None ↦ λ e is'. cc
      | Some s ↦ λ e is'.
          let there = within_at t.below u.below w.1 k s e in
          let inner = carried v s there.1 there.3 is' in
          (there.0 ∷ inner.0, record { is_node = rw e is'; same_length = ap suc inner.1.same_length; levels = λ m le x at. image_level m k there.0 v inner.0 t u s there.1 w e there.2 inner.1 le x at })
    ] refl is
  where
    image_level : (m k l : ℕ) (v q : List ℕ) (t u s x : LabelTree) → IsWithin t u → tree_of t.below k ≡ Some s → tree_of u.below l ≡ Some x → IsImage s x v q
        → m ≤ suc (length v) → (y : LabelTree) → node_at (take m (k ∷ v)) t ≡ Some y → (z : LabelTree) × (node_at (take m (l ∷ q)) u ≡ Some z) × IsWithin y z
    image_level zero k l v q t u s x w at at' inner le y is = let same : t ≡ y = cc in (u, refl, subst (λ (z : LabelTree). IsWithin z u) same w)
    image_level (suc m) k l v q t u s x w at at' inner le y is =
        let found = inner.levels m (omega arith) y (rw at at is) in (found.0, rw at' found.1, found.2)

module _ (t u : LabelTree) (v w : List ℕ) (image : IsImage t u v w) where
  -- the node itself
  pub image_node : (s : LabelTree) → node_at v t ≡ Some s → (x : LabelTree) × (node_at w u ≡ Some x) × IsWithin s x
  image_node s at =
      let whole : take (length v) v ≡ v = take-length v in
      let whole' : take (length v) w ≡ w = ap (λ n. take n w) (sym image.same_length) ∙ take-length w in
      let at' : node_at (take (length v) v) t ≡ Some s = rw whole at in
      let found = image.levels (length v) (omega arith) s at' in
      (found.0, rw whole' at found.1, found.2)

  -- at each level what is in the label is in the image's label
  pub image_fits : (m : ℕ) → m ≤ length v → (wanted : List ℕ) → IsSomeAnd (label_at (take m v) t) (λ l. All (Contains l) wanted) → IsSomeAnd (label_at (take m w) u) (λ l. All (Contains l) wanted)
  image_fits m le wanted fits =
      elim (node_at (take m v) t) as (λ o. node_at (take m v) t ≡ o → IsSomeAnd (option_map (λ (n : LabelTree). n.label) o) (λ l. All (Contains l) wanted)
      → IsSomeAnd (option_map (λ (n : LabelTree). n.label) (node_at (take m w) u)) (λ l. All (Contains l) wanted)) [
        | None ↦ λ e fits. elim fits [ ]
        | Some s ↦ λ e fits. let found = image.levels m le s e in rw found.1 (all_in wanted s.label found.0.label fits found.2.0)
      ] refl fits

  -- a child of the node has an image below the node's image
  pub image_child : (s c : LabelTree) (k : ℕ) → node_at v t ≡ Some s → tree_of s.below k ≡ Some c → (l : ℕ) × IsImage t u (v ++ k ∷ []) (w ++ l ∷ [])
  image_child s c k at here =
      let found = image_node s at in
      let child = within_at s.below found.0.below found.2.1 k c here in
      let long = length-append v (k ∷ []) in
      let long' = length-append w (child.0 ∷ []) in
      let same = image.same_length in (
        child.0,
        record {
          is_node = rw (child_node_at v k t s c at here) refl;
          same_length = omega arith;
          levels = λ m le y is. elim (cases_lt (length v) m) [
            | inr within ↦
                let above : take m (v ++ k ∷ []) ≡ take m v = take-append-le m v (k ∷ []) within in
                let above' : take m (w ++ child.0 ∷ []) ≡ take m w = take-append-le m w (child.0 ∷ []) (omega arith) in
                rw above' (image.levels m within y (rw above at is))
            | inl past ↦
                let whole : take m (v ++ k ∷ []) ≡ v ++ k ∷ [] = ap (λ n. take n (v ++ k ∷ [])) (omega arith) ∙ take-length (v ++ k ∷ []) in
                let whole' : take m (w ++ child.0 ∷ []) ≡ w ++ child.0 ∷ [] = ap (λ n. take n (w ++ child.0 ∷ [])) (omega arith) ∙ take-length (w ++ child.0 ∷ []) in
                let at' : node_at (v ++ k ∷ []) t ≡ Some y = rw whole at is in
                let at'' = child_node_at v k t s c at here in
                let same : c ≡ y = cc in
                (child.1, rw whole' (child_node_at w child.0 u found.0 child.1 found.1 child.2), subst (λ (z : LabelTree). IsWithin z child.1) same child.3)
          ];
        },
      )

  -- the nodes above the node have images above the node's image
  pub image_above : (m : ℕ) → m ≤ length v → IsImage t u (take m v) (take m w)
  image_above m le =
      let same = image.same_length in
      let long = length-take m v in
      let long' = length-take m w in
      record {
        is_node = IsSome-take m v t image.is_node;
        same_length = omega arith;
        levels = λ n le' y is.
            let part : take n (take m v) ≡ take n v = take_take n m v (omega arith) in
            let part' : take n (take m w) ≡ take n w = take_take n m w (omega arith) in
            rw part' (image.levels n (omega arith) y (rw part at is));
      }

-- what is below the node has an image below the node's image
pub image_below : (r v w : List ℕ) (t u : LabelTree) → IsImage t u v w → IsSome (node_at (v ++ r) t) → (q : List ℕ) × IsImage t u (v ++ r) (w ++ q)
image_below [] v w t u image is = ([], rw (append-nil v, append-nil w) image)
image_below (k ∷ r) v w t u image is =
    let path : (v ++ k ∷ []) ++ r ≡ v ++ k ∷ r = append_assoc v (k ∷ []) r in
    let is' : IsSome (node_at ((v ++ k ∷ []) ++ r) t) = rw path is in
    let parts : IsSome (option_and_then (node_at r) (node_at (v ++ k ∷ []) t)) = rw (← node_at-append (v ++ k ∷ []) r t) is' in
    let here : IsSome (node_at (v ++ k ∷ []) t) = elim (node_at (v ++ k ∷ []) t) as (λ o. IsSome (option_and_then (node_at r) o) → IsSome o) [ None ↦ λ h. h | Some s ↦ λ h. refl ] parts in
    let family = node_at-child v k t here in
    let child = image_child t u v w image family.0 family.1 k family.2 family.3 in
    let rest = image_below r (v ++ k ∷ []) (w ++ child.0 ∷ []) t u child.1 is' in
    (child.0 ∷ rest.0, rw (← path, ← append_assoc w (child.0 ∷ []) rest.0) rest.1)

-- What holds of each label from some depth on, where edits keep it.
use Rattle.std.proofs.Common.{◌≡◌, ℕ, ◌-◌, ◌≤◌, List, [], ◌∷◌, ◌++◌, length, Some, None, option_map, option_and_then, All, Contains, refl, sym, ap, ◌∙◌, subst, inl, inr, arith, length-append}
use Rattle.std.proofs.lemmas.Bool.{cases_order}
use Rattle.tp_base.specs.Classes.{with_class}
use Rattle.tree_sem.specs.Embedding.{IsWithin}
use Rattle.tree_sem.specs.Trees.{LabelTree, tree_of, node_at, edit_at, add_class}
use Rattle.tree_sem.proofs.EditLemmas.{tree_of-edit_tree, tree_of-edit_tree_other}
use Rattle.tree_sem.proofs.RowLemmas.{node_at-append}
use Rattle.tree_sem.proofs.WithinLemmas.{carried, image_node}
use Rattle.lower_cover.specs.Edits.{insert_tree, insert_child}
use Rattle.lower_cover.proofs.RowCases.{insert_cases}

module _ (M : List ℕ → Type 0) where
  abbrev pub AtDepth : ℕ → LabelTree → Type 0
  AtDepth d t = (v : List ℕ) (s : LabelTree) → d ≤ length v → node_at v t ≡ Some s → M s.label

  depth_child : (d k : ℕ) (t c : LabelTree) → tree_of t.below k ≡ Some c → AtDepth d t → AtDepth (d - 1) c
  depth_child d k t c at deep v s le is = deep (k ∷ v) s (omega (arith, le)) (rw at is)

  -- an edit that keeps it at its node keeps it in the tree
  pub depth_edit : (f : LabelTree → LabelTree) → ((d : ℕ) (s : LabelTree) → AtDepth d s → AtDepth d (f s)) → (v : List ℕ) (d : ℕ) (t : LabelTree) → AtDepth d t → AtDepth d (edit_at v f t)
  depth_edit f each [] d t deep q x le at = each d t deep q x le at
  depth_edit f each (k ∷ v) d t deep [] x le at =
      let same : edit_at (k ∷ v) f t ≡ x = cc in
      subst (λ (z : LabelTree). M z.label) same (deep [] t le refl)
  depth_edit f each (k ∷ v) d t deep (m ∷ q) x le at = elim (cases_order m k) [
    | inl same ↦
        elim (tree_of t.below k) as (λ o. tree_of t.below k ≡ o → option_and_then (node_at q) (option_map (edit_at v f) o) ≡ Some x → M x.label) [
          | None ↦ λ e is. cc
          | Some c ↦ λ e is. depth_edit f each v (d - 1) c (depth_child d k t c e deep) q x (omega (arith, le)) is
        ] refl (ap (option_and_then (node_at q)) (sym (tree_of-edit_tree (edit_at v f) t.below k)) ∙ rw same at at)
    | inr (inl less) ↦ deep (m ∷ q) x le (ap (option_and_then (node_at q)) (sym (tree_of-edit_tree_other (edit_at v f) t.below k m (λ e. omega arith))) ∙ at)
    | inr (inr above) ↦ deep (m ∷ q) x le (ap (option_and_then (node_at q)) (sym (tree_of-edit_tree_other (edit_at v f) t.below k m (λ e. omega arith))) ∙ at)
  ]

  -- an atom more
  pub depth_class : (a : ℕ) → ((l : List ℕ) → M l → M (with_class a l)) → (d : ℕ) (s : LabelTree) → AtDepth d s → AtDepth d (add_class a s)
  depth_class a keeps d s deep [] x le at =
      let same : add_class a s ≡ x = cc in
      subst (λ (z : LabelTree). M z.label) same (keeps s.label (deep [] s le refl))
  depth_class a keeps d s deep (m ∷ q) x le at = deep (m ∷ q) x le at

  -- a child more, of which it holds everywhere
  pub depth_insert : (k : ℕ) (y : LabelTree) → AtDepth 0 y → (d : ℕ) (s : LabelTree) → AtDepth d s → AtDepth d (insert_child k y s)
  depth_insert k y new d s deep [] x le at =
      let same : insert_child k y s ≡ x = cc in
      subst (λ (z : LabelTree). M z.label) same (deep [] s le refl)
  depth_insert k y new d s deep (m ∷ q) x le at =
      elim (tree_of (insert_tree s.below k y) m) as (λ o. tree_of (insert_tree s.below k y) m ≡ o → option_and_then (node_at q) o ≡ Some x → M x.label) [
        | None ↦ λ e is. cc
        | Some z ↦ λ e is. elim (insert_cases s.below k y m z e) [
          | inl same ↦ new q x (omega arith) (ap (node_at q) same ∙ is)
          | inr (j, old) ↦ deep (j ∷ q) x (omega (arith, le)) (rw old is)
        ]
      ] refl at

  -- a subtree from that depth
  pub depth_subtree : (d : ℕ) (w : List ℕ) (t s : LabelTree) → d ≤ length w → node_at w t ≡ Some s → AtDepth d t → AtDepth 0 s
  depth_subtree d w t s deeper at deep q x le is =
      let long = length-append w q in
      deep (w ++ q) x (omega (arith, deeper, long)) (node_at-append w q t ∙ ap (option_and_then (node_at q)) at ∙ is)

  -- a smaller tree
  pub depth_within : ((l m : List ℕ) → All (Contains m) l → M m → M l) → (d : ℕ) (t u : LabelTree) → IsWithin u t → AtDepth d t → AtDepth d u
  depth_within less d t u within deep v s le at =
      let of = carried v u t within (rw at refl) in
      let found = image_node u t v of.0 of.1 s at in
      let same = of.1.same_length in
      less s.label found.0.label found.2.0 (deep of.0 found.0 (omega (arith, le, same)) found.1)

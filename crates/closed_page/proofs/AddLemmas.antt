-- Classes added at one node.
use Rattle.std.proofs.Common.{◌≡◌, ◌≢◌, ◌↔◌, ℕ, List, [], ◌∷◌, Some, None, option_map, IsSome, refl, sym, ap, ◌∙◌}
use Rattle.tp_base.specs.Classes.{union_of}
use Rattle.tree_sem.specs.Trees.{LabelTree, node_at, label_at, children_at, edit_at, add_class}
use Rattle.tree_sem.specs.Actions.{add_classes}
use Rattle.tree_sem.proofs.EditLemmas.{node_at-edit_at, edit_at-edit_at, edit_at-same, label_at-add_class_other, children_at-add_classes}

pub label_at-add_classes : (p classes : List ℕ) (t : LabelTree) → label_at p (edit_at p (add_classes classes) t) ≡ option_map (λ l. union_of l classes) (label_at p t)
label_at-add_classes p classes t =
    rw (node_at-edit_at p (add_classes classes) t)
    (elim (node_at p t) as (λ o. option_map (λ (n : LabelTree). n.label) (option_map (add_classes classes) o) ≡ option_map (λ l. union_of l classes) (option_map (λ n. n.label) o)) [ None ↦ refl | Some s ↦ refl ])

pub label_at-add_classes_other : (p q classes : List ℕ) (t : LabelTree) → q ≢ p → label_at q (edit_at p (add_classes classes) t) ≡ label_at q t
label_at-add_classes_other p q [] t other = ap (label_at q) (edit_at-same p (add_classes []) t (λ s at. refl))
label_at-add_classes_other p q (c ∷ classes) t other =
    ap (label_at q) (sym (edit_at-edit_at p (add_classes classes) (add_class c) t))
    ∙ label_at-add_classes_other p q classes (edit_at p (add_class c) t) other
    ∙ label_at-add_class_other p q c t other

children_node : (q : List ℕ) (t u : LabelTree) → children_at q u ≡ children_at q t → IsSome (node_at q u) → IsSome (node_at q t)
children_node q t u same is = elim (node_at q t) as (λ o. node_at q t ≡ o → IsSome o) [
  | Some s ↦ λ e. refl
  | None ↦ λ e.
      elim (node_at q u) as (λ o. node_at q u ≡ o → IsSome o → IsSome {T = LabelTree} None) [
        | None ↦ λ e' h. h
        | Some s ↦ λ e' h. let never = sym (ap (option_map (λ (n : LabelTree). Rattle.tree_sem.specs.Trees.length_of n.below)) e') ∙ same ∙ ap (option_map (λ (n : LabelTree). Rattle.tree_sem.specs.Trees.length_of n.below)) e in cc
      ] refl is
] refl

pub IsSome-add_classes : (p q classes : List ℕ) (t : LabelTree) → IsSome (node_at q (edit_at p (add_classes classes) t)) ↔ IsSome (node_at q t)
IsSome-add_classes p q classes t =
    let same = children_at-add_classes p q classes t in
    (children_node q t (edit_at p (add_classes classes) t) same, children_node q (edit_at p (add_classes classes) t) t (sym same))

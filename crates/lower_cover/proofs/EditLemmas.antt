-- What edits make of a page is within what legal steps make of it, up to asked atoms.
use Rattle.std.proofs.Common.{◌≡◌, ℕ, List, [], Some, option_map, Contains, refl, sym, ap, ◌∙◌, subst, inl, inr}
use Rattle.std.proofs.lemmas.List.Elements.{All-contains, All-contains_itself}
use Rattle.tp_base.specs.Classes.{with_class, cut_to}
use Rattle.tp_base.proofs.ClassLemmas.{Contains-with_class, Contains-cut_to}
use Rattle.tp_base.proofs.Rising.{All-from_Contains}
use Rattle.tree_sem.specs.Cuts.{take_class, cut_at}
use Rattle.tree_sem.specs.Embedding.{IsWithin, IsImage, IsEmbedding}
use Rattle.tree_sem.specs.Nodes.{IsNode}
use Rattle.tree_sem.specs.Trees.{no_nodes, node, LabelTree, leaf, tree_of, length_of, push_tree, edit_at, add_class, add_tree}
use Rattle.tree_sem.specs.declared.actions.Step.{Step}
use Rattle.tree_sem.proofs.BothLemmas.{push_cases}
use Rattle.tree_sem.proofs.EditLemmas.{tree_of-push_tree}
use Rattle.tree_sem.proofs.EmbeddingLemmas.{image_of}
use Rattle.tree_sem.proofs.GrowthLemmas.{pushed_stays}
use Rattle.tree_sem.proofs.ImageLemmas.{IsNode-image, image_grows, edit_image}
use Rattle.tree_sem.proofs.LossLemmas.{taken_within, cut_within}
use Rattle.tree_sem.proofs.WithinLemmas.{within_itself, within_both, within_at, are_within_each, carried, image_node}
use Rattle.sel_core.specs.Selectors.{Matches}
use Rattle.sel_text.specs.Selectors.{Selector}
use Rattle.jq_stmts.specs.Statements.{Statement}
use Rattle.jq_sem.specs.Reachability.{end_of, AreLegal, Reaches}
use Rattle.jq_sem.proofs.KeptLemmas.{match_kept}
use Rattle.lower_cover.specs.Edits.{insert_tree, insert_child, Edit, gets_other, gets_given, gets_child, gets_copy, loses_atom, goes, Edits, begin, more, ReachesByEdits}
use Rattle.lower_cover.specs.Outputs.{AsksOnly, IsAllowed}
use Rattle.lower_cover.proofs.AskedLemmas.{asked_row, asked_tree, tree_of-asked, asked_at, IsNode-asked, asked_within, asked_less, Matches-asked, embedding_asked, edit_asked}
use Rattle.lower_cover.proofs.BuildLemmas.{AreMakeable, over, build_row}
use Rattle.lower_cover.proofs.DepthLemmas.{depth_subtree}
use Rattle.lower_cover.proofs.MoveLemmas.{leaf_makeable, tree_makeable, all_made}
use Rattle.lower_cover.proofs.RowCases.{insert_cases}
use Rattle.lower_cover.proofs.StepLemmas.{IsReached, Grown, give}

module _ (asked : List ℕ) where
  -- an atom that is given, and one that isn't asked for
  add_asked : (a : ℕ) (s : LabelTree) → IsWithin (asked_tree asked (add_class a s)) (add_class a (asked_tree asked s))
  add_asked a s = (
    All-from_Contains (Contains (with_class a (cut_to asked s.label))) (cut_to asked (with_class a s.label)) (λ b is.
        let both = (Contains-cut_to asked (with_class a s.label) b).0 is in
        (Contains-with_class a (cut_to asked s.label) b).1 (elim ((Contains-with_class a s.label b).0 both.1) [
          | inl new ↦ inl new
          | inr old ↦ inr ((Contains-cut_to asked s.label b).1 (both.0, old))
        ])),
    (within_itself (asked_tree asked s)).1,
  )

  other_asked : (a : ℕ) → (¬ Contains asked a) → (s : LabelTree) → IsWithin (asked_tree asked (add_class a s)) (asked_tree asked s)
  other_asked a not s = (
    All-from_Contains (Contains (cut_to asked s.label)) (cut_to asked (with_class a s.label)) (λ b is.
        let both = (Contains-cut_to asked (with_class a s.label) b).0 is in
        elim ((Contains-with_class a s.label b).0 both.1) [
          | inl new ↦ absurd (not (subst (Contains asked) new both.0))
          | inr old ↦ (Contains-cut_to asked s.label b).1 (both.0, old)
        ]),
    (within_itself (asked_tree asked s)).1,
  )

  -- a child at any place, and one that is last
  insert_asked : (k : ℕ) (y s : LabelTree) → IsWithin (asked_tree asked (insert_child k y s)) (add_tree (asked_tree asked y) (asked_tree asked s))
  insert_asked k y s = (
    All-contains_itself (cut_to asked s.label),
    are_within_each (asked_row asked (insert_tree s.below k y)) (push_tree (asked_row asked s.below) (asked_tree asked y)) (λ m z at.
        let of = asked_at asked (insert_tree s.below k y) m z at in
        elim (insert_cases s.below k y m of.0 of.1) [
          | inl same ↦
              let same' : asked_tree asked y ≡ z = ap (asked_tree asked) same ∙ of.2 in
              (length_of (asked_row asked s.below), asked_tree asked y, tree_of-push_tree (asked_row asked s.below) (asked_tree asked y), subst (λ (x : LabelTree). IsWithin x (asked_tree asked y)) same' (within_itself (asked_tree asked y)))
          | inr (j, old) ↦
              let there : tree_of (asked_row asked s.below) j ≡ Some z = tree_of-asked asked s.below j ∙ ap (option_map (asked_tree asked)) old ∙ ap Some of.2 in
              (j, z, pushed_stays (asked_row asked s.below) (asked_tree asked y) j z there, within_itself z)
        ]),
  )

  module _ (stmts : List Statement) (page : LabelTree) where
    -- what is asked of t is within a tree that is reached
    pub record Embeds (t : LabelTree) : Type 0 where
      pub tree : LabelTree
      pub reached : IsReached stmts page tree
      pub within : IsWithin (asked_tree asked t) tree

    -- what becomes smaller is so still
    smaller : (t u : LabelTree) → IsWithin u t → Embeds t → Embeds u
    smaller t u within e = record {
      tree = e.tree;
      reached = e.reached;
      within = within_both (asked_tree asked u) (asked_tree asked t) e.tree (asked_within asked u t within) e.within;
    }

    -- an edit of a node whose image has what is new
    edited : (f g : LabelTree → LabelTree) → ((s : LabelTree) → IsWithin (asked_tree asked (f s)) (g (asked_tree asked s))) → (v w : List ℕ) (t u : LabelTree) → IsImage (asked_tree asked t) u v w
        → (Q : LabelTree → Type 0) → Grown stmts page u w Q → ((s x : LabelTree) → IsWithin s x → Q x → IsWithin (g s) x) → Embeds (edit_at v f t)
    edited f g each v w t u image Q grown fits = record {
      tree = grown.tree;
      reached = grown.reached;
      within =
          let image' = image_grows (asked_tree asked t) u v w image grown.tree grown.grows in
          within_both (asked_tree asked (edit_at v f t)) (edit_at v g (asked_tree asked t)) grown.tree
          (edit_asked asked f g each v t)
          (edit_image g v w (asked_tree asked t) grown.tree image' (λ s x at at'.
          let found = image_node (asked_tree asked t) grown.tree v w image' s at in
          let same : found.0 ≡ x = cc in
          let same' : grown.node ≡ x = cc in
          fits s x (subst (λ (z : LabelTree). IsWithin s z) same found.2) (subst Q same' grown.holds)));
    }

    embeds_other : (t : LabelTree) (v : List ℕ) (a : ℕ) → IsNode t v → (¬ Contains asked a) → Embeds t → Embeds (edit_at v (add_class a) t)
    embeds_other t v a is not e =
        let of = carried v (asked_tree asked t) e.tree e.within (IsNode-asked asked v t is) in
        record {
          tree = e.tree;
          reached = e.reached;
          within =
              within_both (asked_tree asked (edit_at v (add_class a) t)) (edit_at v (λ s. s) (asked_tree asked t)) e.tree
              (edit_asked asked (add_class a) (λ s. s) (other_asked a not) v t)
              (edit_image (λ s. s) v of.0 (asked_tree asked t) e.tree of.1 (λ s x at at'.
              let found = image_node (asked_tree asked t) e.tree v of.0 of.1 s at in
              let same : found.0 ≡ x = cc in
              subst (λ (z : LabelTree). IsWithin s z) same found.2));
        }

    -- a child with all below it
    embeds_tree : (t : LabelTree) (v : List ℕ) (k : ℕ) (s : LabelTree) → IsNode t v → AreMakeable stmts (node (cut_to asked s.label) (asked_row asked s.below) no_nodes) → Embeds t → Embeds (edit_at v (insert_child k s) t)
    embeds_tree t v k s is makeable e =
        let of = carried v (asked_tree asked t) e.tree e.within (IsNode-asked asked v t is) in
        let y : LabelTree = asked_tree asked s in
        let row = node y.label y.below no_nodes in
        let grown = build_row stmts page row makeable e.tree of.0 e.reached (IsNode-image (asked_tree asked t) e.tree v of.0 of.1) in
        edited (insert_child k s) (add_tree y) (insert_asked k s) v of.0 t e.tree of.1 (λ x. IsWithin (over stmts row) x) grown (λ s' x within new. (
          within.0,
          are_within_each (push_tree s'.below y) x.below (λ j z at'. elim (push_cases s'.below y j z at') [
            | inl old ↦ within_at s'.below x.below within.1 j z old
            | inr same ↦ within_at row x.below new.1 0 z (ap Some same)
          ]),
        ))

    embeds_edit : (t u : LabelTree) → Edits asked stmts page t → Edit asked stmts page t u → Embeds t → Embeds u
    embeds_edit _ _ edits (gets_other t v a is not) e = embeds_other t v a is not e
    embeds_edit _ _ edits (gets_given t v a is given) e =
        let of = carried v (asked_tree asked t) e.tree e.within (IsNode-asked asked v t is) in
        let grown = give stmts page e.tree of.0 a e.reached (IsNode-image (asked_tree asked t) e.tree v of.0 of.1) given in
        edited (add_class a) (add_class a) (add_asked a) v of.0 t e.tree of.1 (λ x. Contains x.label a) grown (λ s x within has. (
          All-from_Contains (Contains x.label) (with_class a s.label) (λ b is'. elim ((Contains-with_class a s.label b).0 is') [
            | inl new ↦ subst (Contains x.label) (sym new) has
            | inr old ↦ All-contains (Contains x.label) s.label b within.0 old
          ]),
          within.1,
        ))
    embeds_edit _ _ edits (gets_child t v k l is made) e = embeds_tree t v k (leaf l) is (leaf_makeable asked stmts l made) e
    embeds_edit _ _ edits (gets_copy t v w k s is at deeper hold) e =
        embeds_tree t v k s is (tree_makeable asked stmts page hold s (depth_subtree (IsAllowed asked stmts) 2 w t s deeper at (all_made asked stmts page hold t edits))) e
    embeds_edit _ _ edits (loses_atom t v a is) e = smaller t (edit_at v (take_class a) t) (taken_within v a t is) e
    embeds_edit _ _ edits (goes t v is below) e = smaller t (cut_at v t) (cut_within v t is) e

    pub embeds : (t : LabelTree) → Edits asked stmts page t → Embeds t
    embeds _ begin = record { tree = page; reached = ([], tt, refl); within = asked_less asked page }
    embeds _ (more t u edits edit) = embeds_edit t u edits edit (embeds t edits)

    pub edits_embed : (t : LabelTree) → Edits asked stmts page t
        → (steps : List Step) × AreLegal page stmts steps × (image : List ℕ → List ℕ) × IsEmbedding (Contains asked) t (end_of page stmts steps) image
    edits_embed t edits =
        let e = embeds t edits in
        let within : IsWithin (asked_tree asked t) (end_of page stmts e.reached.0) = subst (λ (z : LabelTree). IsWithin (asked_tree asked t) z) (sym e.reached.2) e.within in
        (e.reached.0, e.reached.1, (λ v. image_of v (asked_tree asked t) (end_of page stmts e.reached.0) within), embedding_asked asked t (end_of page stmts e.reached.0) within)

    pub edits_reach : (s : Selector) → AsksOnly asked s → ReachesByEdits asked stmts page s → Reaches page stmts s
    edits_reach s only (t, edits, v, matches) =
        let e = embeds t edits in
        let kept = (match_kept (asked_tree asked t) e.tree s).within e.within v (Matches-asked asked t v s only matches) in
        (e.reached.0, e.reached.1, kept.0, subst (λ (z : LabelTree). Matches z kept.0 s) (sym e.reached.2) kept.2)

-- Images of nodes in larger trees.
use Rattle.std.proofs.Common.{◌≡◌, ℕ, zero, suc, List, [], ◌∷◌, take, Option, Some, None, option_map, option_and_then, Contains, refl, sym, ◌∙◌, subst, inl, inr, arith}
use Rattle.std.proofs.lemmas.Bool.{cases_order}
use Rattle.std.proofs.lemmas.List.Elements.{All-contains}
use Rattle.tree_sem.specs.Trees.{LabelTree, tree_of, edit_tree, node_at, edit_at}
use Rattle.tree_sem.specs.Nodes.{IsNode, HasAtom}
use Rattle.tree_sem.specs.Embedding.{IsWithin, IsImage}
use Rattle.tree_sem.specs.Growth.{Grows}
use Rattle.tree_sem.proofs.RowLemmas.{there}
use Rattle.tree_sem.proofs.EditLemmas.{tree_of-edit_tree, tree_of-edit_tree_other}
use Rattle.tree_sem.proofs.WithinLemmas.{within_itself, within_both, within_at, are_within_each, image_node}
use Rattle.tree_sem.proofs.GrowthLemmas.{grows_at}

module _ (t u : LabelTree) (v w : List ℕ) (image : IsImage t u v w) where
  -- the whole tree is within the whole tree
  pub image_whole : IsWithin t u
  image_whole =
      let found = image.levels zero (omega arith) t refl in
      let same : u ≡ found.0 = cc in
      subst (λ (z : LabelTree). IsWithin t z) (sym same) found.2

  pub IsNode-image : IsNode u w
  IsNode-image =
      let at = there (node_at v t) image.is_node in
      let found = image_node t u v w image at.0 at.1 in
      rw found.1 refl

  pub HasAtom-image : (a : ℕ) → HasAtom t v a → HasAtom u w a
  HasAtom-image a has =
      let at = there (node_at v t) image.is_node in
      let found = image_node t u v w image at.0 at.1 in
      let has' : Contains at.0.label a = rw at.1 at has in
      rw found.1 (All-contains (Contains found.0.label) at.0.label a found.2.0 has')

  -- an image goes on being one
  pub image_grows : (u' : LabelTree) → Grows u u' → IsImage t u' v w
  image_grows u' grows = record {
    is_node = image.is_node;
    same_length = image.same_length;
    levels = λ m le s at.
        let first = image.levels m le s at in
        let second = grows_at u u' grows (take m w) first.0 first.1 in
        (second.0, second.1, within_both s first.0 second.0 first.2 second.2);
  }

pub image_itself : (t : LabelTree) (v : List ℕ) → IsNode t v → IsImage t t v v
image_itself t v is = record { is_node = is; same_length = refl; levels = λ m le s at. (s, at, within_itself s) }

-- the image in a child
image_inside : (t u c d : LabelTree) (k l : ℕ) (v w : List ℕ) → tree_of t.below k ≡ Some c → tree_of u.below l ≡ Some d → IsImage t u (k ∷ v) (l ∷ w) → IsImage c d v w
image_inside t u c d k l v w at at' image = record {
  is_node = rw at at image.is_node;
  same_length = let same = image.same_length in omega arith;
  levels = λ m le s is.
      let found = image.levels (suc m) (omega (arith, le)) s (rw at is) in
      (found.0, rw at' at found.1, found.2);
}

pub one_down : (l : ℕ) (o : Option LabelTree) (x : LabelTree) → option_and_then (node_at []) o ≡ Some x → o ≡ Some x
one_down l None x is = cc
one_down l (Some y) x is = is

-- an edit at a node is within u where the edited node is within its image
pub edit_image : (f : LabelTree → LabelTree) (v w : List ℕ) (t u : LabelTree) → IsImage t u v w
    → ((s x : LabelTree) → node_at v t ≡ Some s → node_at w u ≡ Some x → IsWithin (f s) x) → IsWithin (edit_at v f t) u
edit_image f [] [] t u image fits = fits t u refl refl
edit_image f [] (l ∷ w) t u image fits = let same = image.same_length in absurd (omega arith)
edit_image f (k ∷ v) [] t u image fits = let same = image.same_length in absurd (omega arith)
edit_image f (k ∷ v) (l ∷ w) t u image fits =
    let within = image_whole t u (k ∷ v) (l ∷ w) image in (
      within.0,
      are_within_each (edit_tree (edit_at v f) t.below k) u.below (λ j y at. elim (cases_order j k) [
        | inl same ↦
            let at' : option_map (edit_at v f) (tree_of t.below k) ≡ Some y = sym (tree_of-edit_tree (edit_at v f) t.below k) ∙ rw same at at in
            elim (tree_of t.below k) as (λ o. tree_of t.below k ≡ o → option_map (edit_at v f) o ≡ Some y → (m : ℕ) × (x : LabelTree) × (tree_of u.below m ≡ Some x) × IsWithin y x) [
              | None ↦ λ e is. cc
              | Some c ↦ λ e is.
                  let level = image.levels 1 (omega arith) c (rw e refl) in
                  let child = one_down l (tree_of u.below l) level.0 level.1 in
                  let edited = edit_image f v w c level.0 (image_inside t u c level.0 k l v w e child image) (λ s x here there. fits s x (rw e here) (rw child there)) in
                  let same' : edit_at v f c ≡ y = cc in
                  (l, level.0, child, subst (λ (z : LabelTree). IsWithin z level.0) same' edited)
            ] refl at'
        | inr (inl less) ↦ within_at t.below u.below within.1 j y (sym (tree_of-edit_tree_other (edit_at v f) t.below k j (λ e. omega arith)) ∙ at)
        | inr (inr more) ↦ within_at t.below u.below within.1 j y (sym (tree_of-edit_tree_other (edit_at v f) t.below k j (λ e. omega arith)) ∙ at)
      ]),
    )

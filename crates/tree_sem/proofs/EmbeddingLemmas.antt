-- The map that takes each node of a tree to an image.
use Rattle.std.proofs.Common.{◌≡◌, ℕ, zero, suc, ◌≤◌, List, [], ◌∷◌, ◌++◌, length, take, Option, Some, None, option_and_then, IsSome, refl, ap, subst, arith}
use Rattle.tree_sem.specs.Trees.{LabelTree, tree_of, node_at}
use Rattle.tree_sem.specs.Nodes.{IsNode}
use Rattle.tree_sem.specs.Embedding.{IsWithin, IsImage, IsEmbedding}
use Rattle.tree_sem.proofs.NodeLemmas.{HasAtom-node}
use Rattle.tree_sem.proofs.WithinLemmas.{within_at}
use Rattle.tree_sem.proofs.ImageLemmas.{IsNode-image, HasAtom-image}

-- the image of a path from the child k on, by that of the rest
abbrev image_below : ((s x : LabelTree) → IsWithin s x → List ℕ) → (k : ℕ) (t u : LabelTree) → IsWithin t u → (o : Option LabelTree) → tree_of t.below k ≡ o → List ℕ
image_below f k t u within None at = []
image_below f k t u within (Some s) at = let there = within_at t.below u.below within.1 k s at in there.0 ∷ f s there.1 there.3

-- the image of a path, where the tree is within another
abbrev pub image_of : List ℕ → (t u : LabelTree) → IsWithin t u → List ℕ
image_of [] t u within = []
image_of (k ∷ v) t u within = image_below (image_of v) k t u within (tree_of t.below k) refl

image_level : (m k l : ℕ) (v q : List ℕ) (t u s x : LabelTree) → IsWithin t u → tree_of t.below k ≡ Some s → tree_of u.below l ≡ Some x → IsImage s x v q
    → m ≤ suc (length v) → (y : LabelTree) → node_at (take m (k ∷ v)) t ≡ Some y → (z : LabelTree) × (node_at (take m (l ∷ q)) u ≡ Some z) × IsWithin y z
image_level zero k l v q t u s x w at at' inner le y is = let same : t ≡ y = cc in (u, refl, subst (λ (z : LabelTree). IsWithin z u) same w)
image_level (suc m) k l v q t u s x w at at' inner le y is =
    let found = inner.levels m (omega arith) y (rw at at is) in (found.0, rw at' found.1, found.2)

root_level : (m : ℕ) (t u s : LabelTree) → IsWithin t u → node_at (take m []) t ≡ Some s → (x : LabelTree) × (node_at (take m []) u ≡ Some x) × IsWithin s x
root_level zero t u s w at = let same : t ≡ s = cc in (u, refl, subst (λ (z : LabelTree). IsWithin z u) same w)
root_level (suc m) t u s w at = let same : t ≡ s = cc in (u, refl, subst (λ (z : LabelTree). IsWithin z u) same w)

image_is_below : (f : (s x : LabelTree) → IsWithin s x → List ℕ) (v : List ℕ) → ((s x : LabelTree) (w : IsWithin s x) → IsNode s v → IsImage s x v (f s x w))
    → (k : ℕ) (t u : LabelTree) (within : IsWithin t u) (o : Option LabelTree) (at : tree_of t.below k ≡ o) → IsSome (option_and_then (node_at v) o)
    → IsImage t u (k ∷ v) (image_below f k t u within o at)
image_is_below f v are k t u within None at is = cc
image_is_below f v are k t u within (Some s) at is =
    let there = within_at t.below u.below within.1 k s at in
    let inner = are s there.1 there.3 is in
    record { is_node = rw at is; same_length = ap suc inner.same_length; levels = λ m le y here. image_level m k there.0 v (f s there.1 there.3) t u s there.1 within at there.2 inner le y here }

pub image_is : (v : List ℕ) (t u : LabelTree) (within : IsWithin t u) → IsNode t v → IsImage t u v (image_of v t u within)
image_is [] t u within is = record { is_node = is; same_length = refl; levels = λ m le s at. root_level m t u s within at }
image_is (k ∷ v) t u within is = image_is_below (image_of v) v (image_is v) k t u within (tree_of t.below k) refl is

image_child_below : (f g : (s x : LabelTree) → IsWithin s x → List ℕ) (v : List ℕ) → ((s x : LabelTree) (w : IsWithin s x) → IsNode s v → (l : ℕ) × (f s x w ≡ g s x w ++ l ∷ []))
    → (m : ℕ) (t u : LabelTree) (within : IsWithin t u) (o : Option LabelTree) (at : tree_of t.below m ≡ o) → IsSome (option_and_then (node_at v) o)
    → (l : ℕ) × (image_below f m t u within o at ≡ image_below g m t u within o at ++ l ∷ [])
image_child_below f g v are m t u within None at is = cc
image_child_below f g v are m t u within (Some s) at is =
    let there = within_at t.below u.below within.1 m s at in
    let inner = are s there.1 there.3 is in
    (inner.0, ap (λ z. there.0 ∷ z) inner.1)

image_child_root : (k : ℕ) (t u : LabelTree) (within : IsWithin t u) (o : Option LabelTree) (at : tree_of t.below k ≡ o) → IsSome (option_and_then (node_at []) o)
    → (l : ℕ) × (image_below (image_of []) k t u within o at ≡ l ∷ [])
image_child_root k t u within None at is = cc
image_child_root k t u within (Some s) at is = ((within_at t.below u.below within.1 k s at).0, refl)

-- a child's image is a child of the image
pub image_child_is : (v : List ℕ) (k : ℕ) (t u : LabelTree) (within : IsWithin t u) → IsNode t (v ++ k ∷ []) → (l : ℕ) × (image_of (v ++ k ∷ []) t u within ≡ image_of v t u within ++ l ∷ [])
image_child_is [] k t u within is = image_child_root k t u within (tree_of t.below k) refl is
image_child_is (m ∷ v) k t u within is = image_child_below (image_of (v ++ k ∷ [])) (image_of v) (v ++ k ∷ []) (λ s x w is'. image_child_is v k s x w is') m t u within (tree_of t.below m) refl is

-- the map is an embedding, which keeps all atoms
pub embedding_of : (P : ℕ → Type 0) (t u : LabelTree) (within : IsWithin t u) → IsEmbedding P t u (λ v. image_of v t u within)
embedding_of P t u within = record {
  root = refl;
  child = λ v k is. image_child_is v k t u within is;
  node = λ v is. IsNode-image t u v (image_of v t u within) (image_is v t u within is);
  atoms = λ v a of has. HasAtom-image t u v (image_of v t u within) (image_is v t u within (HasAtom-node t v a has)) a has;
}

-- What holds, holds at a node, and goes on holding in a larger tree.
use Rattle.std.proofs.Common.{◌≡◌, ℕ, suc, ◌+◌, List, [], ◌∷◌, ◌++◌, length, take, refl, ap, ◌∙◌, subst, inl, inr, arith, length-append}
use Rattle.std.proofs.lemmas.List.{take-append-le}
use Rattle.std.proofs.Math.Seq.{take-length}
use Rattle.tree_sem.specs.Trees.{LabelTree}
use Rattle.tree_sem.specs.Nodes.{IsNode}
use Rattle.tree_sem.specs.Embedding.{IsImage}
use Rattle.tree_sem.specs.Growth.{Grows}
use Rattle.tree_sem.proofs.BothLemmas.{last_of}
use Rattle.tree_sem.proofs.GrowthLemmas.{grows_image}
use Rattle.tree_sem.proofs.ImageLemmas.{image_whole, IsNode-image, HasAtom-image}
use Rattle.tree_sem.proofs.NodeLemmas.{HasAtom-node, IsNode-front}
use Rattle.tree_sem.proofs.WithinLemmas.{carried, image_above, image_below}
use Rattle.guard_sem.specs.Guards.{Guard, always, atom, all, any, parent, ancestor, child, descendant, somewhere, Guards, no_guards, guard}
use Rattle.guard_sem.specs.Holding.{Holds, HoldAll, HoldsOne}

mutual
  pub Holds-node : (t : LabelTree) (g : Guard) (v : List ℕ) → Holds t v g → IsNode t v
  Holds-node t always v h = h
  Holds-node t (atom a) v h = HasAtom-node t v a h
  Holds-node t (all gs) v h = h.0
  Holds-node t (any gs) v h = HoldsOne-node t gs v h
  Holds-node t (parent g) v h = h.0
  Holds-node t (ancestor g) v h = h.0
  Holds-node t (child g) v h = IsNode-front t v (h.0 ∷ []) (Holds-node t g (v ++ h.0 ∷ []) h.1)
  Holds-node t (descendant g) v h = IsNode-front t v (h.0 ∷ h.1) (Holds-node t g (v ++ h.0 ∷ h.1) h.2)
  Holds-node t (somewhere g) v h = h.0

  HoldsOne-node : (t : LabelTree) (gs : Guards) (v : List ℕ) → HoldsOne t v gs → IsNode t v
  HoldsOne-node t no_guards v h = absurd h
  HoldsOne-node t (guard g gs) v h = elim h [ inl one ↦ Holds-node t g v one | inr other ↦ HoldsOne-node t gs v other ]

-- a path with a number more, of a given length, ends in one number
one_more : (w q : List ℕ) (n : ℕ) → length (w ++ q) ≡ suc n → length w ≡ n → (l : ℕ) × (q ≡ l ∷ [])
one_more w [] n long here = let both = length-append w [] in absurd (omega arith)
one_more w (l ∷ []) n long here = (l, refl)
one_more w (l ∷ k ∷ q) n long here = let both = length-append w (l ∷ k ∷ q) in absurd (omega arith)

some_more : (w q : List ℕ) (n m : ℕ) → length (w ++ q) ≡ suc (n + m) → length w ≡ n → (l : ℕ) × (r : List ℕ) × (q ≡ l ∷ r)
some_more w [] n m long here = let both = length-append w [] in absurd (omega arith)
some_more w (l ∷ r) n m long here = (l, r, refl)

mutual
  -- a guard that holds at a node holds at its image
  pub holds_image : (t u : LabelTree) (g : Guard) (v w : List ℕ) → IsImage t u v w → Holds t v g → Holds u w g
  holds_image t u always v w image h = IsNode-image t u v w image
  holds_image t u (atom a) v w image h = HasAtom-image t u v w image a h
  holds_image t u (all gs) v w image h = (IsNode-image t u v w image, HoldAll-image t u gs v w image h.1)
  holds_image t u (any gs) v w image h = HoldsOne-image t u gs v w image h
  holds_image t u (parent g) v w image h =
      let long = length-append h.2 (h.1 ∷ []) in
      let long' : length v ≡ length (h.2 ++ h.1 ∷ []) = ap length h.3 in
      let same = image.same_length in
      let last = last_of w (length h.2) (omega arith) in
      let above : take (length h.2) v ≡ h.2 = ap (take (length h.2)) h.3 ∙ take-append-le (length h.2) h.2 (h.1 ∷ []) (omega arith) ∙ take-length h.2 in (
        IsNode-image t u v w image,
        last.0,
        take (length h.2) w,
        last.1,
        holds_image t u g h.2 (take (length h.2) w) (subst (λ z. IsImage t u z (take (length h.2) w)) {y = h.2} above (image_above t u v w image (length h.2) (omega arith))) h.4,
      )
  holds_image t u (ancestor g) v w image h =
      let same = image.same_length in
      (IsNode-image t u v w image, h.1, omega (arith, h.2), holds_image t u g (take h.1 v) (take h.1 w) (image_above t u v w image h.1 (omega (arith, h.2))) h.3)
  holds_image t u (child g) v w image h =
      let below = image_below (h.0 ∷ []) v w t u image (Holds-node t g (v ++ h.0 ∷ []) h.1) in
      let long = length-append v (h.0 ∷ []) in
      let same = image.same_length in
      let same' = below.1.same_length in
      let step = one_more w below.0 (length v) (omega arith) (omega arith) in
      (step.0, holds_image t u g (v ++ h.0 ∷ []) (w ++ step.0 ∷ []) (subst (λ z. IsImage t u (v ++ h.0 ∷ []) (w ++ z)) step.1 below.1) h.1)
  holds_image t u (descendant g) v w image h =
      let below = image_below (h.0 ∷ h.1) v w t u image (Holds-node t g (v ++ h.0 ∷ h.1) h.2) in
      let long = length-append v (h.0 ∷ h.1) in
      let same = image.same_length in
      let same' = below.1.same_length in
      let step = some_more w below.0 (length v) (length h.1) (omega arith) (omega arith) in
      (step.0, step.1, holds_image t u g (v ++ h.0 ∷ h.1) (w ++ step.0 ∷ step.1) (subst (λ z. IsImage t u (v ++ h.0 ∷ h.1) (w ++ z)) step.2 below.1) h.2)
  holds_image t u (somewhere g) v w image h =
      let found = carried h.1 t u (image_whole t u v w image) (Holds-node t g h.1 h.2) in
      (IsNode-image t u v w image, found.0, holds_image t u g h.1 found.0 found.1 h.2)

  pub HoldAll-image : (t u : LabelTree) (gs : Guards) (v w : List ℕ) → IsImage t u v w → HoldAll t v gs → HoldAll u w gs
  HoldAll-image t u no_guards v w image h = tt
  HoldAll-image t u (guard g gs) v w image h = (holds_image t u g v w image h.0, HoldAll-image t u gs v w image h.1)

  pub HoldsOne-image : (t u : LabelTree) (gs : Guards) (v w : List ℕ) → IsImage t u v w → HoldsOne t v gs → HoldsOne u w gs
  HoldsOne-image t u no_guards v w image h = absurd h
  HoldsOne-image t u (guard g gs) v w image h = elim h [
    | inl one ↦ inl (holds_image t u g v w image one)
    | inr other ↦ inr (HoldsOne-image t u gs v w image other)
  ]

-- what holds, holds in the tree that has grown
pub Holds-grows : (t u : LabelTree) → Grows t u → (g : Guard) (v : List ℕ) → Holds t v g → Holds u v g
Holds-grows t u grows g v h = holds_image t u g v v (grows_image t u grows v (Holds-node t g v h)) h

pub HoldAll-grows : (t u : LabelTree) → Grows t u → (gs : Guards) (v : List ℕ) → IsNode t v → HoldAll t v gs → HoldAll u v gs
HoldAll-grows t u grows gs v is h = HoldAll-image t u gs v v (grows_image t u grows v is) h

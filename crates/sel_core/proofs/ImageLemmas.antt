-- What a selector matches, its images and what grows from it are matched too.
use Rattle.std.proofs.Common.{◌≡◌, ℕ, ◌≤◌, List, [], ◌∷◌, length, take, Some, None, option_map, IsSome, IsSomeAnd, All, Contains, refl, subst, sym, arith}
use Rattle.std.proofs.Math.Seq.{take-length}
use Rattle.tree_sem.specs.Trees.{LabelTree, node_at}
use Rattle.tree_sem.specs.Nodes.{IsNode, HasAtoms}
use Rattle.tree_sem.specs.Embedding.{IsImage}
use Rattle.tree_sem.specs.Growth.{Grows}
use Rattle.tree_sem.proofs.WithinLemmas.{image_fits}
use Rattle.tree_sem.proofs.GrowthLemmas.{grows_image}
use Rattle.tree_sem.proofs.NodeLemmas.{HasAtoms-node}
use Rattle.sel_core.specs.Selectors.{IsAbove, Above, Matches}
use Rattle.sel_text.specs.Selectors.{Join, child, inside, Outer, Selector}

pub HasAtoms-image : (t u : LabelTree) (v w : List ℕ) → IsImage t u v w → (wanted : List ℕ) → HasAtoms t v wanted → HasAtoms u w wanted
HasAtoms-image t u v w image wanted fits =
    let same = image.same_length in
    let whole : take (length v) v ≡ v = take-length v in
    let whole' : take (length v) w ≡ w = subst (λ n. take n w ≡ w) same (take-length w) in
    let fits' : HasAtoms t (take (length v) v) wanted = rw whole fits in
    rw whole' at (image_fits t u v w image (length v) (omega arith) wanted fits')

Above-image : (t u : LabelTree) (v w : List ℕ) → IsImage t u v w → (n : ℕ) → n ≤ length v → (outer : List Outer) → Above t v n outer → Above u w n outer
Above-image t u v w image n within [] above = tt
Above-image t u v w image n within (o ∷ outer) above =
    let higher : above.0 ≤ length v = level o.join above.0 n within above.1 in
    (above.0, above.1, image_fits t u v w image above.0 higher o.atoms above.2, Above-image t u v w image above.0 higher outer above.3)
  where
    level : (j : Join) (m n : ℕ) → n ≤ length v → IsAbove j m n → m ≤ length v
    level child m n within is = omega (arith, is)
    level inside m n within is = omega (arith, is)

-- an image is matched by what matches its node
pub Matches-image : (t u : LabelTree) (v w : List ℕ) → IsImage t u v w → (s : Selector) → Matches t v s → Matches u w s
Matches-image t u v w image s matches =
    (HasAtoms-image t u v w image s.subject matches.0, subst (λ n. Above u w n s.outer) (sym image.same_length) (Above-image t u v w image (length v) (omega arith) s.outer matches.1))

pub HasAtoms-grows : (t u : LabelTree) → Grows t u → (v wanted : List ℕ) → HasAtoms t v wanted → HasAtoms u v wanted
HasAtoms-grows t u grows v wanted fits = HasAtoms-image t u v v (grows_image t u grows v (HasAtoms-node t v wanted fits)) wanted fits

-- what was matched stays so
pub Matches-grows : (t u : LabelTree) → Grows t u → (v : List ℕ) (s : Selector) → Matches t v s → Matches u v s
Matches-grows t u grows v s matches = Matches-image t u v v (grows_image t u grows v (HasAtoms-node t v s.subject matches.0)) s matches

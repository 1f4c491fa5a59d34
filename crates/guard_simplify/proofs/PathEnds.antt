-- The last step of a path, and the path before it.
use Rattle.std.proofs.Common.{◌≡◌, ℕ, zero, suc, ◌-◌, ◌≤◌, ◌<◌, List, [], ◌∷◌, ◌++◌, length, take, Option, Some, None, option_map, unwrap_or, refl, sym, ap, ◌∙◌, arith}
use Rattle.std.specs.Prelude.{slice_get}
use Rattle.tree_sem.specs.Trees.{LabelTree, children_at}
use Rattle.tree_sem.specs.Paths.{parent_of, last_number}
use Rattle.tree_sem.proofs.PathLemmas.{parent_of-child, parent_of-take}
use Rattle.guard_simplify.specs.Auxiliaries.{Place}
use Rattle.guard_simplify.specs.ForestRules.{child_count, kind_among, above_among}

pub last_at : (q : List ℕ) (m k : ℕ) → length q ≡ suc m → slice_get q m ≡ Some k → k ≡ last_number q
last_at [] m k long at = cc
last_at (x ∷ []) zero k long at = let same : x ≡ k = cc in sym same
last_at (x ∷ []) (suc m) k long at = cc
last_at (x ∷ y ∷ q) zero k long at = absurd (omega (arith, long))
last_at (x ∷ y ∷ q) (suc m) k long at = last_at (y ∷ q) m k (omega (arith, long)) at

pub siblings_are : (t : LabelTree) (q up : List ℕ) (k : ℕ) → q ≡ up ++ k ∷ [] → unwrap_or (children_at up t) 0 ≡ unwrap_or (option_map (child_count t) (parent_of q)) 0
siblings_are t q up k whole = ap (λ (o : Option (List ℕ)). unwrap_or (option_map (child_count t) o) 0) (sym (ap parent_of whole ∙ parent_of-child up k))

-- the kind above: none at the top, else that of the path before the last step
pub none_above : (ps : List Place) (i : ℕ) (q : List ℕ) → length q < 2 → None ≡ above_among ps i q
none_above ps i [] short = refl
none_above ps i (k ∷ []) short = refl
none_above ps i (k ∷ l ∷ q) short = absurd (omega (arith, short))

pub some_above : (ps : List Place) (i : ℕ) (q : List ℕ) → 2 ≤ length q → Some (kind_among ps (i, take (length q - 1) q)) ≡ above_among ps i q
some_above ps i [] long = absurd (omega (arith, long))
some_above ps i (k ∷ []) long = absurd (omega (arith, long))
some_above ps i (k ∷ l ∷ q) long = ap (λ (o : Option (List ℕ)). option_map (λ p. kind_among ps (i, p)) o) (sym (parent_of-take (k ∷ l ∷ q) (omega arith)))

-- The parents of nodes, by their paths.
use Rattle.std.proofs.Common.{◌≡◌, ℕ, zero, suc, ◌+◌, ◌-◌, ◌<◌, ◌≤◌, List, [], ◌∷◌, ◌++◌, length, take, drop, Some, None, IsSome, option_map, option_and_then, refl, sym, ap, ◌∙◌, length-take-le, arith}
use Rattle.std.proofs.lemmas.List.{take-append-drop, take_all}
use Rattle.tree_sem.specs.Trees.{LabelTree, node_at}
use Rattle.tree_sem.specs.Paths.{parent_of, last_number}
use Rattle.tree_sem.proofs.RowLemmas.{node_at-append, node_at-child}

pub take_take : (m n : ℕ) (p : List ℕ) → m ≤ n → take m (take n p) ≡ take m p
take_take zero n p le = refl
take_take (suc m) zero p le = absurd (omega arith)
take_take (suc m) (suc n) [] le = refl
take_take (suc m) (suc n) (x ∷ p) le = ap (λ z. x ∷ z) (take_take m n p (omega arith))

pub parent_of-child : (v : List ℕ) (k : ℕ) → parent_of (v ++ k ∷ []) ≡ Some v
parent_of-child [] k = refl
parent_of-child (l ∷ []) k = refl
parent_of-child (l ∷ m ∷ v) k = ap (option_map (λ (p : List ℕ). l ∷ p)) (parent_of-child (m ∷ v) k)

-- the parent's path from a child's
pub same_parent : (q v : List ℕ) (m k : ℕ) → q ++ m ∷ [] ≡ v ++ k ∷ [] → q ≡ v
same_parent q v m k same =
    let both : Some q ≡ Some v = sym (parent_of-child q m) ∙ ap parent_of same ∙ parent_of-child v k in
    cc

pub last_number-child : (p : List ℕ) (k : ℕ) → last_number (p ++ k ∷ []) ≡ k
last_number-child [] k = refl
last_number-child (j ∷ []) k = refl
last_number-child (j ∷ m ∷ p) k = last_number-child (m ∷ p) k

-- only the root has no parent
pub parent_of-none : (v : List ℕ) → parent_of v ≡ None → v ≡ []
parent_of-none [] none = refl
parent_of-none (k ∷ []) none = cc
parent_of-none (k ∷ l ∷ v) none = elim (parent_of (l ∷ v)) as (λ o. parent_of (l ∷ v) ≡ o → option_map (λ (p : List ℕ). k ∷ p) o ≡ None → k ∷ l ∷ v ≡ []) [
  | None ↦ λ e none. let never = parent_of-none (l ∷ v) e in cc
  | Some p ↦ λ e none. cc
] refl none

-- a path goes on from its parent's by one number
pub child_of_parent : (v p : List ℕ) → parent_of v ≡ Some p → (k : ℕ) × (v ≡ p ++ k ∷ [])
child_of_parent [] p is = cc
child_of_parent (k ∷ []) p is = let same : [] ≡ p = cc in (k, ap (λ z. z ++ k ∷ []) same)
child_of_parent (k ∷ l ∷ v) p is = elim (parent_of (l ∷ v)) as (λ o. parent_of (l ∷ v) ≡ o → option_map (λ (q : List ℕ). k ∷ q) o ≡ Some p → (m : ℕ) × (k ∷ l ∷ v ≡ p ++ m ∷ [])) [
  | None ↦ λ e is. cc
  | Some q ↦ λ e is.
      let same : k ∷ q ≡ p = cc in
      let rest = child_of_parent (l ∷ v) q e in
      (rest.0, ap (λ z. k ∷ z) rest.1 ∙ ap (λ z. z ++ rest.0 ∷ []) same)
] refl is

-- the parent is one level up
pub parent_of-take : (v : List ℕ) → 0 < length v → parent_of v ≡ Some (take (length v - 1) v)
parent_of-take [] some = absurd (omega arith)
parent_of-take (k ∷ []) some = refl
parent_of-take (k ∷ l ∷ v) some = ap (option_map (λ (p : List ℕ). k ∷ p)) (parent_of-take (l ∷ v) (omega arith)) ∙ ap Some (level (length (l ∷ v)) (omega arith))
  where
    level : (n : ℕ) → 0 < n → k ∷ take (n - 1) (l ∷ v) ≡ take (suc n - 1) (k ∷ l ∷ v)
    level zero some = absurd (omega arith)
    level (suc n) some = let one : suc (suc n) - 1 ≡ suc n = omega arith in let none : suc n - 1 ≡ n = omega arith in rw (one, none)

-- what is above a node is one
pub IsSome-take : (m : ℕ) (v : List ℕ) (t : LabelTree) → IsSome (node_at v t) → IsSome (node_at (take m v) t)
IsSome-take m v t is =
    let parts : IsSome (option_and_then (node_at (drop m v)) (node_at (take m v) t)) = rw (← node_at-append (take m v) (drop m v) t, take-append-drop m v) is in
    elim (node_at (take m v) t) as (λ o. IsSome (option_and_then (node_at (drop m v)) o) → IsSome o) [ None ↦ λ h. h | Some s ↦ λ h. refl ] parts

pub IsSome-parent_of : (v p : List ℕ) (t : LabelTree) → parent_of v ≡ Some p → IsSome (node_at v t) → IsSome (node_at p t)
IsSome-parent_of v p t up is =
    let last = child_of_parent v p up in
    let family = node_at-child p last.0 t (rw last.1 at is) in
    rw family.2 refl

-- what is left of a path after no level up, and after one more
pub all_up : (v : List ℕ) → v ≡ take (length v - 0) v
all_up v = let whole : length v - 0 ≡ length v = omega arith in sym (ap (λ n. take n v) whole ∙ take_all (length v) v (omega arith))

pub one_up : (n : ℕ) (v w : List ℕ) → w ≡ take (length v - n) v → take (length w - 1) w ≡ take (length v - (n + 1)) v
one_up n v w is =
    let len : length w ≡ length v - n = ap length is ∙ length-take-le (length v - n) v (omega arith) in
    let less : length w - 1 ≡ length v - (n + 1) = omega (arith, len) in
    ap (λ k. take k w) less ∙ ap (take (length v - (n + 1))) is ∙ take_take (length v - (n + 1)) (length v - n) v (omega arith)

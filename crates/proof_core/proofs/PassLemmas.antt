-- Items that were passed at a node, as the unfolding sees them.
use Rattle.std.proofs.Common.{◌≡◌, ℕ, true, false, if◌then◌else◌, ◌==◌, List, [], ◌∷◌, ◌++◌, find, reverse, Option, Some, None, option_map, option_and_then, unwrap_or, refl, sym, ap, ◌∙◌, append_assoc}
use Rattle.std.proofs.lemmas.List.{append-nil, reverse-append}
use Rattle.proof_core.specs.declared.passes.Pass.{Pass}
use Rattle.proof_core.specs.Passes.{passed_of, seen, way_for, named_for}
use Rattle.proof_check.specs.Unfolding.{Passed, child_for, end_for}

find-seen : (v : List ℕ) (a : ℕ) (here : List Pass) → find (λ p. p.atom == a) (seen v here) ≡ option_map (passed_of v) (find (λ p. p.atom == a) here)
find-seen v a [] = refl
find-seen v a (p ∷ here) = elim (p.atom == a) as (λ b. (if b then Some (passed_of v p) else find (λ x. x.atom == a) (seen v here)) ≡ option_map (passed_of v) (if b then Some p else find (λ (x : Pass). x.atom == a) here)) [
  | true ↦ refl
  | false ↦ find-seen v a here
]

pub end-seen : (v : List ℕ) (a : ℕ) (here : List Pass) → end_for a (seen v here) v ≡ v ++ reverse (way_for a here)
end-seen v a here = ap (λ o. unwrap_or (option_map (λ (p : Passed). p.end) o) v) (find-seen v a here) ∙ by (find (λ (p : Pass). p.atom == a) here)
  where
    by : (o : Option Pass) → unwrap_or (option_map (λ (p : Passed). p.end) (option_map (passed_of v) o)) v ≡ v ++ reverse (unwrap_or (option_map (λ (p : Pass). p.way.items) o) [])
    by None = sym (append-nil v)
    by (Some p) = refl

pub child-seen : (v : List ℕ) (a : ℕ) (here : List Pass) → child_for a (seen v here) ≡ named_for a here
child-seen v a here = ap (λ o. unwrap_or (option_and_then (λ (p : Passed). p.child) o) 0) (find-seen v a here) ∙ by (find (λ (p : Pass). p.atom == a) here)
  where
    by : (o : Option Pass) → unwrap_or (option_and_then (λ (p : Passed). p.child) (option_map (passed_of v) o)) 0 ≡ unwrap_or (option_and_then (λ (p : Pass). p.child) o) 0
    by None = refl
    by (Some p) = refl

-- an item that names no child, and one whose way goes on from the child k
pub passed_plain : (v : List ℕ) (p : Pass) (atom : ℕ) → p.atom ≡ atom → p.child ≡ None → p.way.items ≡ [] → passed_of v p ≡ record { atom = atom; child = None; end = v }
passed_plain v p atom same child way =
    let end : v ++ reverse p.way.items ≡ v = ap (λ w. v ++ reverse w) way ∙ append-nil v in
    λ j. record { atom = same j; child = child j; end = end j }

pub passed_down : (v : List ℕ) (p : Pass) (atom k from : ℕ) (inside : List Pass) → p.atom ≡ atom → p.child ≡ Some k → p.way.items ≡ way_for from inside ++ k ∷ []
    → passed_of v p ≡ record { atom = atom; child = Some k; end = end_for from (seen (v ++ k ∷ []) inside) (v ++ k ∷ []) }
passed_down v p atom k from inside same child way =
    let w = way_for from inside in
    let end : v ++ reverse p.way.items ≡ end_for from (seen (v ++ k ∷ []) inside) (v ++ k ∷ []) =
    ap (λ z. v ++ reverse z) way ∙ ap (λ z. v ++ z) (reverse-append w (k ∷ [])) ∙ sym (append_assoc v (k ∷ []) (reverse w)) ∙ sym (end-seen (v ++ k ∷ []) from inside) in
    λ j. record { atom = same j; child = child j; end = end j }

-- one whose child is in no entry
pub passed_alone : (v : List ℕ) (p : Pass) (atom k : ℕ) → p.atom ≡ atom → p.child ≡ Some k → p.way.items ≡ k ∷ [] → passed_of v p ≡ record { atom = atom; child = Some k; end = v ++ k ∷ [] }
passed_alone v p atom k same child way =
    let end : v ++ reverse p.way.items ≡ v ++ k ∷ [] = ap (λ z. v ++ reverse z) way in
    λ j. record { atom = same j; child = child j; end = end j }

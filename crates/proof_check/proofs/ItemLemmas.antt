-- Lists of items, and of the page's items at one node.
use Rattle.std.proofs.Common.{◌≡◌, ◌⊎◌, ℕ, true, false, cond, List, [], ◌∷◌, ◌++◌, map, filter, Contains, bytes_eq, inl, inr, refl, arith}
use Rattle.std.proofs.lemmas.List.{map-append}
use Rattle.std.proofs.lemmas.List.Elements.{filter-append, Contains-push_cases, Contains-append_cases}
use Rattle.std.proofs.lemmas.Slice.Eq.{bytes_eq-Decides}
use Rattle.proof_check.specs.declared.proofs.ProofItem.{ProofItem}
use Rattle.proof_check.specs.declared.proofs.PageItem.{PageItem}
use Rattle.proof_check.specs.Validity.{atoms_of, items_at}

pub atoms_of-push : (here : List ProofItem) (i : ProofItem) → atoms_of (here ++ i ∷ []) ≡ atoms_of here ++ i.atom ∷ []
atoms_of-push here i = map-append (λ (x : ProofItem). x.atom) here (i ∷ [])

-- one item more at a node: an atom that is there now
pub atoms_of-cases : (here : List ProofItem) (i : ProofItem) (a : ℕ) → Contains (atoms_of (here ++ i ∷ [])) a → Contains (atoms_of here) a ⊎ (i.atom ≡ a)
atoms_of-cases here i a is = Contains-push_cases (atoms_of here) i.atom a (rw (← atoms_of-push here i) is)

pub items_at-append : (v : List ℕ) (xs ys : List PageItem) → items_at v (xs ++ ys) ≡ items_at v xs ++ items_at v ys
items_at-append v xs ys = rw (filter-append (λ (x : PageItem). bytes_eq x.at v) xs ys) (map-append (λ (x : PageItem). x.item) (filter (λ x. bytes_eq x.at v) xs) (filter (λ x. bytes_eq x.at v) ys))

pub page_cases : (v : List ℕ) (before : List PageItem) (i : PageItem) (a : ℕ) → Contains (atoms_of (items_at v (before ++ i ∷ []))) a
    → Contains (atoms_of (items_at v before)) a ⊎ ((i.at ≡ v) × (i.item.atom ≡ a))
page_cases v before i a is =
    let is' : Contains (atoms_of (items_at v before ++ items_at v (i ∷ []))) a = rw (← items_at-append v before (i ∷ [])) is in
    let is'' : Contains (atoms_of (items_at v before) ++ atoms_of (items_at v (i ∷ []))) a = rw (← map-append (λ (x : ProofItem). x.atom) (items_at v before) (items_at v (i ∷ []))) is' in
    elim (Contains-append_cases (atoms_of (items_at v before)) (atoms_of (items_at v (i ∷ []))) a is'') [
      | inl old ↦ inl old
      | inr new ↦ inr (here new)
    ]
  where
    here : Contains (atoms_of (items_at v (i ∷ []))) a → (i.at ≡ v) × (i.item.atom ≡ a)
    here is =
        elim (bytes_eq i.at v) as (λ b. bytes_eq i.at v ≡ b → Contains (atoms_of (map (λ (x : PageItem). x.item) (cond b (i ∷ []) []))) a → (i.at ≡ v) × (i.item.atom ≡ a)) [
          | true ↦ λ e is. ((bytes_eq-Decides i.at v).0 e, elim (Contains-push_cases [] i.item.atom a is) [ inl (k, within, at) ↦ absurd (omega arith) | inr same ↦ same ])
          | false ↦ λ e (k, within, at). absurd (omega arith)
        ] refl is

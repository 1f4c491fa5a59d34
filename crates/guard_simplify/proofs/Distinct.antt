-- No forest node stands twice in a list of them.
use Rattle.std.proofs.Common.{◌≡◌, ℕ, suc, ◌+◌, ◌≤◌, Bool, true, List, [], ◌∷◌, ◌++◌, map, fold, filter, Contains, refl, sym, ap, ◌∙◌, subst, inl, inr, arith, append_assoc, append-nil}
use Rattle.std.specs.Prelude.{nat_lt}
use Rattle.std.proofs.lemmas.Bool.{cases_Bool}
use Rattle.std.proofs.lemmas.List.Elements.{Contains-push_cases, Contains-append_cases}
use Rattle.tp_base.proofs.Rising.{Contains-here, Contains-behind, Contains-none}
use Rattle.tree_sem.specs.Trees.{Row, no_nodes, node}
use Rattle.tree_sem.specs.Order.{paths_from}
use Rattle.tree_sem.proofs.NodeLemmas.{map-Contains}
use Rattle.simple_core.proofs.Members.{filter-Contains}
use Rattle.guard_sem.specs.declared.rules.Rule.{Rule}
use Rattle.guard_simplify.specs.Firsts.{is_among, with_new, different}
use Rattle.guard_simplify.specs.Auxiliaries.{forest_of, nodes_of, children_in, Place, same_place, by_rule, places, owners}
use Rattle.guard_simplify.proofs.NumberLemmas.{among-Contains, same_place-sound, same_place-itself}
use Rattle.guard_simplify.proofs.ForestLemmas.{by_rule-Contains}
use Rattle.guard_simplify.proofs.Soundness.{no_root}

abbrev AreOnce : {X : Type 0} → List X → Type 0
AreOnce [] = Unit {0}
AreOnce (x ∷ xs) = (Contains xs x → ⊥) × AreOnce xs

-- then the list without repeats is the list
kept_all : {X : Type 0} (same : X → X → Bool) (sound : (x y : X) → same x y ≡ true → x ≡ y) (itself : (x : X) → same x x ≡ true) (xs kept : List X)
    → ((x : X) → Contains kept x → Contains xs x → ⊥) → AreOnce xs → fold (with_new same) kept xs ≡ kept ++ xs
kept_all same sound itself [] kept apart once = sym (append-nil kept)
kept_all same sound itself (x ∷ xs) kept apart once = elim (cases_Bool (is_among same x kept)) [
  | inl yes' ↦ absurd (apart x (among-Contains same sound itself x kept yes') (Contains-here x x xs refl))
  | inr no' ↦
      ap (λ z. fold (with_new same) z xs) (rw no' refl)
      ∙ kept_all same sound itself xs (kept ++ x ∷ []) (λ y is is'. elim (Contains-push_cases kept x y is) [
        | inl old ↦ apart y old (Contains-behind y x xs is')
        | inr new ↦ once.0 (subst (Contains xs) (sym new) is')
      ]) once.1
      ∙ append_assoc kept (x ∷ []) xs
]

once_map : {X Y : Type 0} (f : X → Y) → ((x y : X) → f x ≡ f y → x ≡ y) → (xs : List X) → AreOnce xs → AreOnce (map f xs)
once_map f one [] once = tt
once_map f one (x ∷ xs) once = (
  λ is. let of = map-Contains f xs (f x) is in once.0 (subst (Contains xs) (sym (one x of.0 of.2)) of.1),
  once_map f one xs once.1,
)

once_filter : {X : Type 0} (f : X → Bool) (xs : List X) → AreOnce xs → AreOnce (filter f xs)
once_filter f [] once = tt
once_filter f (x ∷ xs) once = elim (cases_Bool (f x)) [
  | inl yes' ↦ rw yes' ((λ is. once.0 (filter-Contains f xs x is).0), once_filter f xs once.1)
  | inr no' ↦ rw no' (once_filter f xs once.1)
]

once_append : {X : Type 0} (xs ys : List X) → AreOnce xs → AreOnce ys → ((x : X) → Contains xs x → Contains ys x → ⊥) → AreOnce (xs ++ ys)
once_append [] ys once once' apart = once'
once_append (x ∷ xs) ys once once' apart = (
  λ is. elim (Contains-append_cases xs ys x is) [
    | inl here ↦ once.0 here
    | inr there ↦ apart x (Contains-here x x xs refl) there
  ],
  once_append xs ys once.1 once' (λ y is is'. apart y (Contains-behind y x xs is) is'),
)

first_step : (d k : ℕ) (p q : List ℕ) → k ∷ q ≡ d ∷ p → k ≡ d
first_step d k p q e = cc

-- the first numbers of the paths of a row's nodes
first_at_least : (d : ℕ) (row : Row) (k : ℕ) (q : List ℕ) → Contains (paths_from d row) (k ∷ q) → d ≤ k
first_at_least d no_nodes k q is = absurd (Contains-none (k ∷ q) is)
first_at_least d (node l below next) k q is = elim (Contains-append_cases (map (λ (p : List ℕ). d ∷ p) ([] ∷ paths_from 0 below)) (paths_from (suc d) next) (k ∷ q) is) [
  | inl here ↦ let of = map-Contains (λ (p : List ℕ). d ∷ p) ([] ∷ paths_from 0 below) (k ∷ q) here in let same = first_step d k of.0 q of.2 in omega (arith, same)
  | inr later ↦ let rest = first_at_least (suc d) next k q later in omega (arith, rest)
]

behind_first : (d : ℕ) (p q : List ℕ) → d ∷ p ≡ d ∷ q → p ≡ q
behind_first d p q e = cc

once_paths : (d : ℕ) (row : Row) → AreOnce (paths_from d row)
once_paths d no_nodes = tt
once_paths d (node l below next) =
    once_append (map (λ (p : List ℕ). d ∷ p) ([] ∷ paths_from 0 below)) (paths_from (suc d) next)
    (once_map (λ (p : List ℕ). d ∷ p) (behind_first d) ([] ∷ paths_from 0 below) (no_root 0 below, once_paths 0 below))
    (once_paths (suc d) next)
    (λ p is is'.
    let of = map-Contains (λ (p : List ℕ). d ∷ p) ([] ∷ paths_from 0 below) p is in
    let later = first_at_least (suc d) next d of.0 (subst (Contains (paths_from (suc d) next)) of.2 is') in
    omega (arith, later))

-- of rules, each with its number
once_rules : (g : Rule → List (List ℕ)) → ((r : Rule) → AreOnce (g r)) → (i : ℕ) (rules : List Rule) → AreOnce {X = Place} (by_rule (λ i r. map (λ q. (i, q)) (g r)) i rules)
once_rules g once i [] = tt
once_rules g once i (r ∷ rules) =
    once_append {X = Place} (map (λ q. (i, q)) (g r)) (by_rule (λ i r. map (λ q. (i, q)) (g r)) (suc i) rules)
    (once_map {Y = Place} (λ q. (i, q)) (λ p q e. ap (λ (z : Place). z.1) e) (g r) (once r))
    (once_rules g once (suc i) rules)
    (λ p is is'.
    let of = map-Contains {Y = Place} (λ q. (i, q)) (g r) p is in
    let later = by_rule-Contains {X = Place} (λ i r. map (λ q. (i, q)) (g r)) (suc i) rules p is' in
    let of' = map-Contains {Y = Place} (λ q. (suc i + later.0, q)) (g later.1) p later.3 in
    let same : i ≡ suc i + later.0 = ap (λ (z : Place). z.0) (sym of.2 ∙ of'.2) in
    omega (arith, same))

pub places_different : (rules : List Rule) → different same_place (places rules) ≡ places rules
places_different rules =
    kept_all same_place same_place-sound same_place-itself (places rules) [] (λ x is is'. Contains-none x is) (once_rules nodes_of (λ r. once_paths 0 (forest_of r).below) 0 rules)

pub owners_different : (rules : List Rule) → different same_place (owners rules) ≡ owners rules
owners_different rules =
    kept_all same_place same_place-sound same_place-itself (owners rules) [] (λ x is is'. Contains-none x is)
    (once_rules (λ r. filter (λ q. nat_lt 0 (children_in r q)) (nodes_of r)) (λ r. once_filter (λ q. nat_lt 0 (children_in r q)) (nodes_of r) (once_paths 0 (forest_of r).below)) 0 rules)

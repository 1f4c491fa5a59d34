-- Forest nodes in the program's sets, and their places there.
use Rattle.std.proofs.Common.{◌≡◌, ℕ, ◌==◌, ◌&&◌, Bool, true, List, [], ◌∷◌, length, map, not, Some, None, refl, sym, ap, ◌∙◌, inl, inr, arith}
use Rattle.std.specs.Prelude.{nat_lt, position}
use Rattle.std.specs.List.{list_any, position_or_len}
use Rattle.std.specs.Str.{bytes_eq}
use Rattle.std.proofs.lemmas.Bool.{cases_Bool, false_from_ne_true, ltb-false}
use Rattle.std.proofs.lemmas.Slice.Eq.{bytes_eq-Decides}
use Rattle.std.proofs.lemmas.List.{map-append}
use Rattle.std.proofs.lemmas.List.Sums.{prefix_len-le-length}
use Rattle.indexmap.specs.IndexSet.{insert_key}
use Rattle.guard_simplify.specs.contracts.forest_nodes.ForestNodePartialEq as its
use Rattle.guard_simplify.specs.declared.forest_nodes.ForestNode.{ForestNode}
use Rattle.guard_simplify.specs.Firsts.{is_among, with_new, place_of, same_path}
use Rattle.guard_simplify.specs.Auxiliaries.{same_place}
use Rattle.guard_simplify.specs.ForestRules.{placed}
use Rattle.guard_simplify.proofs.NumberLemmas.{same_path-sound, same_path-itself}

-- the derived `==`
abbrev pub node_eq : ForestNode → ForestNode → Bool
node_eq = its.TheImpl.eq-value.it

path_same : (p q : List ℕ) → bytes_eq p q ≡ same_path p q
path_same p q = elim (cases_Bool (same_path p q)) [
  | inl yes' ↦ (bytes_eq-Decides p q).1 (same_path-sound p q yes') ∙ sym yes'
  | inr no' ↦ false_from_ne_true (bytes_eq p q) (λ same.
      let one : p ≡ q = (bytes_eq-Decides p q).0 same in
      let yes' : same_path p q ≡ true = ap (same_path p) (sym one) ∙ same_path-itself p in
      absurd (cc)) ∙ sym no'
]

node_same : (k l : ForestNode) → node_eq k l ≡ same_place (placed k) (placed l)
node_same k l = ap (λ z. (k.rule == l.rule) && z) (path_same k.path.items l.path.items)

any_same : (ks : List ForestNode) (k : ForestNode) → list_any (node_eq k) ks ≡ is_among same_place (placed k) (map placed ks)
any_same [] k = refl
any_same (l ∷ ks) k = elim (cases_Bool (same_place (placed k) (placed l))) [
  | inl yes' ↦ rw (node_same k l, yes') refl
  | inr no' ↦ rw (node_same k l, no') (any_same ks k)
]

place_same : (ks : List ForestNode) (k : ForestNode) → position_or_len (node_eq k) ks ≡ place_of same_place (placed k) (map placed ks)
place_same [] k = refl
place_same (l ∷ ks) k = elim (cases_Bool (same_place (placed k) (placed l))) [
  | inl yes' ↦ rw (node_same k l, yes') refl
  | inr no' ↦ let rest = place_same ks k in rw (node_same k l, no') (omega (arith, rest))
]

-- a node put in
pub inserted : (ks : List ForestNode) (k : ForestNode) → map placed (insert_key node_eq ks k) ≡ with_new same_place (map placed ks) (placed k)
inserted ks k = elim (cases_Bool (is_among same_place (placed k) (map placed ks))) [
  | inl yes' ↦ rw (any_same ks k, yes') refl
  | inr no' ↦ rw (any_same ks k, no') (map-append placed ks (k ∷ []))
]

-- the place that a search gives, and what stands for it where there is none
module _ {X : Type 0} (p : X → Bool) (xs : List X) where
  pub found_at : (i : ℕ) → position p xs ≡ Some i → i ≡ position_or_len p xs
  found_at i is = elim (cases_Bool (nat_lt (position_or_len p xs) (length xs))) [
    | inl less ↦ let is' = rw less at is in cc
    | inr past ↦ let is' = rw past at is in absurd (cc)
  ]

  pub not_found : position p xs ≡ None → length xs ≡ position_or_len p xs
  not_found is = elim (cases_Bool (nat_lt (position_or_len p xs) (length xs))) [
    | inl less ↦ let is' = rw less at is in absurd (cc)
    | inr past ↦ let long = ltb-false (position_or_len p xs) (length xs) past in let short = prefix_len-le-length (λ x. not (p x)) xs in omega (arith, long, short)
  ]

pub node_found : (ks : List ForestNode) (k : ForestNode) (i : ℕ) → position (node_eq k) ks ≡ Some i → i ≡ place_of same_place (placed k) (map placed ks)
node_found ks k i is = found_at (node_eq k) ks i is ∙ place_same ks k

pub node_missing : (ks : List ForestNode) (k : ForestNode) → position (node_eq k) ks ≡ None → length ks ≡ place_of same_place (placed k) (map placed ks)
node_missing ks k is = not_found (node_eq k) ks is ∙ place_same ks k

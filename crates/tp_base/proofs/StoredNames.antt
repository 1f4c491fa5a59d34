-- The stored names of a table against the list that callers see.
use Rattle.std.proofs.Common.{◌≡◌, ◌+◌, ◌<◌, ◌≤◌, Bool, true, false, not, cond, List, [], ◌∷◌, length, map, get_or, position, Some, refl, ap, ◌∙◌, inl, inr, arith}
use Rattle.std.specs.List.{list_any, position_or_len}
use Rattle.std.proofs.lemmas.Bool.{both_ways, cases_lt, lt-ltb, le-ltb, false_from_ne_true}
use Rattle.std.proofs.lemmas.List.{length-map, map-append}
use Rattle.std.proofs.lemmas.List.Folds.{list_any_at, Any-from_list_any}
use Rattle.std.proofs.lemmas.List.Sums.{passes_at_first, fails_before_first, prefix_len-le-length}
use Rattle.std.proofs.lemmas.List.{get_or_default}
use Rattle.indexmap.specs.IndexSet.{insert_key}
use Rattle.tp_base.specs.declared.names.Name.{Name}
use Rattle.tp_base.specs.declared.atoms.TheConstants.{MOST_ATOMS}
use Rattle.tp_base.specs.contracts.names.NamePartialEq as its
use Rattle.tp_base.specs.Names.{Named, named, is_name, place_in, with_name}

-- the derived `==`
abbrev pub name_eq : Name → Name → Bool
name_eq = its.TheImpl.eq-value.it

-- it compares what callers see
pub name_eq_is : (k x : Name) → name_eq k x ≡ is_name (named k) (named x)
name_eq_is k x = refl

-- a search of the seen list is one of the stored list
position_or_len-map : {A B : Type 0} (p : B → Bool) (f : A → B) (xs : List A) → position_or_len p (map f xs) ≡ position_or_len (λ x. p (f x)) xs
position_or_len-map p f [] = refl
position_or_len-map p f (x ∷ xs) = ap (λ k. cond (not (p (f x))) (1 + k) 0) (position_or_len-map p f xs)

pub place_in-map : (ks : List Name) (n : Named) → place_in (map named ks) n ≡ position (λ k. is_name n (named k)) ks
unfolding place_in
place_in-map ks n = rw (position_or_len-map (is_name n) named ks, length-map ks named) refl

-- whether the search finds one
found_any : (k : Name) (ks : List Name) → position_or_len (name_eq k) ks < length ks → list_any (name_eq k) ks ≡ true
found_any k ks lt = list_any_at (name_eq k) ks (position_or_len (name_eq k) ks) k lt (passes_at_first (name_eq k) ks k lt)

found_none : (k : Name) (ks : List Name) → length ks ≤ position_or_len (name_eq k) ks → list_any (name_eq k) ks ≡ false
found_none k ks past = false_from_ne_true (list_any (name_eq k) ks) (λ found.
    let any = Any-from_list_any (name_eq k) ks found in
    let at : get_or ks any.0 k ≡ any.1 = get_or_default ks any.0 k any.1 any.2 ∙ any.3 in
    both_ways (name_eq k (get_or ks any.0 k)) (fails_before_first (name_eq k) ks any.0 k (omega (arith, any.2))) (rw at (any.4)))

-- what an insert into the stored list is in the seen one
pub inserted : (k : Name) (ks : List Name) → length (map named ks) < MOST_ATOMS
    → with_name (map named ks) (named k) ≡ Some (position_or_len (name_eq k) ks, map named (insert_key name_eq ks k))
unfolding with_name
inserted k ks room =
    let len = length-map ks named in
    let at : place_in (map named ks) (named k) ≡ position (name_eq k) ks = place_in-map ks (named k) in
    elim (cases_lt (position_or_len (name_eq k) ks) (length ks)) [
      | inl lt ↦ rw (at, lt-ltb (position_or_len (name_eq k) ks) (length ks) lt, found_any k ks lt) refl
      | inr past ↦
          let most = prefix_len-le-length (λ x. not (name_eq k x)) ks in
          let end : length (map named ks) ≡ position_or_len (name_eq k) ks = omega arith in
          rw (at, le-ltb (position_or_len (name_eq k) ks) (length ks) past, found_none k ks past, lt-ltb (length (map named ks)) MOST_ATOMS room, map-append named ks (k ∷ []), end) refl
    ]

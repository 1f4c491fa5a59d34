-- The first items with a key in a list, and the table of their places.
use Rattle.std.proofs.Common.{◌≡◌, ℕ, zero, suc, Bool, true, false, cond, is_some, if◌then◌else◌, List, [], ◌∷◌, ◌++◌, length, find, Option, Some, None, option_map, option_and_then, slice_get, refl, sym, ap, subst, ◌∙◌, arith}
use Rattle.std.specs.Cmp.{IsEquivalence}
use Rattle.std.specs.Option.{option_or}
use Rattle.std.specs.Prelude.{Result, Ok, Err, OnOk, is_err}
use Rattle.indexmap.specs.IndexMap.{IndexMap, get_by}
use Rattle.proof_core.specs.KeyedLists.{first_place, has_key, AreFirsts}
use Rattle.proof_core.proofs.WorldLemmas.{or_none}

pub find_place : {X : Type 0} (test : X → Bool) (xs : List X) → find test xs ≡ option_and_then (slice_get xs) (first_place test xs)
find_place test [] = refl
find_place test (x ∷ xs) =
    elim (test x) as (λ b. cond b (Some x) (find test xs) ≡ option_and_then (slice_get (x ∷ xs)) (if b then Some 0 else option_map (λ n. suc n) (first_place test xs))) [
      | true ↦ refl
      | false ↦ find_place test xs ∙ moved (first_place test xs)
    ]
  where
    moved : (o : Option ℕ) → option_and_then (slice_get xs) o ≡ option_and_then (slice_get (x ∷ xs)) (option_map (λ n. suc n) o)
    moved None = refl
    moved (Some n) = refl

-- by its place
pub found_at : {X : Type 0} (test : X → Bool) (xs : List X) (o : Option ℕ) → o ≡ first_place test xs → option_and_then (slice_get xs) o ≡ find test xs
found_at test xs o is = ap (option_and_then (slice_get xs)) is ∙ sym (find_place test xs)

-- which is one of the list
pub first_there : {X : Type 0} (test : X → Bool) (xs : List X) (n : ℕ) → Some n ≡ first_place test xs → (x : X) × (slice_get xs n ≡ Some x)
first_there test [] n is = cc
first_there {X} test (y ∷ xs) n is =
    elim (test y) as (λ b. Some n ≡ (if b then Some 0 else option_map (λ m. suc m) (first_place test xs)) → (x : X) × (slice_get (y ∷ xs) n ≡ Some x)) [
      | true ↦ λ e. let is_zero : 0 ≡ n = cc in (y, subst (λ m. slice_get (y ∷ xs) m ≡ Some y) is_zero refl)
      | false ↦ λ e. elim (first_place test xs) as (λ o. first_place test xs ≡ o → Some n ≡ option_map (λ m. suc m) o → (x : X) × (slice_get (y ∷ xs) n ≡ Some x)) [
        | None ↦ λ f g. cc
        | Some m ↦ λ f g.
            let r = first_there test xs m (sym f) in
            let is_suc : suc m ≡ n = cc in
            (r.0, subst (λ k. slice_get (y ∷ xs) k ≡ Some r.0) is_suc r.1)
      ] refl e
    ] is

pub is_none : {X : Type 0} (o : Option X) → is_some o ≡ false → o ≡ None
is_none None e = refl
is_none (Some x) e = cc

pub made : {T E P : Type 0} (r : Result T E) → is_err r ≡ false → OnOk r P → P
made (Ok x) e p = p
made (Err y) e p = cc

by_test : (b : Bool) (n : ℕ) → zero ≡ n → (if b then Some zero else None) ≡ (if b then Some n else None)
by_test true n e = ap Some e
by_test false n e = refl

-- one item more
place_push : {X : Type 0} (test : X → Bool) (xs : List X) (x : X) → first_place test (xs ++ x ∷ []) ≡ option_or (first_place test xs) (if test x then Some (length xs) else None)
place_push {X} test [] x = by_test (test x) (length {A = X} []) refl
place_push test (y ∷ xs) x =
    elim (test y) as (λ b. (if b then Some 0 else option_map (λ n. suc n) (first_place test (xs ++ x ∷ [])))
    ≡ option_or (if b then Some 0 else option_map (λ n. suc n) (first_place test xs)) (if test x then Some (length (y ∷ xs)) else None)) [
      | true ↦ refl
      | false ↦ ap (option_map (λ n. suc n)) (place_push test xs x) ∙ moved (first_place test xs) (test x)
    ]
  where
    moved : (o : Option ℕ) (b : Bool) → option_map (λ n. suc n) (option_or o (if b then Some (length xs) else None)) ≡ option_or (option_map (λ n. suc n) o) (if b then Some (length (y ∷ xs)) else None)
    moved (Some n) b = refl
    moved None true = ap Some (omega arith)
    moved None false = refl

module _ {K X S : Type 0} (eq : K → K → Bool) (laws : IsEquivalence eq) (key : X → K) (old : IndexMap K ℕ S) (xs : List X) (x : X) (is : AreFirsts eq key old xs) where
  -- keys that are equal have one first item
  same_first : (k : K) → eq (key x) k ≡ true → first_place (has_key eq key k) xs ≡ first_place (has_key eq key (key x)) xs
  same_first k e = λ j. first_place (λ y. (laws.symm (key y) k ∙ sym (laws.congr (key x) k (key y) e) ∙ laws.symm (key x) (key y)) j) xs

  -- an item more whose key is new
  pub first_new : (new : IndexMap K ℕ S) → first_place (has_key eq key (key x)) xs ≡ None
      → ((k : K) → get_by (eq k) new ≡ (if eq (key x) k then Some (length xs) else get_by (eq k) old)) → AreFirsts eq key new (xs ++ x ∷ [])
  first_new new none step k =
      step k
      ∙ elim (eq (key x) k) as (λ b. eq (key x) k ≡ b → (if b then Some (length xs) else get_by (eq k) old) ≡ option_or (first_place (has_key eq key k) xs) (if b then Some (length xs) else None)) [
        | true ↦ λ e. ap (λ o. option_or o (Some (length xs))) (sym (same_first k e ∙ none))
        | false ↦ λ e. is k ∙ or_none (first_place (has_key eq key k) xs)
      ] refl
      ∙ sym (place_push (has_key eq key k) xs x)

  -- and one whose key is known
  pub first_known : is_some (first_place (has_key eq key (key x)) xs) ≡ true → AreFirsts eq key old (xs ++ x ∷ [])
  first_known known k =
      is k
      ∙ elim (eq (key x) k) as (λ b. eq (key x) k ≡ b → first_place (has_key eq key k) xs ≡ option_or (first_place (has_key eq key k) xs) (if b then Some (length xs) else None)) [
        | true ↦ λ e. stays (first_place (has_key eq key k) xs) (ap is_some (same_first k e) ∙ known)
        | false ↦ λ e. or_none (first_place (has_key eq key k) xs)
      ] refl
      ∙ sym (place_push (has_key eq key k) xs x)
    where
      stays : (o : Option ℕ) → is_some o ≡ true → o ≡ option_or o (Some (length xs))
      stays None e = cc
      stays (Some n) e = refl

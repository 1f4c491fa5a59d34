-- Sets of names.
use Rattle.std.proofs.Common.{◌≡◌, ℕ, Bool, true, false, ◌||◌, if◌then◌else◌, List, [], ◌∷◌, ◌++◌, map, refl, sym, ap, ◌∙◌}
use Rattle.std.proofs.lemmas.List.{map-append}
use Rattle.std.specs.List.{list_any}
use Rattle.std.specs.Str.{bytes_eq}
use Rattle.tp_base.proofs.Lists.{bytes_eq-sym, same_bytes}
use Rattle.sheet_asks.specs.Names.{is_among, with_name, with_all, once}

or_if : (b c : Bool) → (b || c) ≡ (if b then true else c)
or_if true c = refl
or_if false c = refl

-- keys that show the bytes of a name
module _ {K : Type 0} (shown : K → List ℕ) where
  pub held : (ks : List K) (q : List ℕ) → list_any (λ k. bytes_eq q (shown k)) ks ≡ is_among (map shown ks) q
  held [] q = refl
  held (k ∷ ks) q = rw (bytes_eq-sym q (shown k), held ks q) (or_if (bytes_eq (shown k) q) (is_among (map shown ks) q))

  shown_if : (b : Bool) (ks : List K) (k : K) → map shown (if b then ks else ks ++ k ∷ []) ≡ (if b then map shown ks else map shown ks ++ shown k ∷ [])
  shown_if true ks k = refl
  shown_if false ks k = map-append shown ks (k ∷ [])

  pub entered : (ks : List K) (k : K) → map shown (if list_any (λ x. bytes_eq (shown k) (shown x)) ks then ks else ks ++ k ∷ []) ≡ with_name (map shown ks) (shown k)
  entered ks k = rw (held ks (shown k)) (shown_if (is_among (map shown ks) (shown k)) ks k)

-- ---- what is among the names, each once

pub among_append : (ns ms : List (List ℕ)) (q : List ℕ) → is_among (ns ++ ms) q ≡ (if is_among ns q then true else is_among ms q)
among_append [] ms q = refl
among_append (n ∷ ns) ms q = elim (bytes_eq n q) as (λ b. (if b then true else is_among (ns ++ ms) q) ≡ (if (if b then true else is_among ns q) then true else is_among ms q)) [
  | true ↦ refl
  | false ↦ among_append ns ms q
]

among_new : (ns : List (List ℕ)) (n q : List ℕ) → is_among (with_name ns n) q ≡ (if is_among ns q then true else is_among (n ∷ []) q)
among_new ns n q = elim (is_among ns n) as (λ b. is_among ns n ≡ b → is_among (if b then ns else ns ++ n ∷ []) q ≡ (if is_among ns q then true else is_among (n ∷ []) q)) [
  | true ↦ λ is. elim (bytes_eq n q) as (λ b. bytes_eq n q ≡ b → is_among ns q ≡ (if is_among ns q then true else (if b then true else false))) [
    | true ↦ λ same. by_same (is_among ns q) (ap (is_among ns) (sym (same_bytes n q same)) ∙ is)
    | false ↦ λ same. by_other (is_among ns q)
  ] refl
  | false ↦ λ is. among_append ns (n ∷ []) q
] refl
  where
    by_same : (b : Bool) → b ≡ true → b ≡ (if b then true else true)
    by_same b is = rw is refl

    by_other : (b : Bool) → b ≡ (if b then true else false)
    by_other true = refl
    by_other false = refl

among_all : (ns ms : List (List ℕ)) (q : List ℕ) → is_among (with_all ns ms) q ≡ (if is_among ns q then true else is_among ms q)
among_all ns [] q = by (is_among ns q)
  where
    by : (b : Bool) → b ≡ (if b then true else false)
    by true = refl
    by false = refl
among_all ns (m ∷ ms) q =
    among_all (with_name ns m) ms q ∙ ap (λ b. if b then true else is_among ms q) (among_new ns m q) ∙ by (is_among ns q) (bytes_eq m q) (is_among ms q)
  where
    by : (a b c : Bool) → (if (if a then true else (if b then true else false)) then true else c) ≡ (if a then true else (if b then true else c))
    by true b c = refl
    by false true c = refl
    by false false c = refl

-- a name is among them, each once, where it is among them
pub among_once : (ns : List (List ℕ)) (q : List ℕ) → is_among (once ns) q ≡ is_among ns q
among_once ns q = among_all [] ns q

-- Attributes that are asked for, and one more.
use Rattle.std.proofs.Common.{◌≡◌, ℕ, Bool, true, false, cond, if◌then◌else◌, List, [], ◌∷◌, ◌++◌, map, Some, unwrap_or, refl, sym, ap, subst, ◌∙◌}
use Rattle.std.proofs.lemmas.List.{append_assoc, append-nil, map-append}
use Rattle.std.proofs.lemmas.List.Sums.{fold-append}
use Rattle.std.specs.Map.{lookup}
use Rattle.std.specs.Str.{bytes_eq}
use Rattle.indexmap.specs.IndexMap.{insert_entry}
use Rattle.tp_base.proofs.Lists.{bytes_eq-sym, same_bytes}
use Rattle.sheet_asks.specs.Asked.{Valued, name_in, value_in, values_in, values_at, attributes_of}
use Rattle.sheet_asks.specs.Names.{is_among, with_name, with_all, once}
use Rattle.sheet_asks.specs.Putting.{with_attribute}
use Rattle.sheet_asks.proofs.AttributeSteps.{same_itself}
use Rattle.sheet_asks.proofs.SetSteps.{among_append, among_once}

-- ---- names without repeats

Differ : List (List ℕ) → Type 0
Differ [] = Unit {0}
Differ (n ∷ ns) = (is_among ns n ≡ false) × Differ ns

if_false : (b c : Bool) → (if b then true else c) ≡ false → (b ≡ false) × (c ≡ false)
if_false true c is = absurd cc
if_false false c is = (refl, is)

both_false : (b c : Bool) → b ≡ false → c ≡ false → (if b then true else c) ≡ false
both_false b c is other = rw is other

differ_more : (ns : List (List ℕ)) (n : List ℕ) → Differ ns → is_among ns n ≡ false → Differ (ns ++ n ∷ [])
unfolding Differ
differ_more [] n differ new = (refl, tt)
differ_more (m ∷ ns) n differ new =
    let parts = if_false (bytes_eq m n) (is_among ns n) new in
    let apart : bytes_eq n m ≡ false = bytes_eq-sym n m ∙ parts.0 in
    (among_append ns (n ∷ []) m ∙ both_false (is_among ns m) (if bytes_eq n m then true else false) differ.0 (rw apart refl), differ_more ns n differ.1 parts.1)

differ_with : (ns : List (List ℕ)) (n : List ℕ) → Differ ns → Differ (with_name ns n)
differ_with ns n differ = elim (is_among ns n) as (λ b. is_among ns n ≡ b → Differ (if b then ns else ns ++ n ∷ [])) [
  | true ↦ λ is. differ
  | false ↦ λ is. differ_more ns n differ is
] refl

differ_all : (ns ms : List (List ℕ)) → Differ ns → Differ (with_all ns ms)
differ_all ns [] differ = differ
differ_all ns (m ∷ ms) differ = differ_all (with_name ns m) ms (differ_with ns m differ)

differ_once : (ns : List (List ℕ)) → Differ (once ns)
unfolding Differ
differ_once ns = differ_all [] ns tt

-- ---- a table that gives each name what a function gives it

table : (List ℕ → List (List ℕ)) → List (List ℕ) → List Valued
table f ns = map (λ n. (n, f n)) ns

by_name : (f : List ℕ → List (List ℕ)) (ns : List (List ℕ)) (q : List ℕ) → values_at (table f ns) q ≡ (if is_among ns q then f q else [])
unfolding table
by_name f [] q = refl
by_name f (n ∷ ns) q =
    elim (bytes_eq n q) as (λ b. bytes_eq n q ≡ b → unwrap_or (cond (bytes_eq q n) (Some (f n)) (lookup (bytes_eq q) (table f ns))) [] ≡ (if (if b then true else is_among ns q) then f q else [])) [
      | true ↦ λ is. rw (bytes_eq-sym q n, is) (ap f (same_bytes n q is))
      | false ↦ λ is. rw (bytes_eq-sym q n, is) (by_name f ns q)
    ] refl

module _ (f g : List ℕ → List (List ℕ)) (m : List ℕ) (elsewhere : (n : List ℕ) → bytes_eq m n ≡ false → g n ≡ f n) where
  table_same : (ns : List (List ℕ)) → is_among ns m ≡ false → table f ns ≡ table g ns
  unfolding table
  table_same [] new = refl
  table_same (n ∷ ns) new =
      let parts = if_false (bytes_eq n m) (is_among ns m) new in
      let here : f n ≡ g n = sym (elsewhere n (bytes_eq-sym m n ∙ parts.0)) in
      ap (λ v. (n, v) ∷ table f ns) here ∙ ap (λ es. (n, g n) ∷ es) (table_same ns parts.1)

  behind : (b : Bool) (n : List ℕ) (ns : List (List ℕ)) → table g (if b then n ∷ ns else (n ∷ ns) ++ m ∷ []) ≡ (n, g n) ∷ table g (if b then ns else ns ++ m ∷ [])
  unfolding table
  behind true n ns = refl
  behind false n ns = refl

  table_put : (ns : List (List ℕ)) → Differ ns → insert_entry bytes_eq (table f ns) m (g m) ≡ table g (with_name ns m)
  unfolding table Differ
  table_put [] differ = refl
  table_put (n ∷ ns) differ =
      elim (bytes_eq n m) as (λ b. bytes_eq n m ≡ b → (if bytes_eq m n then (n, g m) ∷ table f ns else (n, f n) ∷ insert_entry bytes_eq (table f ns) m (g m)) ≡ table g (if (if b then true else is_among ns m) then n ∷ ns else (n ∷ ns) ++ m ∷ [])) [
        | true ↦ λ is.
            let same = same_bytes n m is in
            rw (bytes_eq-sym m n, is) (ap (λ v. (n, v) ∷ table f ns) (ap g (sym same)) ∙ ap (λ es. (n, g n) ∷ es) (table_same ns (subst (λ x. is_among ns x ≡ false) same differ.0)))
        | false ↦ λ is.
            rw (bytes_eq-sym m n, is) (ap (λ v. (n, v) ∷ insert_entry bytes_eq (table f ns) m (g m)) (sym (elsewhere n (bytes_eq-sym m n ∙ is)))
            ∙ ap (λ es. (n, g n) ∷ es) (table_put ns differ.1) ∙ sym (behind (is_among ns m) n ns))
      ] refl

-- ---- the values of an attribute, in one text more

values_more : (n : List ℕ) (ts : List (List ℕ)) (t : List ℕ) → values_in n (ts ++ t ∷ []) ≡ values_in n ts ++ values_in n (t ∷ [])
values_more n [] t = refl
values_more n (u ∷ ts) t = elim (bytes_eq (name_in u) n) as (λ b. (if b then value_in u ++ values_in n (ts ++ t ∷ []) else values_in n (ts ++ t ∷ [])) ≡ (if b then value_in u ++ values_in n ts else values_in n ts) ++ values_in n (t ∷ [])) [
  | true ↦ ap (λ vs. value_in u ++ vs) (values_more n ts t) ∙ sym (append_assoc (value_in u) (values_in n ts) (values_in n (t ∷ [])))
  | false ↦ values_more n ts t
]

values_none : (n : List ℕ) (ts : List (List ℕ)) → is_among (map name_in ts) n ≡ false → values_in n ts ≡ []
values_none n [] none = refl
values_none n (t ∷ ts) none =
    let parts = if_false (bytes_eq (name_in t) n) (is_among (map name_in ts) n) none in
    rw (parts.0) (values_none n ts parts.1)

-- the values that are asked of an attribute, each once
asked_values : List (List ℕ) → List ℕ → List (List ℕ)
asked_values ts n = once (values_in n ts)

values_of_all : (ts : List (List ℕ)) (n : List ℕ) → values_at (attributes_of ts) n ≡ asked_values ts n
unfolding attributes_of asked_values table
values_of_all ts n =
    by_name (asked_values ts) (once (map name_in ts)) n ∙ ap (λ b. if b then asked_values ts n else []) (among_once (map name_in ts) n)
    ∙ elim (is_among (map name_in ts) n) as (λ b. is_among (map name_in ts) n ≡ b → (if b then asked_values ts n else []) ≡ asked_values ts n) [
      | true ↦ λ is. refl
      | false ↦ λ is. ap once (sym (values_none n ts is))
    ] refl

own_values : (ts : List (List ℕ)) (t : List ℕ) → with_all (asked_values ts (name_in t)) (value_in t) ≡ asked_values (ts ++ t ∷ []) (name_in t)
unfolding asked_values
own_values ts t =
    let only : values_in (name_in t) (t ∷ []) ≡ value_in t = rw (same_itself (name_in t)) (append-nil (value_in t)) in
    sym (fold-append with_name [] (values_in (name_in t) ts) (value_in t)) ∙ ap (λ vs. once (values_in (name_in t) ts ++ vs)) (sym only) ∙ ap once (sym (values_more (name_in t) ts t))

other_values : (ts : List (List ℕ)) (t n : List ℕ) → bytes_eq (name_in t) n ≡ false → asked_values (ts ++ t ∷ []) n ≡ asked_values ts n
unfolding asked_values
other_values ts t n other =
    let none : values_in n (t ∷ []) ≡ [] = rw other refl in
    ap once (values_more n ts t ∙ ap (λ vs. values_in n ts ++ vs) none ∙ append-nil (values_in n ts))

pub one_more : (ts : List (List ℕ)) (t : List ℕ) → with_attribute (attributes_of ts) t ≡ attributes_of (ts ++ t ∷ [])
unfolding attributes_of asked_values table
one_more ts t =
    let m = name_in t in
    let own : with_all (asked_values ts m) (value_in t) ≡ asked_values (ts ++ t ∷ []) m = own_values ts t in
    ap (insert_entry bytes_eq (attributes_of ts) m) (ap (λ vs. with_all vs (value_in t)) (values_of_all ts m) ∙ own)
    ∙ table_put (asked_values ts) (asked_values (ts ++ t ∷ [])) m (other_values ts t) (once (map name_in ts)) (differ_once (map name_in ts))
    ∙ ap (table (asked_values (ts ++ t ∷ []))) (sym (ap once (map-append name_in ts (t ∷ [])) ∙ fold-append with_name [] (map name_in ts) (m ∷ [])))

-- Rows of places.
use Rattle.std.proofs.Common.{◌≡◌, ◌≢◌, ◌⊎◌, inl, inr, ℕ, zero, suc, ◌+◌, ◌<◌, ◌≤◌, List, [], ◌∷◌, ◌++◌, map, length, set, take, get_or, Contains, refl, sym, ap, ◌∙◌, arith, subst, length-append}
use Rattle.std.proofs.lemmas.Bool.{cases_order}
use Rattle.std.proofs.lemmas.List.{map-append}
use Rattle.std.proofs.lemmas.List.Elements.{Contains-append_left, Contains-append_right, Contains-push_cases}
use Rattle.tp_base.proofs.Rising.{Contains-here, Contains-cons, Contains-none}
use Rattle.std.specs.Global.{Vec}
use Rattle.std.proofs.Math.Seq.{take-append_seam}
use Rattle.need_table.specs.Rows.{row_in, IsAdded, IsRicher, AreSameBelow, IsDue}

-- an empty row behind all
pub row_push : (rows : List (List ℕ)) (p : ℕ) → row_in (rows ++ [] ∷ []) p ≡ row_in rows p
row_push [] zero = refl
row_push [] (suc p) = refl
row_push (r ∷ rows) zero = refl
row_push (r ∷ rows) (suc p) = row_push rows p

-- a row in another's place
pub row_begun : (rows : List (Vec ℕ)) (row : Vec ℕ) (p : ℕ) → row.items ≡ [] → row_in (map (λ v. v.items) (rows ++ row ∷ [])) p ≡ row_in (map (λ v. v.items) rows) p
row_begun rows row p none =
    ap (λ (z : List (List ℕ)). row_in z p) (map-append (λ (v : Vec ℕ). v.items) rows (row ∷ []) ∙ ap (λ (z : List ℕ). map (λ (v : Vec ℕ). v.items) rows ++ z ∷ []) none)
    ∙ row_push (map (λ (v : Vec ℕ). v.items) rows) p

pub row_here : {X : Type 0} (f : X → List ℕ) (rows : List X) (q : ℕ) (r : X) → q < length rows → row_in (map f (set rows q r)) q ≡ f r
row_here f [] q r less = absurd (omega arith)
row_here f (x ∷ rows) zero r less = refl
row_here f (x ∷ rows) (suc q) r less = row_here f rows q r (omega arith)

pub row_other : {X : Type 0} (f : X → List ℕ) (rows : List X) (q p : ℕ) (r : X) → p ≢ q → row_in (map f (set rows q r)) p ≡ row_in (map f rows) p
row_other f [] q p r other = refl
row_other f (x ∷ rows) zero zero r other = absurd (other refl)
row_other f (x ∷ rows) zero (suc p) r other = refl
row_other f (x ∷ rows) (suc q) zero r other = refl
row_other f (x ∷ rows) (suc q) (suc p) r other = row_other f rows q p r (λ e. other (ap suc e))

pub row_read : {X : Type 0} (f : X → List ℕ) (rows : List X) (q : ℕ) (r : X) → q < length rows → r ≡ get_or rows q r → row_in (map f rows) q ≡ f r
row_read f [] q r less read = absurd (omega arith)
row_read f (x ∷ rows) zero r less read = ap f (sym read)
row_read f (x ∷ rows) (suc q) r less read = row_read f rows q r (omega arith) read

pub row_few : (rows : List (Vec ℕ)) (p : ℕ) → length (row_in (map (λ v. v.items) rows) p) < 18446744073709551616
row_few [] p = omega arith
row_few (v ∷ rows) zero = omega (arith, v.ok.0, v.small)
row_few (v ∷ rows) (suc p) = row_few rows p

-- the last place is gone
pub row_popped : (was now xs : List ℕ) (i n : ℕ) → now ≡ take n was → n + 1 ≡ length was → was ≡ xs ++ i ∷ [] → now ≡ xs
row_popped was now xs i n cut count is =
    let same : n ≡ length xs = omega (arith, ap length is, length-append xs (i ∷ [])) in
    cut ∙ ap (λ k. take k was) same ∙ ap (λ (z : List ℕ). take (length xs) z) is ∙ take-append_seam xs (i ∷ [])

pub row_none : (rows : List (List ℕ)) (q : ℕ) → length rows ≤ q → row_in rows q ≡ []
row_none [] q le = refl
row_none (x ∷ rows) zero le = absurd (omega arith)
row_none (x ∷ rows) (suc q) le = row_none rows q (omega arith)

-- a place more in a row
pub added_richer : (old new : List (List ℕ)) (q i : ℕ) → IsAdded (row_in old q) (row_in new q) i → ((p : ℕ) → p ≢ q → row_in new p ≡ row_in old p) → IsRicher old new
added_richer old new q i here others p j there = elim (cases_order p q) [
  | inl same ↦ subst (λ z. Contains (row_in new z) j) (sym same) (here.kept j (subst (λ z. Contains (row_in old z) j) same there))
  | inr (inl less) ↦ subst (λ (z : List ℕ). Contains z j) (sym (others p (λ e. omega arith))) there
  | inr (inr more) ↦ subst (λ (z : List ℕ). Contains z j) (sym (others p (λ e. omega arith))) there
]

pub added_here : (old new : List (List ℕ)) (q i : ℕ) → IsAdded (row_in old q) (row_in new q) i → Contains (row_in new q) i
added_here old new q i added = added.here

-- behind all, or where it is the last one already
pub added_last : (old new : List ℕ) (i : ℕ) → new ≡ old ++ i ∷ [] → IsAdded old new i
added_last old new i is = record {
  kept = λ j there. subst (λ (z : List ℕ). Contains z j) (sym is) (Contains-append_left old (i ∷ []) j there);
  here = subst (λ (z : List ℕ). Contains z i) (sym is) (Contains-append_right old (i ∷ []) i (Contains-here i i [] refl));
  only = λ j there. elim (Contains-push_cases old i j (subst (λ (z : List ℕ). Contains z j) is there)) [
    | inl before ↦ inl before
    | inr last ↦ inr (sym last)
  ];
}

pub added_already : (row xs : List ℕ) (i : ℕ) → row ≡ xs ++ i ∷ [] → IsAdded row row i
added_already row xs i is = record {
  kept = λ j there. there;
  here = subst (λ (z : List ℕ). Contains z i) (sym is) (Contains-append_right xs (i ∷ []) i (Contains-here i i [] refl));
  only = λ j there. inl there;
}

pub added_of : (old new was now : List ℕ) (i : ℕ) → was ≡ old → new ≡ now → IsAdded was now i → IsAdded old new i
added_of old new was now i same is added = record {
  kept = λ j there. subst (λ (z : List ℕ). Contains z j) (sym is) (added.kept j (subst (λ (z : List ℕ). Contains z j) (sym same) there));
  here = subst (λ (z : List ℕ). Contains z i) (sym is) added.here;
  only = λ j there. elim (added.only j (subst (λ (z : List ℕ). Contains z j) is there)) [
    | inl before ↦ inl (subst (λ (z : List ℕ). Contains z j) same before)
    | inr new ↦ inr new
  ];
}

pub added_same : (old new : List (List ℕ)) (q k : ℕ) → k ≤ q → ((p : ℕ) → p ≢ q → row_in new p ≡ row_in old p) → AreSameBelow k old new
added_same old new q k le others p less = others p (λ e. omega arith)

pub same_twice : (k : ℕ) (a b c : List (List ℕ)) → AreSameBelow k a b → AreSameBelow k b c → AreSameBelow k a c
same_twice k a b c first second p less = second p less ∙ first p less

pub due_later : (old new : List (List ℕ)) (i n w : ℕ) → IsRicher old new → IsDue old i n w → IsDue new i n w
due_later old new i n w more (q, from, to, there) = (q, from, to, more q i there)

-- a loop over the elements of a list: P holds of those that are not left
pub left_next : {X : Type 0} (P P' : X → Type 0) (all rest others : List X) (x : X) → rest ≡ x ∷ others → ((y : X) → Contains all y → Contains rest y ⊎ P y)
    → P' x → ((y : X) → P y → P' y) → (y : X) → Contains all y → Contains others y ⊎ P' y
left_next {X = X} P P' all rest others x split so_far here kept y there = elim (so_far y there) [
  | inl left ↦ elim ((Contains-cons y x others).0 (subst (λ (z : List X). Contains z y) split left)) [
    | inl same ↦ inr (subst P' (sym same) here)
    | inr later ↦ inl later
  ]
  | inr done ↦ inr (kept y done)
]

pub left_none : {X : Type 0} (P : X → Type 0) (all rest : List X) → length rest ≡ 0 → ((y : X) → Contains all y → Contains rest y ⊎ P y) → (y : X) → Contains all y → P y
left_none P all [] none so_far y there = elim (so_far y there) [ inl left ↦ absurd (Contains-none y left) | inr done ↦ done ]
left_none P all (x ∷ rest) none so_far y there = absurd (omega arith)

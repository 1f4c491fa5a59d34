-- The items of a page that were passed, in their order.
use Rattle.std.proofs.Common.{◌≡◌, ◌≤◌, ◌+◌, ℕ, zero, suc, Bool, true, false, cond, nat_lt, if◌then◌else◌, ◌==◌, ◌&&◌, List, [], ◌∷◌, ◌++◌, length, map, take, find, filter, reverse, Option, Some, None, option_map, option_and_then, unwrap_or, slice_get, refl, sym, ap, subst, ◌∙◌, append_assoc, arith, length-append}
use Rattle.std.proofs.lemmas.Bool.{ltb-true, ltb-false}
use Rattle.std.proofs.lemmas.List.{append-nil, map-append, length-take}
use Rattle.std.proofs.lemmas.List.Elements.{filter-append}
use Rattle.std.proofs.lemmas.Option.{slice_get_past}
use Rattle.std.proofs.Math.Seq.{take-append_seam}
use Rattle.tp_base.proofs.Lists.{past_end, slice_get-take}
use Rattle.proof_core.specs.declared.node_passes.NodePass.{NodePass}
use Rattle.proof_core.specs.NodePasses.{Seen, way_on, seen_one, seen_from, all_seen, passed_to, seen_at, first_at}
use Rattle.proof_core.specs.KeyedLists.{first_place}
use Rattle.proof_check.specs.Unfolding.{Passed, child_for, end_for}
use Rattle.proof_core.proofs.KeyedLemmas.{find_place}

-- one item more
pub seen_push : (before : List Seen) (here : List NodePass) (p : NodePass) → seen_from before (here ++ p ∷ []) ≡ seen_from before here ++ seen_one (seen_from before here) p ∷ []
seen_push before [] p = refl
seen_push before (q ∷ here) p = seen_push (before ++ seen_one before q ∷ []) here p

seen_more : (before : List Seen) (here : List NodePass) → (rest : List Seen) × (seen_from before here ≡ before ++ rest)
seen_more before [] = ([], sym (append-nil before))
seen_more before (p ∷ here) =
    let s = seen_one before p in
    let m = seen_more (before ++ s ∷ []) here in
    (s ∷ m.0, m.1 ∙ append_assoc before (s ∷ []) m.0)

length-seen : (before : List Seen) (here : List NodePass) → length (seen_from before here) ≡ length before + length here
length-seen before [] = omega arith
length-seen before (p ∷ here) = omega (arith, length-seen (before ++ seen_one before p ∷ []) here, length-append before (seen_one before p ∷ []))

slice_get_seam : {X : Type 0} (xs ys : List X) (x : X) → slice_get (xs ++ x ∷ ys) (length xs) ≡ Some x
slice_get_seam [] ys x = refl
slice_get_seam (y ∷ xs) ys x = let n : length (y ∷ xs) ≡ suc (length xs) = omega arith in ap (slice_get (y ∷ (xs ++ x ∷ ys))) n ∙ slice_get_seam xs ys x

slice_get_take : {X : Type 0} (xs : List X) (i n : ℕ) → slice_get (take i xs) n ≡ option_and_then (slice_get xs) (if nat_lt n i then Some n else None)
slice_get_take xs i n =
    elim (nat_lt n i) as (λ b. nat_lt n i ≡ b → slice_get (take i xs) n ≡ option_and_then (slice_get xs) (if b then Some n else None)) [
      | true ↦ λ e. slice_get-take xs i n (ltb-true n i e)
      | false ↦ λ e. slice_get_past (take i xs) n (omega (arith, length-take i xs, ltb-false n i e))
    ] refl

-- an item is seen at its place, as those before it are
there : (before : List Seen) (here : List NodePass) (i : ℕ) (p : NodePass) → slice_get here i ≡ Some p
    → slice_get (seen_from before here) (length before + i) ≡ Some (seen_one (take (length before + i) (seen_from before here)) p)
there before [] i p at = cc
there before (q ∷ here) zero p at =
    let same : q ≡ p = cc in
    let s = seen_one before q in
    let m = seen_more (before ++ s ∷ []) here in
    let whole : seen_from before (q ∷ here) ≡ before ++ s ∷ m.0 = m.1 ∙ append_assoc before (s ∷ []) m.0 in
    let n : length before + 0 ≡ length before = omega arith in
    let front : take (length before + 0) (seen_from before (q ∷ here)) ≡ before = (λ j. take (n j) (whole j)) ∙ take-append_seam before (s ∷ m.0) in
    (λ j. slice_get (whole j) (n j)) ∙ slice_get_seam before m.0 s ∙ (λ j. Some (seen_one (sym front j) (same j)))
there before (q ∷ here) (suc i) p at =
    let before' = before ++ seen_one before q ∷ [] in
    let n : length before' + i ≡ length before + suc i = omega (arith, length-append before (seen_one before q ∷ [])) in
    subst (λ m. slice_get (seen_from before' here) m ≡ Some (seen_one (take m (seen_from before' here)) p)) n (there before' here i p at)

pub seen_there : (here : List NodePass) (i : ℕ) (p : NodePass) → slice_get here i ≡ Some p → slice_get (all_seen here) i ≡ Some (seen_one (take i (all_seen here)) p)
seen_there here i p at = let n : 0 + i ≡ i = omega arith in subst (λ m. slice_get (all_seen here) m ≡ Some (seen_one (take m (all_seen here)) p)) n (there [] here i p at)

-- a walk goes on from an item
pub walk_on : (here : List NodePass) (i : ℕ) (p : NodePass) → slice_get here i ≡ Some p
    → way_on (all_seen here) (Some i) ≡ reverse p.pass.way.items ++ way_on (all_seen here) (option_and_then (λ n. if nat_lt n i then Some n else None) p.on)
walk_on here i p at =
    ap (λ o. unwrap_or (option_map (λ (s : Seen). s.way) o) []) (seen_there here i p at)
    ∙ ap (λ w. reverse p.pass.way.items ++ unwrap_or (option_map (λ (s : Seen). s.way) w) []) (earlier p.on)
  where
    earlier : (on : Option ℕ) → option_and_then (slice_get (take i (all_seen here))) on ≡ option_and_then (slice_get (all_seen here)) (option_and_then (λ n. if nat_lt n i then Some n else None) on)
    earlier None = refl
    earlier (Some n) = slice_get_take (all_seen here) i n

pub walk_past : (here : List NodePass) (i : ℕ) → length here ≤ i → way_on (all_seen here) (Some i) ≡ []
walk_past here i past_end =
    let n : length (all_seen here) ≤ i = omega (arith, past_end, length-seen [] here) in
    ap (λ o. unwrap_or (option_map (λ (s : Seen). s.way) o) []) (slice_get_past (all_seen here) i n)

-- the first item with an atom at a node
abbrev key_of : Seen → ℕ × ℕ
key_of s = (s.node, s.atom)

abbrev pub key : NodePass → ℕ × ℕ
key p = (p.node, p.pass.atom)

abbrev is_key : ℕ → ℕ → ℕ × ℕ → Bool
is_key n a k = k.0 == n && k.1 == a

keys_seen : (before : List Seen) (here : List NodePass) → map key_of (seen_from before here) ≡ map key_of before ++ map key here
keys_seen before [] = sym (append-nil (map key_of before))
keys_seen before (p ∷ here) =
    let s = seen_one before p in
    keys_seen (before ++ s ∷ []) here ∙ ap (λ ks. ks ++ map key here) (map-append key_of before (s ∷ [])) ∙ append_assoc (map key_of before) (key_of s ∷ []) (map key here)

first_place-map : {X Y : Type 0} (f : X → Y) (test : Y → Bool) (xs : List X) → first_place test (map f xs) ≡ first_place (λ x. test (f x)) xs
first_place-map f test [] = refl
first_place-map f test (x ∷ xs) = ap (λ o. if test (f x) then Some 0 else option_map (λ n. suc n) o) (first_place-map f test xs)

first_seen : (here : List NodePass) (n a : ℕ) → first_place (λ (s : Seen). s.node == n && s.atom == a) (all_seen here) ≡ first_at here n a
first_seen here n a = sym (first_place-map key_of (is_key n a) (all_seen here)) ∙ ap (first_place (is_key n a)) (keys_seen [] here) ∙ first_place-map key (is_key n a) here

find-filter : {X : Type 0} (p q : X → Bool) (xs : List X) → find q (filter p xs) ≡ find (λ x. p x && q x) xs
find-filter p q [] = refl
find-filter p q (x ∷ xs) = elim (p x) as (λ b. find q (if b then x ∷ filter p xs else filter p xs) ≡ cond (b && q x) (Some x) (find (λ y. p y && q y) xs)) [
  | true ↦ ap (cond (q x) (Some x)) (find-filter p q xs)
  | false ↦ find-filter p q xs
]

find-passed : (v : List ℕ) (a : ℕ) (xs : List Seen) → find (λ (p : Passed). p.atom == a) (map (passed_to v) xs) ≡ option_map (passed_to v) (find (λ (s : Seen). s.atom == a) xs)
find-passed v a [] = refl
find-passed v a (x ∷ xs) = elim (x.atom == a) as (λ b. cond b (Some (passed_to v x)) (find (λ (p : Passed). p.atom == a) (map (passed_to v) xs)) ≡ option_map (passed_to v) (cond b (Some x) (find (λ (s : Seen). s.atom == a) xs))) [
  | true ↦ refl
  | false ↦ find-passed v a xs
]

found : (here : List NodePass) (n a : ℕ) (v : List ℕ) → find (λ (p : Passed). p.atom == a) (seen_at here n v) ≡ option_map (passed_to v) (option_and_then (slice_get (all_seen here)) (first_at here n a))
found here n a v =
    find-passed v a (filter (λ (s : Seen). s.node == n) (all_seen here))
    ∙ ap (option_map (passed_to v))
    (find-filter (λ (s : Seen). s.node == n) (λ (s : Seen). s.atom == a) (all_seen here) ∙ find_place (λ (s : Seen). s.node == n && s.atom == a) (all_seen here)
    ∙ ap (option_and_then (slice_get (all_seen here))) (first_seen here n a))

pub end_at : (here : List NodePass) (n a : ℕ) (v : List ℕ) → end_for a (seen_at here n v) v ≡ v ++ way_on (all_seen here) (first_at here n a)
end_at here n a v = ap (λ o. unwrap_or (option_map (λ (p : Passed). p.end) o) v) (found here n a v) ∙ by (option_and_then (slice_get (all_seen here)) (first_at here n a))
  where
    by : (o : Option Seen) → unwrap_or (option_map (λ (p : Passed). p.end) (option_map (passed_to v) o)) v ≡ v ++ unwrap_or (option_map (λ (s : Seen). s.way) o) []
    by None = sym (append-nil v)
    by (Some s) = refl

pub child_at : (here : List NodePass) (n a : ℕ) (v : List ℕ) → child_for a (seen_at here n v) ≡ unwrap_or (option_and_then (λ (p : NodePass). p.pass.child) (find (λ p. p.node == n && p.pass.atom == a) here)) 0
child_at here n a v =
    ap (λ o. unwrap_or (option_and_then (λ (p : Passed). p.child) o) 0) (found here n a v) ∙ ap (λ o. unwrap_or o 0) (by (first_at here n a))
    ∙ ap (λ o. unwrap_or (option_and_then (λ (p : NodePass). p.pass.child) o) 0) (sym (find_place (λ (p : NodePass). p.node == n && p.pass.atom == a) here))
  where
    of_seen : (o : Option Seen) → option_and_then (λ (p : Passed). p.child) (option_map (passed_to v) o) ≡ option_and_then (λ (s : Seen). s.child) o
    of_seen None = refl
    of_seen (Some s) = refl

    same : (i : ℕ) → option_and_then (λ (s : Seen). s.child) (slice_get (all_seen here) i) ≡ option_and_then (λ (p : NodePass). p.pass.child) (slice_get here i)
    same i =
        elim (slice_get here i) as (λ o. slice_get here i ≡ o → option_and_then (λ (s : Seen). s.child) (slice_get (all_seen here) i) ≡ option_and_then (λ (p : NodePass). p.pass.child) o) [
          | Some p ↦ λ e. ap (option_and_then (λ (s : Seen). s.child)) (seen_there here i p e)
          | None ↦ λ e. ap (option_and_then (λ (s : Seen). s.child)) (slice_get_past (all_seen here) i (omega (arith, length-seen [] here, past_end here i e)))
        ] refl

    by : (o : Option ℕ) → option_and_then (λ (p : Passed). p.child) (option_map (passed_to v) (option_and_then (slice_get (all_seen here)) o)) ≡ option_and_then (λ (p : NodePass). p.pass.child) (option_and_then (slice_get here) o)
    by None = refl
    by (Some i) = of_seen (slice_get (all_seen here) i) ∙ same i

-- as the unfolding sees the items of a node
pub seen_at-push : (here : List NodePass) (p : NodePass) (m : ℕ) (q : List ℕ) → seen_at (here ++ p ∷ []) m q ≡ seen_at here m q ++ (if p.node == m then passed_to q (seen_one (all_seen here) p) ∷ [] else [])
seen_at-push here p m q =
    let s = seen_one (all_seen here) p in
    ap (λ xs. map (passed_to q) (filter (λ (x : Seen). x.node == m) xs)) (seen_push [] here p)
    ∙ ap (map (passed_to q)) (filter-append (λ (x : Seen). x.node == m) (all_seen here) (s ∷ []))
    ∙ map-append (passed_to q) (filter (λ (x : Seen). x.node == m) (all_seen here)) (filter (λ (x : Seen). x.node == m) (s ∷ []))
    ∙ ap (λ xs. seen_at here m q ++ xs) (by (p.node == m))
  where
    by : (b : Bool) → map (passed_to q) (if b then seen_one (all_seen here) p ∷ [] else []) ≡ (if b then passed_to q (seen_one (all_seen here) p) ∷ [] else [])
    by true = refl
    by false = refl

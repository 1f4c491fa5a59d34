-- Where entries stand, by the hashes of their pairs.
use Rattle.std.proofs.Common.{◌≡◌, ◌↔◌, ℕ, suc, ◌<◌, List, [], ◌∷◌, map, length, set, Option, Some, None, Result, Ok, Err, OnOk, OnErr, IsNone, IfSome, IsSomeAnd, slice_get, Contains, refl, sym, ap, ◌∙◌, inl, inr, arith, subst}
use Rattle.std.specs.Global.{Vec}
use Rattle.tp_base.proofs.Lists.{element_at, at_map, map_at}
use Rattle.pair_table.specs.Hashes.{hash_of}
use Rattle.pair_table.specs.Rows.{places_in, AreFound}
use Rattle.pair_table.proofs.RowLemmas.{found_none}
use Rattle.simple_core.specs.Pairs.{Pair}
use Rattle.need_table.specs.declared.entries.Entry.{Entry}
use Rattle.need_table.specs.Tables.{pair_of, raised, IsNotAt, IsNoted, IsUntouched, IsRested, AreRested}
use Rattle.need_table.proofs.FillLemmas.{set-alike, more_itself}
use Rattle.need_table.proofs.ChildLemmas.{some_at, within_of, child_there}

pub found_within : (entries : List Entry) (q : Pair) (o : Option ℕ) → IfSome o (λ i. IsSomeAnd (slice_get entries i) (λ e. pair_of e ≡ q)) → IfSome o (λ i. i < length entries)
found_within entries q None found = tt
found_within entries q (Some i) found = within_of (λ e. pair_of e ≡ q) entries i found

pub pair_none : (rows : List (ℕ × List ℕ)) (entries : List Entry) (q : Pair) (h : ℕ) (places : List ℕ) (o : Option ℕ) → AreFound rows (map pair_of entries) → h ≡ hash_of q.0 q.1 → places ≡ places_in rows h
    → IfSome o (λ i. IsSomeAnd (slice_get entries i) (λ e. pair_of e ≡ q)) → (o ≡ None → (i : ℕ) → Contains places i → IsNotAt entries q i)
    → IsNone o ↔ (Contains (map pair_of entries) q → ⊥)
pair_none rows entries q h places None at hash are found none =
    found_none (map pair_of entries) q.0 q.1 rows h places None at hash are tt (λ _ i there is. let e = at_map pair_of entries i q is in none refl i there e.0 e.1 e.2)
pair_none rows entries q h places (Some i) at hash are found none = (λ never there. cc, λ absent. absurd (absent (child_there entries entries i q (more_itself entries) found)))

-- where an entry stands its pair does
pub pair_at : (entries : List Entry) (i : ℕ) (q : Pair) → IsSomeAnd (slice_get entries i) (λ e. pair_of e ≡ q) → slice_get (map pair_of entries) i ≡ Some q
pair_at entries i q at = let e = some_at (λ e. pair_of e ≡ q) (slice_get entries i) at in map_at pair_of entries i e.0 e.1 ∙ ap Some e.2

-- the pairs of entries that were noted, or couldn't be
pub pairs_noted : (old new : List Entry) (i k : ℕ) (given : List ℕ) (anew : Option (Vec ℕ)) → i < length old → IsNoted old new i k given anew → map pair_of new ≡ map pair_of old
pairs_noted old new i k given anew within noted =
    let e = element_at old i within in
    elim (noted e.0 e.1) [
      | inl (e', is, rounds, pair, next, firsts, children, label) ↦ ap (map pair_of) is ∙ set-alike pair_of old i e.0 e' e.1 pair
      | inr (is, other) ↦ ap (map pair_of) is
    ]

pub pairs_untouched : (old new : List Entry) (i : ℕ) → i < length old → IsUntouched old new i → map pair_of new ≡ map pair_of old
pairs_untouched old new i within touch =
    let e = element_at old i within in
    let (e', is, some, pair, rounds, children) = touch e.0 e.1 in
    ap (map pair_of) is ∙ set-alike pair_of old i e.0 e' e.1 pair

pub pairs_raised : (old new : List Entry) (i k : ℕ) → i < length old → ((e : Entry) → slice_get old i ≡ Some e → new ≡ set old i (raised k e)) → map pair_of new ≡ map pair_of old
pairs_raised old new i k within is =
    let e = element_at old i within in
    ap (map pair_of) (is e.0 e.1) ∙ set-alike pair_of old i e.0 (raised k e.0) e.1 refl

pub pairs_rested : (old new : List Entry) → AreRested old new → map pair_of new ≡ map pair_of old
pairs_rested [] [] all = refl
pairs_rested [] (y ∷ new) all = let same = all.same in absurd (omega (arith, same))
pairs_rested (x ∷ old) [] all = let same = all.same in absurd (omega (arith, same))
pairs_rested (x ∷ old) (y ∷ new) all =
    let first : IsRested x y = all.each 0 x refl in
    let same = all.same in
    let behind : AreRested old new = record { each = λ j e at. all.each (suc j) e at; same = omega (arith, same) } in
    ap (λ z. z ∷ map pair_of new) first.pair ∙ ap (λ z. pair_of x ∷ z) (pairs_rested old new behind)

pub found_alike : (rows : List (ℕ × List ℕ)) (qs rs : List Pair) → rs ≡ qs → AreFound rows qs → AreFound rows rs
found_alike rows qs rs same at = subst (λ (z : List Pair). AreFound rows z) (sym same) at

pub pairs_either : {T E : Type 0} (r : Result T E) (old new : List Entry) (i k : ℕ) (given : List ℕ) (anew : Option (Vec ℕ)) → i < length old → OnOk r (IsNoted old new i k given anew) → OnErr r (IsUntouched old new i) → map pair_of new ≡ map pair_of old
pairs_either (Ok x) old new i k given anew within ok err = pairs_noted old new i k given anew within ok
pairs_either (Err e) old new i k given anew within ok err = pairs_untouched old new i within err

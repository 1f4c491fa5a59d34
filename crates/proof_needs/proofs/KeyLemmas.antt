-- The derived `==` of keys: equal keys are those of which the same is seen.
use Rattle.std.proofs.Common.{Vec, Global, ◌≡◌, ◌↔◌, ℕ, Bool, true, ◌==◌, ◌&&◌, List, IsTrue, refl, ap, subst}
use Rattle.std.specs.Cmp.{both_ways}
use Rattle.std.specs.Str.{bytes_eq}
use Rattle.std.specs.Cmp.Derive.{both_true}
use Rattle.std.proofs.lemmas.Bool.{and_parts, eqb-true, eq-eqb}
use Rattle.std.proofs.lemmas.Slice.Eq.{bytes_eq-Decides}
use Rattle.proof_needs.specs.contracts.spots.SpotPartialEq as of_spots
use Rattle.proof_needs.specs.contracts.spots.WantPartialEq as of_wants
use Rattle.proof_needs.specs.declared.spots.Spot.{Spot}
use Rattle.proof_needs.specs.declared.spots.Spot.TheVariants.{Page, Added}
use Rattle.proof_needs.specs.declared.spots.Want.{Want}
use Rattle.proof_needs.specs.declared.spots.TripleKey.{TripleKey}
use Rattle.proof_needs.specs.Triples.{Triple}
use Rattle.proof_needs.specs.Keys.{key_eq}
use Rattle.proof_needs.specs.Spots.{triple_of}

abbrev pub spot_eq : Spot → Spot → Bool
spot_eq = of_spots.TheImpl.eq-value.it

pub spot_sound : (p q : Spot) → spot_eq p q ≡ true → p ≡ q
spot_sound (Page m) (Page n) h = ap Page (eqb-true m n h)
spot_sound (Added m) (Added n) h = ap Added (eqb-true m n h)
spot_sound (Page m) (Added n) h = cc
spot_sound (Added m) (Page n) h = cc

pub spot_itself : (p : Spot) → spot_eq p p ≡ true
spot_itself (Page m) = eq-eqb m m refl
spot_itself (Added m) = eq-eqb m m refl

abbrev pub want_eq : Want → Want → Bool
want_eq = of_wants.TheImpl.eq-value.it

pub want_sound : (w x : Want) → want_eq w x ≡ true → w ≡ x
want_sound w x h =
    let parts = and_parts (spot_eq w.spot x.spot) (w.atom == x.atom) h in
    let spots = spot_sound w.spot x.spot parts.0 in
    let atoms = eqb-true w.atom x.atom parts.1 in
    λ i. record { spot = spots i; atom = atoms i }

pub want_same : (w x : Want) → w ≡ x → want_eq w x ≡ true
want_same w x same = subst (λ z. want_eq w z ≡ true) same (both_true (spot_itself w.spot) (eq-eqb w.atom w.atom refl))

pub triple_sound : (k l : TripleKey) → key_eq k l ≡ true → triple_of k ≡ triple_of l
triple_sound k l h =
    let outer = and_parts (k.kind == l.kind) (bytes_eq k.parent l.parent && (k.atom == l.atom)) h in
    let inner = and_parts (bytes_eq k.parent l.parent) (k.atom == l.atom) outer.1 in
    let kinds = eqb-true k.kind l.kind outer.0 in
    let parents = (bytes_eq-Decides k.parent l.parent).0 inner.0 in
    let atoms = eqb-true k.atom l.atom inner.1 in
    λ i. record { kind = kinds i; parent = parents i; atom = atoms i }

pub triple_same : (k l : TripleKey) → triple_of k ≡ triple_of l → key_eq k l ≡ true
triple_same k l same =
    both_true (eq-eqb k.kind l.kind (ap (λ (t : Triple). t.kind) same))
    (both_true ((bytes_eq-Decides k.parent l.parent).1 (ap (λ (t : Triple). t.parent) same)) (eq-eqb k.atom l.atom (ap (λ (t : Triple). t.atom) same)))

-- a test of two lists that answers whether they are one
pub same_test : (b : Bool) (xs ys : List ℕ) → IsTrue b ↔ (xs ≡ ys) → b ≡ bytes_eq xs ys
same_test b xs ys is = both_ways b (bytes_eq xs ys) (λ yes. (bytes_eq-Decides xs ys).1 (is.0 yes)) (λ yes. is.1 ((bytes_eq-Decides xs ys).0 yes))

-- the steps of a path
abbrev pub steps_eq : Vec ℕ Global → Vec ℕ Global → Bool
steps_eq k l = bytes_eq k.items l.items

pub steps_sound : (k l : Vec ℕ Global) → steps_eq k l ≡ true → k.items ≡ l.items
steps_sound k l h = (bytes_eq-Decides k.items l.items).0 h

pub steps_same : (k l : Vec ℕ Global) → k.items ≡ l.items → steps_eq k l ≡ true
steps_same k l same = (bytes_eq-Decides k.items l.items).1 same

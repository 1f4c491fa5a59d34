-- What tables of known atoms say of lists of items.
use Rattle.std.proofs.Common.{◌≡◌, ℕ, zero, suc, ◌<◌, Bool, true, false, not, is_some, ◌==◌, ◌&&◌, ◌||◌, nat_lt, List, [], ◌∷◌, ◌++◌, if◌then◌else◌, take, find, Option, Some, None, option_map, slice_get, refl, ap, ◌∙◌}
use Rattle.std.proofs.lemmas.Bool.{ltb-true, and_parts}
use Rattle.tp_base.specs.Classes.{has_class, all_among}
use Rattle.simple_core.specs.declared.rules.Kind.{Kind}
use Rattle.simple_core.specs.declared.rules.Link.{Link}
use Rattle.simple_core.specs.declared.rules.Local as rule
use Rattle.simple_core.specs.declared.rules.Spawn.{Spawn}
use Rattle.simple_core.specs.declared.system.System.{System}
use Rattle.proof_check.specs.declared.proofs.Below.TheVariants.{Real, Grown}
use Rattle.proof_check.specs.declared.proofs.Reason.{Reason}
use Rattle.proof_check.specs.declared.proofs.Reason.TheVariants.{Start, Local, Up, Down}
use Rattle.proof_check.specs.declared.proofs.ProofItem.{ProofItem}
use Rattle.proof_check.specs.declared.proofs.Entry.{Entry}
use Rattle.proof_check.specs.Checks.{is_some_and, is_down, has_atom, is_inside, is_below, spawn_holds, is_sound}
use Rattle.proof_check.specs.Firsts.{first_down, all_known, Near, named_by, below_by, spawn_by, sound_by}
use Rattle.proof_check.specs.Validity.{atoms_of, Place}

pub first_has : (items : List ProofItem) (a : ℕ) → is_some (first_down items a) ≡ has_class a (atoms_of items)
first_has [] a = refl
first_has (i ∷ items) a =
    elim (i.atom == a) as (λ b. is_some (option_map (λ (x : ProofItem). is_down x.reason) (if b then Some i else find (λ (x : ProofItem). x.atom == a) items)) ≡ (b || has_class a (atoms_of items))) [
      | true ↦ refl
      | false ↦ first_has items a
    ]

-- the first item that gives an atom, when there is one item more
pub first_push : (items : List ProofItem) (i : ProofItem) (a : ℕ)
    → first_down (items ++ i ∷ []) a ≡ (if is_some (first_down items a) then first_down items a else if i.atom == a then Some (is_down i.reason) else None)
first_push [] i a = elim (i.atom == a) as (λ b. option_map (λ (x : ProofItem). is_down x.reason) (if b then Some i else None) ≡ (if b then Some (is_down i.reason) else None)) [ true ↦ refl | false ↦ refl ]
first_push (x ∷ items) i a =
    elim (x.atom == a) as (λ b. option_map (λ (y : ProofItem). is_down y.reason) (if b then Some x else find (λ (y : ProofItem). y.atom == a) (items ++ i ∷ []))
    ≡ (if is_some (option_map (λ (y : ProofItem). is_down y.reason) (if b then Some x else find (λ (y : ProofItem). y.atom == a) items))
    then option_map (λ (y : ProofItem). is_down y.reason) (if b then Some x else find (λ (y : ProofItem). y.atom == a) items) else if i.atom == a then Some (is_down i.reason) else None)) [
      | true ↦ refl
      | false ↦ first_push items i a
    ]

pub all_known-is : (f : ℕ → Option Bool) (items : List ProofItem) → ((a : ℕ) → f a ≡ first_down items a) → (xs : List ℕ) → all_known f xs ≡ all_among xs (atoms_of items)
all_known-is f items same [] = refl
all_known-is f items same (x ∷ xs) = let here = ap is_some (same x) ∙ first_has items x in λ k. here k && all_known-is f items same xs k

down_is : (o : Option ProofItem) → is_some_and (λ (d : Bool). d) (option_map (λ (x : ProofItem). is_down x.reason) o) ≡ is_some_and (λ (x : ProofItem). is_down x.reason) o
down_is None = refl
down_is (Some i) = refl

some_same : {X : Type 0} (f g : X → Bool) → ((x : X) → f x ≡ g x) → (o : Option X) → is_some_and f o ≡ is_some_and g o
some_same f g same None = refl
some_same f g same (Some x) = same x

-- the tests say of a place what its lists say
pub record IsNear (entries : List Entry) (near : Near) (place : Place) : Type 0 where
  pub label : near.label ≡ place.label
  pub kind : near.kind ≡ place.kind
  pub lower : near.lower ≡ place.lower
  pub here : (a : ℕ) → near.here a ≡ first_down place.here a
  pub above : (a : ℕ) → near.above a ≡ has_class a place.above
  pub child : (k a : ℕ) → near.child k a ≡ has_class a (place.child k)
  pub gives : (e a : ℕ) (entry : Entry) → e < place.lower → slice_get entries e ≡ Some entry → near.gives e a ≡ has_atom a entry.items

module _ (system : System) (entries : List Entry) (near : Near) (place : Place) (is : IsNear entries near place) where
  named_same : (needs : ℕ) (kind : Kind) → named_by near needs kind ≡ (is_some kind.above || (not kind.beside || is_some_and (λ i. is_down i.reason) (find (λ i. i.atom == needs) place.here)))
  named_same needs kind =
      let first : is_some_and (λ (d : Bool). d) (near.here needs) ≡ is_some_and (λ (i : ProofItem). is_down i.reason) (find (λ (i : ProofItem). i.atom == needs) place.here)
      = ap (is_some_and (λ (d : Bool). d)) (is.here needs) ∙ down_is (find (λ (i : ProofItem). i.atom == needs) place.here) in
      λ k. is_some kind.above || (not kind.beside || first k)

  below_same : (from : ℕ) (spawn : Spawn) (kind : Kind) (e : ℕ) (entry : Entry) → slice_get entries e ≡ Some entry → below_by near from spawn kind e entry ≡ is_below place from spawn kind e entry
  below_same from spawn kind e entry at =
      let parents = all_known-is near.here place.here is.here entry.parent in
      let needs : is_some (near.here spawn.needs) ≡ has_atom spawn.needs place.here = ap is_some (is.here spawn.needs) ∙ first_has place.here spawn.needs in
      let inner : is_inside kind.above near.kind ≡ is_inside kind.above place.kind = ap (is_inside kind.above) is.kind in
      let named = named_same spawn.needs kind in
      let low : nat_lt e near.lower ≡ nat_lt e place.lower = ap (nat_lt e) is.lower in
      (λ k. low k && (entry.kind == spawn.kind && (near.gives e from && (parents k && (needs k && (inner k && named k))))))
      ∙ elim (nat_lt e place.lower) as (λ b. nat_lt e place.lower ≡ b → (b && (entry.kind == spawn.kind && (near.gives e from && (all_among entry.parent (atoms_of place.here) && (has_atom spawn.needs place.here
      && (is_inside kind.above place.kind && (is_some kind.above || (not kind.beside || is_some_and (λ i. is_down i.reason) (find (λ i. i.atom == spawn.needs) place.here)))))))))
      ≡ (b && (entry.kind == spawn.kind && (has_atom from entry.items && (all_among entry.parent (atoms_of place.here) && (has_atom spawn.needs place.here
      && (is_inside kind.above place.kind && (is_some kind.above || (not kind.beside || is_some_and (λ i. is_down i.reason) (find (λ i. i.atom == spawn.needs) place.here)))))))))) [
        | false ↦ λ eq. refl
        | true ↦ λ eq. let gives = is.gives e from entry (ltb-true e place.lower eq) at in
            λ k. entry.kind == spawn.kind && (gives k && (all_among entry.parent (atoms_of place.here) && (has_atom spawn.needs place.here
            && (is_inside kind.above place.kind && (is_some kind.above || (not kind.beside || is_some_and (λ i. is_down i.reason) (find (λ i. i.atom == spawn.needs) place.here)))))))
      ] refl

  spawn_same : (from e : ℕ) (spawn : Spawn) → spawn_by system entries near from e spawn ≡ spawn_holds system entries place from e spawn
  spawn_same from e spawn =
      some_same (λ kind. is_some_and (λ entry. below_by near from spawn kind e entry) (slice_get entries e)) (λ kind. is_some_and (λ entry. is_below place from spawn kind e entry) (slice_get entries e))
      (λ kind. elim (slice_get entries e) as (λ o. slice_get entries e ≡ o → is_some_and (λ entry. below_by near from spawn kind e entry) o ≡ is_some_and (λ entry. is_below place from spawn kind e entry) o) [
        | None ↦ λ at. refl
        | Some entry ↦ λ at. below_same from spawn kind e entry at
      ] refl) (slice_get system.kinds spawn.kind)

  pub sound_same : (atom : ℕ) (reason : Reason) → sound_by system entries near atom reason ≡ is_sound system entries place atom reason
  sound_same atom Start = ap (has_class atom) is.label
  sound_same atom (Local l) =
      some_same (λ (r : rule.Local). r.gives == atom && all_known near.here r.needs) (λ (r : rule.Local). r.gives == atom && all_among r.needs (atoms_of place.here))
      (λ r. ap (λ b. r.gives == atom && b) (all_known-is near.here place.here is.here r.needs)) (slice_get system.local l)
  sound_same atom (Up l) =
      some_same (λ (r : Link). r.to == atom && near.above r.from) (λ (r : Link). r.to == atom && has_class r.from place.above)
      (λ r. ap (λ b. r.to == atom && b) (is.above r.from)) (slice_get system.up l)
  sound_same atom (Down l (Real k)) =
      some_same (λ (r : Link). r.to == atom && near.child k r.from) (λ (r : Link). r.to == atom && has_class r.from (place.child k))
      (λ r. ap (λ b. r.to == atom && b) (is.child k r.from)) (slice_get system.down l)
  sound_same atom (Down l (Grown c e)) =
      some_same (λ (r : Link). r.to == atom && is_some_and (spawn_by system entries near r.from e) (slice_get system.child c))
      (λ (r : Link). r.to == atom && is_some_and (spawn_holds system entries place r.from e) (slice_get system.child c))
      (λ r. ap (λ b. r.to == atom && b) (some_same (spawn_by system entries near r.from e) (spawn_holds system entries place r.from e) (spawn_same r.from e) (slice_get system.child c))) (slice_get system.down l)

-- the atoms of a set, one after another
pub all_known_one : (f : ℕ → Option Bool) (xs : List ℕ) (n x : ℕ) → all_known f (take n xs) ≡ true → slice_get xs n ≡ Some x → is_some (f x) ≡ true → all_known f (take (suc n) xs) ≡ true
all_known_one f [] n x so_far at has = cc
all_known_one f (y ∷ xs) zero x so_far at has = let same : y ≡ x = cc in rw (same, has) refl
all_known_one f (y ∷ xs) (suc n) x so_far at has =
    let parts = and_parts (is_some (f y)) (all_known f (take n xs)) so_far in
    rw parts.0 (all_known_one f xs n x parts.1 at has)

pub all_known_not : (f : ℕ → Option Bool) (xs : List ℕ) (n x : ℕ) → slice_get xs n ≡ Some x → is_some (f x) ≡ false → all_known f xs ≡ false
all_known_not f [] n x at not' = cc
all_known_not f (y ∷ xs) zero x at not' = let same : y ≡ x = cc in rw (same, not') refl
all_known_not f (y ∷ xs) (suc n) x at not' =
    elim (is_some (f y)) as (λ b. (b && all_known f xs) ≡ false) [ true ↦ all_known_not f xs n x at not' | false ↦ refl ]

-- What comes of the rules that give an atom.
use Rattle.std.proofs.Common.{◌≡◌, ℕ, suc, Bool, false, ◌==◌, List, [], ◌∷◌, ◌++◌, length, slice_get, Some, None, Option, option_map, unwrap_or, Result, refl, sym, ap, subst, ◌∙◌, arith, inl, inr, append_assoc}
use Rattle.std.specs.List.{filter, flat_map}
use Rattle.std.proofs.lemmas.Bool.{cases_Bool}
use Rattle.std.proofs.lemmas.List.{length_push}
use Rattle.class_diagrams.specs.References.{Reference}
use Rattle.class_diagrams.specs.declared.faults.DiagramFault.{DiagramFault}
use Rattle.class_diagrams.specs.Arena.{Arena}
use Rattle.simple_core.specs.declared.rules.Local.{Local}
use Rattle.simple_core.specs.declared.rules.Link.{Link}
use Rattle.pushdown_sym.specs.Terms.{CellTrees, Term}
use Rattle.pushdown_sym.specs.Adding.{Adds, of_local, of_up}
use Rattle.simple_core.specs.Givers.{places_from}
use Rattle.pushdown_sym.specs.Givers.{of_place}

-- ### what comes of the rules at the places is what comes of all rules

of_place-here : {X Y : Type 0} (f : X → List Y) (before : List X) (x : X) (rest : List X) → of_place f (before ++ x ∷ rest) (length before) ≡ f x
of_place-here f [] x rest = refl
of_place-here f (y ∷ before) x rest = of_place-here f before x rest

module _ {X Y : Type 0} (f : X → List Y) (passes : X → Bool) (none : (x : X) → passes x ≡ false → f x ≡ []) where
  places_behind : (before rest : List X) (k : ℕ) → k ≡ length before → flat_map (of_place f (before ++ rest)) (places_from passes k rest) ≡ flat_map f rest
  places_behind before [] k is = refl
  places_behind before (x ∷ rest) k is =
      let whole : before ++ x ∷ rest ≡ (before ++ x ∷ []) ++ rest = sym (append_assoc before (x ∷ []) rest) in
      let behind : flat_map (of_place f (before ++ x ∷ rest)) (places_from passes (suc k) rest) ≡ flat_map f rest =
      ap (λ (xs : List X). flat_map (of_place f xs) (places_from passes (suc k) rest)) whole
      ∙ places_behind (before ++ x ∷ []) rest (suc k) (omega (arith, is, length_push before x)) in
      let here : of_place f (before ++ x ∷ rest) k ≡ f x = ap (of_place f (before ++ x ∷ rest)) is ∙ of_place-here f before x rest in
      elim (cases_Bool (passes x)) [
        | inl given ↦ rw given (λ n. here n ++ behind n)
        | inr other ↦ rw other (behind ∙ ap (λ ys. ys ++ flat_map f rest) (sym (none x other)))
      ]

  pub all_places : (xs : List X) → flat_map (of_place f xs) (places_from passes 0 xs) ≡ flat_map f xs
  all_places xs = places_behind [] xs 0 refl

-- and where all rules at the places give something, that of the rules that pass
module _ {X Y : Type 0} (f : X → List Y) (passes : X → Bool) where
  filtered_behind : (before rest : List X) (k : ℕ) → k ≡ length before → flat_map (of_place f (before ++ rest)) (places_from passes k rest) ≡ flat_map f (filter passes rest)
  filtered_behind before [] k is = refl
  filtered_behind before (x ∷ rest) k is =
      let whole : before ++ x ∷ rest ≡ (before ++ x ∷ []) ++ rest = sym (append_assoc before (x ∷ []) rest) in
      let behind : flat_map (of_place f (before ++ x ∷ rest)) (places_from passes (suc k) rest) ≡ flat_map f (filter passes rest) =
      ap (λ (xs : List X). flat_map (of_place f xs) (places_from passes (suc k) rest)) whole
      ∙ filtered_behind (before ++ x ∷ []) rest (suc k) (omega (arith, is, length_push before x)) in
      let here : of_place f (before ++ x ∷ rest) k ≡ f x = ap (of_place f (before ++ x ∷ rest)) is ∙ of_place-here f before x rest in
      elim (cases_Bool (passes x)) [
        | inl given ↦ rw given (λ n. here n ++ behind n)
        | inr other ↦ rw other behind
      ]

  pub filtered_places : (xs : List X) → flat_map (of_place f xs) (places_from passes 0 xs) ≡ flat_map f (filter passes xs)
  filtered_places xs = filtered_behind [] xs 0 refl

pub of_local-none : (now : CellTrees) (j a : ℕ) (r : Local) → (r.gives == a) ≡ false → of_local now j a r ≡ []
of_local-none now j a r other = rw other refl

pub of_up-none : (a : ℕ) (l : Link) → (l.to == a) ≡ false → of_up a l ≡ []
of_up-none a l other = rw other refl

-- the terms of the rules at the places are those of all rules
pub adds_given : {X : Type 0} (f : X → List Term) (passes : X → Bool) → ((x : X) → passes x ≡ false → f x ≡ []) → (xs rules : List X) (places : List ℕ)
    → (a b : Arena) (start : Reference) (r : Result Reference DiagramFault) → xs ≡ rules → places ≡ places_from passes 0 rules
    → Adds a b start (flat_map (of_place f xs) places) r → Adds a b start (flat_map f rules) r
adds_given {X} f passes none xs rules places a b start r same are adds =
    subst (λ (ts : List Term). Adds a b start ts r)
    ((λ n. flat_map (of_place f (same n)) (are n)) ∙ all_places f passes none rules) adds

-- the rule at a place
pub of_place-at : {X Y : Type 0} (f : X → List Y) (rules : List X) (i : ℕ) (x : X) → slice_get rules i ≡ Some x → of_place f rules i ≡ f x
of_place-at {X} f rules i x at = ap (λ (o : Option X). unwrap_or (option_map f o) []) at

pub of_place-past : {X Y : Type 0} (f : X → List Y) (rules : List X) (i : ℕ) → slice_get rules i ≡ None → of_place f rules i ≡ []
of_place-past {X} f rules i past = ap (λ (o : Option X). unwrap_or (option_map f o) []) past

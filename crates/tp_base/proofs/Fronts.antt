-- Names that were there keep their numbers.
use Rattle.std.proofs.Common.{◌≡◌, ℕ, ◌≤◌, Bool, true, false, if◌then◌else◌, nat_lt, List, [], ◌∷◌, ◌++◌, length, take, Option, None, Some, sym, ap, ◌∙◌, arith}
use Rattle.std.proofs.lemmas.List.{take_all, take-take, length-take}
use Rattle.std.proofs.Math.Seq.{take-append_seam}
use Rattle.std.proofs.lemmas.Option.{same_Some}
use Rattle.tp_base.specs.Names.{Named, with_name, placed, place_in, IsFront}
use Rattle.tp_base.specs.declared.atoms.TheConstants.{MOST_ATOMS}

pub front_itself : (old new : List Named) → new ≡ old → IsFront old new
front_itself old new same = rw same (take_all (length old) old (omega arith))

none_some : (y : ℕ × List Named) → None ≡ Some y → ⊥
none_some y e = cc

abbrev entry : ℕ → List Named → Option (ℕ × List Named)
entry a names = Some (a, names)

front_if_room : (room : Bool) (names new : List Named) (n : Named) (a : ℕ) → (if room then entry (length names) (names ++ n ∷ []) else None) ≡ entry a new → IsFront names new
front_if_room true names new n a is = let pair : (length names, names ++ n ∷ []) ≡ (a, new) = same_Some _ _ is in
    rw (ap (λ (q : ℕ × List Named). q.1) (sym pair)) (take-append_seam names (n ∷ []))
front_if_room false names new n a is = absurd (none_some _ is)

placed_front : (place : Option ℕ) (names new : List Named) (n : Named) (a : ℕ) → placed place names n ≡ Some (a, new) → IsFront names new
placed_front (Some p) names new n a is = front_itself names new (ap (λ (q : ℕ × List Named). q.1) (sym (same_Some (p, names) (a, new) is)))
placed_front None names new n a is = front_if_room (nat_lt (length names) MOST_ATOMS) names new n a is

pub front_grown : (names new : List Named) (n : Named) (a : ℕ) → with_name names n ≡ Some (a, new) → IsFront names new
unfolding with_name
front_grown names new n a is = placed_front (place_in names n) names new n a is

-- one after the other
pub front_of_front : (old middle new : List Named) → IsFront old middle → IsFront middle new → IsFront old new
front_of_front old middle new first second =
    let within : length old ≤ length middle = omega (arith, sym (length-take (length old) middle) ∙ ap length first) in
    sym (take-take (length old) (length middle) new within) ∙ ap (take (length old)) second ∙ first

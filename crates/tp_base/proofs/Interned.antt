-- From what `with_name` answers to what the clauses of `intern` say.
use Rattle.std.proofs.Common.{◌≡◌, ℕ, ◌<◌, ◌≤◌, List, [], ◌∷◌, ◌++◌, length, slice_get, Contains, Some, None, Result, Ok, Err, IfOk, OnOk, IfErr, IsErrOf, ◌↔◌, refl, inl, inr, arith}
use Rattle.std.proofs.lemmas.Bool.{le-ltb}
use Rattle.tp_base.specs.declared.atoms.TheConstants.{MOST_ATOMS}
use Rattle.tp_base.specs.declared.atom_table.AtomFault.{AtomFault}
use Rattle.tp_base.specs.declared.atom_table.AtomFault.TheVariants.{TooManyAtoms, Memory}
use Rattle.tp_base.specs.Names.{Named, place_in, with_name}
use Rattle.tp_base.proofs.NamesLemmas.{with_name-Some, with_name-None, with_name-at, with_name-below_limit}
use Rattle.tp_base.proofs.Lists.{Contains-at}

-- the answer is that of `with_name`, and the refusal its refusal
pub record IsAnswer (ns ms : List Named) (n : Named) (r : Result ℕ AtomFault) : Type 0 where
  pub ok : IfOk r (λ a. with_name ns n ≡ Some (a, ms))
  pub full : IsErrOf r TooManyAtoms ↔ (with_name ns n ≡ None)

-- a name that is there has its place, and nothing changes
pub known_place : (ns : List Named) (n : Named) (a : ℕ) → place_in ns n ≡ Some a → IsAnswer ns ns n (Ok a)
unfolding with_name
known_place ns n a found = record {
  ok = rw found refl;
  full = rw found (λ e. absurd cc, λ e. absurd cc);
}

-- a new name finds no room in a full table
pub no_room : (ns : List Named) (n : Named) → place_in ns n ≡ None → MOST_ATOMS ≤ length ns → IsAnswer ns ns n (Err TooManyAtoms)
unfolding with_name
no_room ns n new full = record {
  ok = tt;
  full = rw (new, le-ltb (length ns) MOST_ATOMS full) (λ e. refl, λ e. refl);
}

-- where there is room, only memory can be wanting
pub with_room : (ns ms : List Named) (n : Named) (r : Result ℕ AtomFault) → length ns < MOST_ATOMS
    → IfOk r (λ a. with_name ns n ≡ Some (a, ms)) → IfErr r (λ e. e ≡ Memory) → IsAnswer ns ms n r
with_room ns ms n (Ok a) room ok memory = record {
  ok = ok;
  full = (λ e. absurd cc, λ e. absurd cc);
}
with_room ns ms n (Err e) room ok memory = record {
  ok = tt;
  full = (λ is. absurd cc, λ none. absurd (let refused = (with_name-None ns n).0 none in omega arith));
}

module _ (ns ms : List Named) (n : Named) where
  pub answer-place : (r : Result ℕ AtomFault) → IsAnswer ns ms n r → IfOk r (λ a. slice_get ms a ≡ Some n)
  answer-place (Ok a) is = with_name-at ns n a ms is.ok
  answer-place (Err e) is = tt

  pub answer-in_limit : (r : Result ℕ AtomFault) → IsAnswer ns ms n r → length ns ≤ MOST_ATOMS → IfOk r (λ a. a < MOST_ATOMS)
  answer-in_limit (Ok a) is few = with_name-below_limit ns n a ms is.ok few
  answer-in_limit (Err e) is few = tt

  pub answer-known : (r : Result ℕ AtomFault) → IsAnswer ns ms n r → Contains ns n → OnOk r (ms ≡ ns)
  answer-known (Ok a) is there = elim (with_name-Some ns n a ms is.ok) [
    | inl found ↦ found.1
    | inr new ↦ absurd (new.0 there)
  ]
  answer-known (Err e) is there = tt

  pub answer-added : (r : Result ℕ AtomFault) → IsAnswer ns ms n r → (Contains ns n → ⊥) → OnOk r (ms ≡ ns ++ n ∷ [])
  answer-added (Ok a) is none = elim (with_name-Some ns n a ms is.ok) [
    | inl found ↦ absurd (none (Contains-at ns a n found.0))
    | inr new ↦ new.3
  ]
  answer-added (Err e) is none = tt

  pub answer-too_many : (r : Result ℕ AtomFault) → IsAnswer ns ms n r → length ns ≤ MOST_ATOMS → IsErrOf r TooManyAtoms ↔ ((Contains ns n → ⊥) × (length ns ≡ MOST_ATOMS))
  answer-too_many r is few = (
    λ e. let new = (with_name-None ns n).0 (is.full.0 e) in (new.0, omega (arith, new.1)),
    λ new. is.full.1 ((with_name-None ns n).1 (new.0, omega (arith, new.1))),
  )

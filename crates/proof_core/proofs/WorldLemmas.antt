-- The forests of a system's kinds, and the limits of a sound system.
use Rattle.std.proofs.Common.{◌≡◌, ◌<◌, ◌≤◌, ℕ, suc, Bool, true, false, cond, if◌then◌else◌, ◌==◌, List, [], ◌∷◌, drop, find, Option, Some, None, option_map, option_and_then, unwrap_or, slice_get, refl, sym, ap, subst, ◌∙◌, arith}
use Rattle.std.proofs.lemmas.Bool.Decides.{Decides-eqb}
use Rattle.std.specs.Prelude.{Result, Ok, Err, OnOk}
use Rattle.std.proofs.lemmas.List.Elements.{All-contains}
use Rattle.std.specs.Option.{option_or}
use Rattle.tp_base.proofs.Lists.{Contains-at, drop_at}
use Rattle.simple_core.specs.declared.rules.Kind.{Kind}
use Rattle.simple_core.specs.declared.rules.Spawn.{Spawn}
use Rattle.simple_core.specs.declared.system.System.{System}
use Rattle.simple_core.specs.declared.system.TheConstants.{MOST_KINDS}
use Rattle.proof_check.specs.Unfolding.{spawned}
use Rattle.proof_core.specs.Worlds.{is_under, siblings_below, HasFewSiblings}

pub or_none : {X : Type 0} (o : Option X) → o ≡ option_or o None
or_none None = refl
or_none (Some x) = refl

-- both of what holds where there is no error
pub on_both : {T E P Q R : Type 0} (r : Result T E) → OnOk r P → OnOk r Q → (P → Q → R) → OnOk r R
on_both (Ok x) p q f = f p q
on_both (Err e) p q f = tt

pub on_three : {T E P Q S R : Type 0} (r : Result T E) → OnOk r P → OnOk r Q → OnOk r S → (P → Q → S → R) → OnOk r R
on_three (Ok x) p q s f = f p q s
on_three (Err e) p q s f = tt

-- one kind more
pub noted : (old new : ℕ → Option ℕ) (kind : Kind) (above : ℕ) → kind.above ≡ Some above → new above ≡ Some (unwrap_or (old above) kind.siblings) → ((j : ℕ) → (above == j) ≡ false → new j ≡ old j)
    → (j : ℕ) → new j ≡ option_or (old j) (siblings_below j kind)
noted old new kind above is added others j =
    elim (above == j) as (λ b. (above == j) ≡ b → new j ≡ option_or (old j) (if b then Some kind.siblings else None)) [
      | true ↦ λ e. subst (λ z. new z ≡ option_or (old z) (Some kind.siblings)) ((Decides-eqb above j).0 e) (added ∙ taken (old above))
      | false ↦ λ e. others j e ∙ or_none (old j)
    ] refl
    ∙ ap (λ o. option_or (old j) (if unwrap_or (option_map (λ i. i == j) o) false then Some kind.siblings else None)) (sym is)
  where
    taken : (o : Option ℕ) → Some (unwrap_or o kind.siblings) ≡ option_or o (Some kind.siblings)
    taken None = refl
    taken (Some n) = refl

pub not_noted : (old : ℕ → Option ℕ) (kind : Kind) → kind.above ≡ None → (j : ℕ) → old j ≡ option_or (old j) (siblings_below j kind)
not_noted old kind is j = or_none (old j) ∙ ap (λ o. option_or (old j) (if unwrap_or (option_map (λ i. i == j) o) false then Some kind.siblings else None)) (sym is)

abbrev siblings_of : Option Kind → Option ℕ
siblings_of o = option_map (λ (k : Kind). k.siblings) o

pub known_pushed : (old new whole : ℕ → Option ℕ) (kinds : List Kind) (i : ℕ) (x : Kind) → slice_get kinds i ≡ Some x → ((j : ℕ) → new j ≡ option_or (old j) (siblings_below j x))
    → ((j : ℕ) → whole j ≡ option_or (old j) (siblings_of (find (is_under j) (drop i kinds)))) → (j : ℕ) → whole j ≡ option_or (new j) (siblings_of (find (is_under j) (drop (suc i) kinds)))
known_pushed old new whole kinds i x at step before j =
    before j ∙ ap (λ xs. option_or (old j) (siblings_of (find (is_under j) xs))) (drop_at kinds i x at)
    ∙ apart (old j) (is_under j x) (find (is_under j) (drop (suc i) kinds)) ∙ ap (λ o. option_or o (siblings_of (find (is_under j) (drop (suc i) kinds)))) (sym (step j))
  where
    apart : (o : Option ℕ) (b : Bool) (r : Option Kind) → option_or o (siblings_of (cond b (Some x) r)) ≡ option_or (option_or o (if b then Some x.siblings else None)) (siblings_of r)
    apart (Some n) b r = refl
    apart None true r = refl
    apart None false r = refl

-- limits
find_in : {X : Type 0} (test : X → Bool) (xs : List X) (x : X) → find test xs ≡ Some x → (i : ℕ) × (slice_get xs i ≡ Some x)
find_in test [] x found = cc
find_in test (y ∷ xs) x found =
    elim (test y) as (λ b. cond b (Some y) (find test xs) ≡ Some x → (i : ℕ) × (slice_get (y ∷ xs) i ≡ Some x)) [
      | true ↦ λ e. (0, e)
      | false ↦ λ e. let r = find_in test xs x e in (suc r.0, r.1)
    ] found

pub few_siblings : (s : System) → HasFewSiblings s.kinds → (test : Kind → Bool) → unwrap_or (siblings_of (find test s.kinds)) 0 ≤ MOST_KINDS
few_siblings s few_all test =
    elim (find test s.kinds) as (λ o. find test s.kinds ≡ o → unwrap_or (siblings_of o) 0 ≤ MOST_KINDS) [
      | None ↦ λ e. omega arith
      | Some k ↦ λ e.
          let r = find_in test s.kinds k e in
          (All-contains (λ (x : Kind). (x.number < x.siblings) × (x.siblings ≤ MOST_KINDS)) s.kinds k few_all (Contains-at s.kinds r.0 k r.1)).1
    ] refl

pub few_spawned : (s : System) → HasFewSiblings s.kinds → (c : ℕ) (kind : Kind) → spawned s c ≡ Some kind → (kind.number < MOST_KINDS) × (kind.siblings ≤ MOST_KINDS)
few_spawned s few_all c kind is =
    elim (slice_get s.child c) as (λ o. option_and_then (λ (x : Spawn). slice_get s.kinds x.kind) o ≡ Some kind → (kind.number < MOST_KINDS) × (kind.siblings ≤ MOST_KINDS)) [
      | None ↦ λ e. cc
      | Some x ↦ λ e.
          let few = All-contains (λ (y : Kind). (y.number < y.siblings) × (y.siblings ≤ MOST_KINDS)) s.kinds kind few_all (Contains-at s.kinds x.kind kind e) in
          (omega (arith, few.0, few.1), few.1)
    ] is

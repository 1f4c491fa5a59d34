-- What is answered where too many atoms are counted, and where a system is put together.
use Rattle.std.proofs.Common.{◌≡◌, ℕ, ◌+◌, ◌≤◌, ◌<◌, List, length, All, Result, Ok, Err, Option, Some, None, IsErrAnd, ok_or, refl, sym, ap, ◌∙◌, subst, inl, inr}
use Rattle.std.specs.Prelude.{nat_lt}
use Rattle.std.proofs.lemmas.Bool.{cases_Bool, lt-ltb}
use Rattle.tp_base.specs.declared.atoms.TheConstants.{MOST_ATOMS}
use Rattle.simple_core.specs.declared.system.TheConstants.{MOST_KINDS}
use Rattle.simple_core.specs.Systems.{IsSound}
use Rattle.guard_sem.specs.Guards.{Guard}
use Rattle.guard_sem.specs.declared.rules.Rule.{Rule}
use Rattle.guard_simplify.specs.declared.counting.Counted.{Counted}
use Rattle.guard_simplify.specs.declared.simplified.Simplified.{Simplified}
use Rattle.guard_simplify.specs.declared.simplified.SimplifyFault.{SimplifyFault}
use Rattle.guard_simplify.specs.declared.simplified.SimplifyFault.TheVariants.{TooManyAtoms, TooManyVisible, Memory}
use Rattle.guard_simplify.specs.declared.simplified.TheConstants.{MOST_VISIBLE}
use Rattle.guard_simplify.specs.Auxiliaries.{places, auxiliaries}
use Rattle.guard_simplify.specs.Law.{IsOver, IsRuleOver}
use Rattle.guard_simplify.specs.Counted.{IsCounted, left_sides_of, counted_ups, counted_system, counted_seen, counted_visibly}
use Rattle.guard_simplify.specs.Outcome.{simplified, Gives}
use Rattle.guard_simplify.proofs.SystemLemmas.{outcome_same, made_sound}

pub outcome_many : (rules : List Rule) (guards : List Guard) (n : ℕ) → MOST_ATOMS < n + length (auxiliaries rules guards) → simplified rules guards n ≡ Err TooManyAtoms
outcome_many rules guards n more = let past = lt-ltb MOST_ATOMS (n + length (auxiliaries rules guards)) more in rw past refl

pub err_gives : (r spec : Result Simplified SimplifyFault) → IsErrAnd r (λ e. e ≡ Memory) → Gives r spec
err_gives (Ok s) spec is = absurd is
err_gives (Err e) spec is = λ other. absurd (other is)

-- what is counted for rules and guards over a table of n atoms
module _ (rules : List Rule) (guards : List Guard) (n : ℕ) (c : Counted) (same_rules : c.rules.now ≡ rules) (same_first : c.first ≡ n) (is : IsCounted guards c) where
  pub outcome_made : (o : Option Simplified) → o ≡ counted_visibly c → simplified rules guards n ≡ ok_or o TooManyVisible
  outcome_made o made =
      sym (λ i. simplified (same_rules i) guards (same_first i)) ∙ sym (outcome_same guards c is) ∙ ap (λ (z : Option Simplified). ok_or z TooManyVisible) (sym made)

  pub sound_made : All (IsRuleOver n) rules → All (IsOver n) guards → length (places rules) ≤ MOST_KINDS → (s : Simplified) → Some s ≡ counted_visibly c → IsSound s.system
  sound_made rules_over guards_over few s made =
      let rules_over' : All (IsRuleOver c.first) c.rules.now = subst (λ m. All (IsRuleOver m) c.rules.now) (sym same_first) (subst (All (IsRuleOver n)) (sym same_rules) rules_over) in
      let guards_over' : All (IsOver c.first) guards = subst (λ m. All (IsOver m) guards) (sym same_first) guards_over in
      let few' : length (places c.rules.now) ≤ MOST_KINDS = subst (λ z. length (places z) ≤ MOST_KINDS) (sym same_rules) few in
      elim (cases_Bool (nat_lt MOST_VISIBLE (length (left_sides_of (counted_ups c))))) [
        | inl past ↦ let none : ◌≡◌ {A = Option Simplified} (Some s) None = rw past at made in absurd (cc)
        | inr within ↦
            let some : ◌≡◌ {A = Option Simplified} (Some s) (Some (record { system = counted_system c; seen = counted_seen c })) = rw within at made in
            let same : ◌≡◌ {A = Simplified} s (record { system = counted_system c; seen = counted_seen c }) = cc in
            subst (λ (z : Simplified). IsSound z.system) (sym same) (made_sound guards c is rules_over' guards_over' few')
      ]

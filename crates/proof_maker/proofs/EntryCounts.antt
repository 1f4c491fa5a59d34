-- The steps that entries keep are those of their unfoldings, where each is counted from the entries before it.
use Rattle.std.proofs.Common.{◌≡◌, ℕ, zero, suc, ◌+◌, ◌<◌, ◌≤◌, min, List, [], ◌∷◌, take, Contains, Option, Some, None, option_map, unwrap_or, slice_get, refl, sym, ap, ◌∙◌, arith}
use Rattle.std.specs.List.{flat_map}
use Rattle.std.proofs.lemmas.List.Elements.{Contains-append_left, Contains-append_right}
use Rattle.std.proofs.lemmas.List.Sums.{sum_by-cons}
use Rattle.std.proofs.lemmas.Option.{slice_get_within}
use Rattle.tp_base.proofs.Lists.{element_at, slice_get-take}
use Rattle.simple_core.specs.declared.rules.Kind.{Kind}
use Rattle.simple_core.specs.declared.system.System.{System}
use Rattle.proof_check.specs.declared.proofs.Below.TheVariants.{Real, Grown}
use Rattle.proof_check.specs.declared.proofs.Reason.{Reason}
use Rattle.proof_check.specs.declared.proofs.Reason.TheVariants.{Start, Local, Up, Down}
use Rattle.proof_check.specs.declared.proofs.ProofItem.{ProofItem}
use Rattle.proof_check.specs.declared.proofs.Entry.{Entry}
use Rattle.proof_check.specs.Kept.{kept_steps}
use Rattle.proof_check.specs.Unfolding.{spawned, spawn_count, reason_count, items_count, entry_count}
use Rattle.proof_check.specs.Validity.{MOST_STEPS}
use Rattle.proof_maker.specs.Needs.{named_by}

abbrev names_of : List ProofItem → List ℕ
names_of items = flat_map (λ (i : ProofItem). named_by i.reason) items

-- as many, up to a bound
abbrev IsAlike : ℕ → ℕ → ℕ → Type 0
IsAlike m x y = min x m ≡ min y m

add_alike : (m x x' y y' : ℕ) → IsAlike m x x' → IsAlike m y y' → IsAlike m (x + y) (x' + y')
add_alike m x x' y y' p q = omega (arith, p, q)

module _ (s : System) where
  spawn_alike : (m : ℕ) (o : Option Kind) (x y : ℕ) → IsAlike m x y → IsAlike m (spawn_count s o x) (spawn_count s o y)
  spawn_alike m None x y p = refl
  spawn_alike m (Some kind) x y p = add_alike m (unwrap_or (option_map (λ j. 0) kind.above) 1) (unwrap_or (option_map (λ j. 0) kind.above) 1) x y refl p

  reason_alike : (m : ℕ) (f g : ℕ → ℕ) (r : Reason) → ((e : ℕ) → Contains (named_by r) e → IsAlike m (f e) (g e)) → IsAlike m (reason_count s f r) (reason_count s g r)
  reason_alike m f g Start alike = refl
  reason_alike m f g (Local l) alike = refl
  reason_alike m f g (Up l) alike = refl
  reason_alike m f g (Down l (Real k)) alike = refl
  reason_alike m f g (Down l (Grown c e)) alike = spawn_alike m (spawned s c) (f e) (g e) (alike e (0, omega arith, refl))

  -- counts of items that agree on what these name
  items_alike : (m : ℕ) (f g : ℕ → ℕ) (items : List ProofItem) → ((e : ℕ) → Contains (names_of items) e → IsAlike m (f e) (g e)) → IsAlike m (items_count s f items) (items_count s g items)
  items_alike m f g [] alike = refl
  items_alike m f g (i ∷ items) alike =
      let one = reason_alike m f g i.reason (λ e is. alike e (Contains-append_left (named_by i.reason) (names_of items) e is)) in
      let rest = items_alike m f g items (λ e is. alike e (Contains-append_right (named_by i.reason) (names_of items) e is)) in
      let whole = add_alike m (reason_count s f i.reason) (reason_count s g i.reason) (items_count s f items) (items_count s g items) one rest in
      ap (λ n. min n m) (sum_by-cons (λ (x : ProofItem). reason_count s f x.reason) i items) ∙ whole ∙ ap (λ n. min n m) (sym (sum_by-cons (λ (x : ProofItem). reason_count s g x.reason) i items))

  module _ (entries : List Entry) (lower : (e f : ℕ) (entry : Entry) → slice_get entries e ≡ Some entry → Contains (names_of entry.items) f → f < e) where
    count_at : (n e : ℕ) (entry : Entry) → slice_get entries e ≡ Some entry → entry_count s entries (suc n) e ≡ items_count s (entry_count s entries n) entry.items
    count_at n e entry at = ap (λ o. unwrap_or (option_map (λ (x : Entry). items_count s (entry_count s entries n) x.items) o) 0) at

    count_none : (n e : ℕ) → slice_get entries e ≡ None → entry_count s entries (suc n) e ≡ 0
    count_none n e none = ap (λ o. unwrap_or (option_map (λ (x : Entry). items_count s (entry_count s entries n) x.items) o) 0) none

    -- it goes no deeper than its number, up to a bound
    deep : (m fuel e n k : ℕ) → e ≤ fuel → e < n → e < k → IsAlike m (entry_count s entries n e) (entry_count s entries k e)
    deep m fuel e zero k le lt lt' = absurd (omega (arith, lt))
    deep m fuel e (suc n) zero le lt lt' = absurd (omega (arith, lt'))
    deep m zero e (suc n) (suc k) le lt lt' = elim (slice_get entries e) as (λ o. slice_get entries e ≡ o → IsAlike m (entry_count s entries (suc n) e) (entry_count s entries (suc k) e)) [
      | None ↦ λ at. ap (λ x. min x m) (count_none n e at ∙ sym (count_none k e at))
      | Some entry ↦ λ at.
          ap (λ x. min x m) (count_at n e entry at) ∙ items_alike m (entry_count s entries n) (entry_count s entries k) entry.items (λ f is. let less = lower e f entry at is in absurd (omega (arith, less, le)))
          ∙ ap (λ x. min x m) (sym (count_at k e entry at))
    ] refl
    deep m (suc fuel) e (suc n) (suc k) le lt lt' = elim (slice_get entries e) as (λ o. slice_get entries e ≡ o → IsAlike m (entry_count s entries (suc n) e) (entry_count s entries (suc k) e)) [
      | None ↦ λ at. ap (λ x. min x m) (count_none n e at ∙ sym (count_none k e at))
      | Some entry ↦ λ at.
          ap (λ x. min x m) (count_at n e entry at)
          ∙ items_alike m (entry_count s entries n) (entry_count s entries k) entry.items
          (λ f is. let less = lower e f entry at is in deep m fuel f n k (omega (arith, less, le)) (omega (arith, less, lt)) (omega (arith, less, lt')))
          ∙ ap (λ x. min x m) (sym (count_at k e entry at))
    ] refl

    module _ (steps : (e : ℕ) (entry : Entry) → slice_get entries e ≡ Some entry → entry.steps ≡ min (items_count s (kept_steps (take e entries)) entry.items) MOST_STEPS) where
      abbrev IsRight : ℕ → Entry → Type 0
      IsRight e entry = entry.steps ≡ min (entry_count s entries (suc e) e) MOST_STEPS

      kept_at : (e f : ℕ) (entry : Entry) → f < e → slice_get entries f ≡ Some entry → kept_steps (take e entries) f ≡ entry.steps
      kept_at e f entry less at = ap (λ o. unwrap_or (option_map (λ (x : Entry). x.steps) o) 0) (slice_get-take entries e f less ∙ at)

      twice : (x m : ℕ) → min (min x m) m ≡ min x m
      twice x m = omega arith

      right_one : (e : ℕ) (entry : Entry) → slice_get entries e ≡ Some entry → ((f : ℕ) (other : Entry) → f < e → slice_get entries f ≡ Some other → IsRight f other) → IsRight e entry
      right_one e entry at before =
          steps e entry at ∙ items_alike MOST_STEPS (kept_steps (take e entries)) (entry_count s entries e) entry.items alike ∙ ap (λ x. min x MOST_STEPS) (sym (count_at e e entry at))
        where
          alike : (f : ℕ) → Contains (names_of entry.items) f → IsAlike MOST_STEPS (kept_steps (take e entries) f) (entry_count s entries e f)
          alike f is =
              let less = lower e f entry at is in
              let within = slice_get_within entries e entry at in
              let other = element_at entries f (omega (arith, less, within)) in
              ap (λ x. min x MOST_STEPS) (kept_at e f other.0 less other.1 ∙ before f other.0 less other.1)
              ∙ twice (entry_count s entries (suc f) f) MOST_STEPS ∙ deep MOST_STEPS f f (suc f) e (omega arith) (omega arith) less

      right_by : (fuel e : ℕ) (entry : Entry) → e ≤ fuel → slice_get entries e ≡ Some entry → IsRight e entry
      right_by zero e entry le at = right_one e entry at (λ f other less at'. absurd (omega (arith, less, le)))
      right_by (suc fuel) e entry le at = right_one e entry at (λ f other less at'. right_by fuel f other (omega (arith, less, le)) at')

      pub steps_right : (e : ℕ) (entry : Entry) → slice_get entries e ≡ Some entry → entry.steps ≡ min (entry_count s entries (suc e) e) MOST_STEPS
      steps_right e entry at = right_by e e entry (omega arith) at

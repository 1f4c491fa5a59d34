-- Entries that hold, one after another.
use Rattle.std.proofs.Common.{◌≡◌, ◌⊎◌, ℕ, zero, suc, ◌<◌, ◌≤◌, Bool, true, false, min, ◌==◌, ◌&&◌, List, [], ◌∷◌, drop, Option, Some, None, option_map, unwrap_or, slice_get, inl, inr, refl, sym, ap, subst, ◌∙◌, arith}
use Rattle.std.proofs.lemmas.Bool.{and_parts, cases_order}
use Rattle.std.proofs.lemmas.Bool.Decides.{Decides-eqb}
use Rattle.tp_base.proofs.Lists.{drop_at}
use Rattle.tp_base.proofs.Truths.{other_number}
use Rattle.simple_core.specs.declared.system.System.{System}
use Rattle.proof_check.specs.declared.firsts.Firsts.{Firsts}
use Rattle.proof_check.specs.declared.proofs.Entry.{Entry}
use Rattle.proof_check.specs.Checks.{are_sound, entries_hold}
use Rattle.proof_check.specs.Firsts.{KnowsOf, KnowsBelow, KeepsBut}
use Rattle.proof_check.specs.Kept.{kept_steps}
use Rattle.proof_check.specs.Unfolding.{items_count, entry_count}
use Rattle.proof_check.specs.Validity.{MOST_STEPS, AreSound, in_entry}
use Rattle.proof_check.proofs.CheckLemmas.{all_sound_decides}
use Rattle.proof_check.proofs.EntryLemmas.{AreRight, kept_below}
use Rattle.proof_check.proofs.StepLemmas.{items_same, items_kept, min_twice}

pub below_or_same : (e n : ℕ) → e < suc n → (e < n) ⊎ (e ≡ n)
below_or_same e n lt = elim (cases_order e n) [
  | inl same ↦ inr same
  | inr (inl less) ↦ inl less
  | inr (inr more) ↦ absurd (omega (arith, lt, more))
]

-- the table has one entry more
pub below_one : (entries : List Entry) (n : ℕ) (old new : Firsts) (entry : Entry) → slice_get entries n ≡ Some entry → KnowsBelow old n entries → KnowsOf new n entry.items → KeepsBut n old new → KnowsBelow new (suc n) entries
below_one entries n old new entry at below this keeps e other lt is = elim (below_or_same e n lt) [
  | inl less ↦ kept_below entries n old new below keeps e other less is
  | inr same ↦
      let one : entry ≡ other = let both : Some entry ≡ Some other = sym at ∙ ap (slice_get entries) (sym same) ∙ is in cc in
      subst (λ m. KnowsOf new m other.items) (sym same) (subst (λ (x : Entry). KnowsOf new n x.items) one this)
]

pub empty_one : (n : ℕ) (old new : Firsts) → ((m : ℕ) → n ≤ m → KnowsOf old m []) → KeepsBut n old new → (m : ℕ) → suc n ≤ m → KnowsOf new m []
empty_one n old new empty keeps m past a = keeps m a (other_number n m (λ s. omega (arith, past, s))) ∙ empty m (omega (arith, past)) a

module _ (system : System) (entries : List Entry) where
  count_none : (n e : ℕ) → slice_get entries e ≡ None → entry_count system entries n e ≡ 0
  count_none zero e at = refl
  count_none (suc n) e at = rw at refl

  -- it doesn't matter how deep the count goes in entries that hold
  deep_right : (b n e m k : ℕ) → AreRight system entries n → e < b → e < n → e < m → e < k → entry_count system entries m e ≡ entry_count system entries k e
  deep_right zero n e m k right lb ln lm lk = absurd (omega (arith, lb))
  deep_right (suc b) n e zero k right lb ln lm lk = absurd (omega (arith, lm))
  deep_right (suc b) n e (suc m) zero right lb ln lm lk = absurd (omega (arith, lk))
  deep_right (suc b) n e (suc m) (suc k) right lb ln lm lk =
      elim (slice_get entries e) as (λ o. slice_get entries e ≡ o → unwrap_or (option_map (λ (entry : Entry). items_count system (entry_count system entries m) entry.items) o) 0
      ≡ unwrap_or (option_map (λ (entry : Entry). items_count system (entry_count system entries k) entry.items) o) 0) [
        | None ↦ λ at. refl
        | Some entry ↦ λ at. items_same system entries (entry_count system entries m) (entry_count system entries k) entry.items (in_entry system e entry)
            (λ f less. deep_right b n f m k right (omega (arith, less, lb)) (omega (arith, less, ln)) (omega (arith, less, lm)) (omega (arith, less, lk))) (right e entry ln at).0
      ] refl

  kept_right : (n e : ℕ) → AreRight system entries n → e < n → min (kept_steps entries e) MOST_STEPS ≡ min (entry_count system entries n e) MOST_STEPS
  kept_right n e right lt =
      elim (slice_get entries e) as (λ o. slice_get entries e ≡ o → min (unwrap_or (option_map (λ (entry : Entry). entry.steps) o) 0) MOST_STEPS ≡ min (entry_count system entries n e) MOST_STEPS) [
        | None ↦ λ at. ap (λ z. min z MOST_STEPS) (sym (count_none n e at))
        | Some entry ↦ λ at. ap (λ z. min z MOST_STEPS) (right e entry lt at).1 ∙ min_twice MOST_STEPS (entry_count system entries (suc e) e)
            ∙ ap (λ z. min z MOST_STEPS) (deep_right (suc e) n e (suc e) n right (omega arith) lt (omega arith) lt)
      ] refl

  -- the steps of an entry from the numbers that those before it keep
  counted_right : (n : ℕ) (entry : Entry) → AreRight system entries n → slice_get entries n ≡ Some entry → AreSound system entries (in_entry system n entry) entry.items
      → min (items_count system (kept_steps entries) entry.items) MOST_STEPS ≡ min (entry_count system entries (suc n) n) MOST_STEPS
  counted_right n entry right at sound =
      items_kept system entries (kept_steps entries) (entry_count system entries n) MOST_STEPS entry.items (in_entry system n entry) (λ e lt. kept_right n e right lt) sound
      ∙ ap (λ (o : Option Entry). min (unwrap_or (option_map (λ (x : Entry). items_count system (entry_count system entries n) x.items) o) 0) MOST_STEPS) (sym at)

  abbrev pub holds_by : ℕ → Entry → Bool
  holds_by n entry = are_sound system entries (in_entry system n entry) entry.items && entry.steps == min (items_count system (kept_steps entries) entry.items) MOST_STEPS

  pub hold_one : (n : ℕ) (entry : Entry) → AreRight system entries n → slice_get entries n ≡ Some entry
      → entries_hold system entries n (drop n entries) ≡ (holds_by n entry && entries_hold system entries (suc n) (drop (suc n) entries))
  hold_one n entry right at =
      ap (entries_hold system entries n) (drop_at entries n entry at)
      ∙ elim (are_sound system entries (in_entry system n entry) entry.items) as (λ b. are_sound system entries (in_entry system n entry) entry.items ≡ b
      → (b && (entry.steps == min (entry_count system entries (suc n) n) MOST_STEPS && entries_hold system entries (suc n) (drop (suc n) entries)))
      ≡ ((b && entry.steps == min (items_count system (kept_steps entries) entry.items) MOST_STEPS) && entries_hold system entries (suc n) (drop (suc n) entries))) [
        | false ↦ λ eq. refl
        | true ↦ λ eq. ap (λ z. entry.steps == z && entries_hold system entries (suc n) (drop (suc n) entries)) (sym (counted_right n entry right at ((all_sound_decides system entries entry.items (in_entry system n entry)).0 eq)))
      ] refl

  pub right_one : (n : ℕ) (entry : Entry) → AreRight system entries n → slice_get entries n ≡ Some entry → holds_by n entry ≡ true → AreRight system entries (suc n)
  right_one n entry right at holds e other lt is = elim (below_or_same e n lt) [
    | inl less ↦ right e other less is
    | inr same ↦
        let one : entry ≡ other = let both : Some entry ≡ Some other = sym at ∙ ap (slice_get entries) (sym same) ∙ is in cc in
        let parts = and_parts (are_sound system entries (in_entry system n entry) entry.items) (entry.steps == min (items_count system (kept_steps entries) entry.items) MOST_STEPS) holds in
        let sound = (all_sound_decides system entries entry.items (in_entry system n entry)).0 parts.0 in
        let count = (Decides-eqb entry.steps (min (items_count system (kept_steps entries) entry.items) MOST_STEPS)).0 parts.1 ∙ counted_right n entry right at sound in
        subst (λ m. AreSound system entries (in_entry system m other) other.items × (other.steps ≡ min (entry_count system entries (suc m) m) MOST_STEPS)) (sym same)
        (subst (λ (x : Entry). AreSound system entries (in_entry system n x) x.items × (x.steps ≡ min (entry_count system entries (suc n) n) MOST_STEPS)) one (sound, count))
  ]

-- Kept numbers of steps are right at any depth, and sums of them up to the greatest number.
use Rattle.std.proofs.Common.{◌≡◌, ℕ, zero, suc, ◌+◌, ◌<◌, ◌≤◌, min, List, [], ◌∷◌, ◌++◌, length, sum_by, Some, None, option_map, unwrap_or, slice_get, refl, sym, ap, ◌∙◌, arith}
use Rattle.std.proofs.lemmas.List.Sums.{sum_by-cons}
use Rattle.tree_sem.specs.Trees.{LabelTree}
use Rattle.simple_core.specs.declared.system.System.{System}
use Rattle.proof_check.specs.declared.proofs.Below.TheVariants.{Real, Grown}
use Rattle.proof_check.specs.declared.proofs.Reason.{Reason}
use Rattle.proof_check.specs.declared.proofs.Reason.TheVariants.{Start, Local, Up, Down}
use Rattle.proof_check.specs.declared.proofs.ProofItem.{ProofItem}
use Rattle.proof_check.specs.declared.proofs.Entry.{Entry}
use Rattle.proof_check.specs.declared.proofs.PageItem.{PageItem}
use Rattle.proof_check.specs.declared.proofs.Proof.{Proof}
use Rattle.proof_check.specs.Unfolding.{spawned, spawn_count, reason_count, items_count, entry_count, proof_steps}
use Rattle.proof_check.specs.Kept.{kept_steps}
use Rattle.proof_check.specs.Validity.{MOST_STEPS, Place, IsSound, AreSound, in_entry, at_page, ArePlaced, IsValid}

-- the entry that a reason names, if it names one, is below n
abbrev pub NamesBelow : ℕ → Reason → Type 0
NamesBelow n (Down l (Grown c e)) = e < n
NamesBelow n reason = Unit {0}

module _ (system : System) where
  pub sound_names : (entries : List Entry) (place : Place) (atom : ℕ) (reason : Reason) → IsSound system entries place atom reason → NamesBelow place.lower reason
  sound_names entries place atom Start sound = tt
  sound_names entries place atom (Local l) sound = tt
  sound_names entries place atom (Up l) sound = tt
  sound_names entries place atom (Down l (Real k)) sound = tt
  sound_names entries place atom (Down l (Grown c e)) (link, at, to, spawn, at_spawn, kind, at_kind, entry, at_entry, below) = below.lower

  -- counts that agree on what is named give one sum
  reason_same : (f g : ℕ → ℕ) (n : ℕ) → ((e : ℕ) → e < n → f e ≡ g e) → (reason : Reason) → NamesBelow n reason → reason_count system f reason ≡ reason_count system g reason
  reason_same f g n same Start names = refl
  reason_same f g n same (Local l) names = refl
  reason_same f g n same (Up l) names = refl
  reason_same f g n same (Down l (Real k)) names = refl
  reason_same f g n same (Down l (Grown c e)) names = ap (spawn_count system (spawned system c)) (same e names)

  pub items_same : (entries : List Entry) (f g : ℕ → ℕ) (items : List ProofItem) (place : Place) → ((e : ℕ) → e < place.lower → f e ≡ g e) → AreSound system entries place items → items_count system f items ≡ items_count system g items
  items_same entries f g [] place same sound = refl
  items_same entries f g (i ∷ items) place same sound =
      let first = reason_same f g place.lower same i.reason (sound_names entries place i.atom i.reason sound.0) in
      let rest = items_same entries f g items (record place { here = place.here ++ i ∷ [] }) same sound.1 in
      sum_by-cons (λ (x : ProofItem). reason_count system f x.reason) i items ∙ (λ k. first k + rest k) ∙ sym (sum_by-cons (λ (x : ProofItem). reason_count system g x.reason) i items)

  module _ (entries : List Entry) (sound : (n : ℕ) (entry : Entry) → slice_get entries n ≡ Some entry → AreSound system entries (in_entry system n entry) entry.items) where
    -- it doesn't matter how deep the count goes, if it goes deep enough
    pub deep_enough : (b e m n : ℕ) → e < b → e < m → e < n → entry_count system entries m e ≡ entry_count system entries n e
    deep_enough zero e m n lt lm ln = absurd (omega arith)
    deep_enough (suc b) e zero n lt lm ln = absurd (omega arith)
    deep_enough (suc b) e (suc m) zero lt lm ln = absurd (omega arith)
    deep_enough (suc b) e (suc m) (suc n) lt lm ln =
        elim (slice_get entries e) as (λ o. slice_get entries e ≡ o → unwrap_or (option_map (λ (entry : Entry). items_count system (entry_count system entries m) entry.items) o) 0
        ≡ unwrap_or (option_map (λ (entry : Entry). items_count system (entry_count system entries n) entry.items) o) 0) [
          | None ↦ λ at. refl
          | Some entry ↦ λ at. items_same entries (entry_count system entries m) (entry_count system entries n) entry.items (in_entry system e entry)
              (λ f less. deep_enough b f m n (omega arith) (omega arith) (omega arith)) (sound e entry at)
        ] refl

-- equal up to the greatest number
pub same_sum : (m a a' b b' : ℕ) → min a m ≡ min a' m → min b m ≡ min b' m → min (a + b) m ≡ min (a' + b') m
same_sum m a a' b b' x y = omega (arith, x, y)

pub min_twice : (m a : ℕ) → min (min a m) m ≡ min a m
min_twice m a = omega arith

-- sums of kept numbers
module _ (system : System) where
  reason_kept : (f g : ℕ → ℕ) (m n : ℕ) → ((e : ℕ) → e < n → min (f e) m ≡ min (g e) m) → (reason : Reason) → NamesBelow n reason → min (reason_count system f reason) m ≡ min (reason_count system g reason) m
  reason_kept f g m n same Start names = refl
  reason_kept f g m n same (Local l) names = refl
  reason_kept f g m n same (Up l) names = refl
  reason_kept f g m n same (Down l (Real k)) names = refl
  reason_kept f g m n same (Down l (Grown c e)) names =
      elim (spawned system c) as (λ o. min (spawn_count system o (f e)) m ≡ min (spawn_count system o (g e)) m) [
        | None ↦ refl
        | Some kind ↦ same_sum m (unwrap_or (option_map (λ (j : ℕ). 0) kind.above) 1) (unwrap_or (option_map (λ (j : ℕ). 0) kind.above) 1) (f e) (g e) refl (same e names)
      ]

  pub items_kept : (entries : List Entry) (f g : ℕ → ℕ) (m : ℕ) (items : List ProofItem) (place : Place) → ((e : ℕ) → e < place.lower → min (f e) m ≡ min (g e) m) → AreSound system entries place items
      → min (items_count system f items) m ≡ min (items_count system g items) m
  items_kept entries f g m [] place same sound = refl
  items_kept entries f g m (i ∷ items) place same sound =
      ap (λ z. min z m) (sum_by-cons (λ (x : ProofItem). reason_count system f x.reason) i items)
      ∙ same_sum m (reason_count system f i.reason) (reason_count system g i.reason) (items_count system f items) (items_count system g items)
      (reason_kept f g m place.lower same i.reason (sound_names system entries place i.atom i.reason sound.0)) (items_kept entries f g m items (record place { here = place.here ++ i ∷ [] }) same sound.1)
      ∙ ap (λ z. min z m) (sym (sum_by-cons (λ (x : ProofItem). reason_count system g x.reason) i items))

  pub page_kept : (entries : List Entry) (page : LabelTree) (f g : ℕ → ℕ) (m : ℕ) (items before : List PageItem) → ((e : ℕ) → e < length entries → min (f e) m ≡ min (g e) m) → ArePlaced system entries page before items
      → min (sum_by (λ i. reason_count system f i.item.reason) items) m ≡ min (sum_by (λ i. reason_count system g i.item.reason) items) m
  page_kept entries page f g m [] before same placed = refl
  page_kept entries page f g m (i ∷ items) before same (node, sound, placed) =
      ap (λ z. min z m) (sum_by-cons (λ (x : PageItem). reason_count system f x.item.reason) i items)
      ∙ same_sum m (reason_count system f i.item.reason) (reason_count system g i.item.reason) (sum_by (λ (x : PageItem). reason_count system f x.item.reason) items) (sum_by (λ (x : PageItem). reason_count system g x.item.reason) items)
      (reason_kept f g m (length entries) same i.item.reason (sound_names system entries (at_page page (length entries) before i.at) i.item.atom i.item.reason sound)) (page_kept entries page f g m items (before ++ i ∷ []) same placed)
      ∙ ap (λ z. min z m) (sym (sum_by-cons (λ (x : PageItem). reason_count system g x.item.reason) i items))

  -- the number of steps of a valid proof from the numbers that its entries keep
  pub steps_from_kept : (page : LabelTree) (proof : Proof) (target : ℕ) → IsValid system page proof target
      → min (sum_by (λ (i : PageItem). reason_count system (kept_steps proof.entries) i.item.reason) proof.page) MOST_STEPS ≡ min (proof_steps system proof) MOST_STEPS
  steps_from_kept page proof target valid =
      page_kept proof.entries page (kept_steps proof.entries) (entry_count system proof.entries (length proof.entries)) MOST_STEPS proof.page [] (λ e lt. kept e lt) valid.page_items
    where
      past : {X : Type 0} (xs : List X) (i : ℕ) → slice_get xs i ≡ None → length xs ≤ i
      past [] i at = omega arith
      past (x ∷ xs) zero at = cc
      past (x ∷ xs) (suc i) at = omega (arith, past xs i at)

      kept : (e : ℕ) → e < length proof.entries → min (kept_steps proof.entries e) MOST_STEPS ≡ min (entry_count system proof.entries (length proof.entries) e) MOST_STEPS
      kept e lt =
          elim (slice_get proof.entries e) as (λ o. slice_get proof.entries e ≡ o → min (unwrap_or (option_map (λ (entry : Entry). entry.steps) o) 0) MOST_STEPS ≡ min (entry_count system proof.entries (length proof.entries) e) MOST_STEPS) [
            | None ↦ λ at. let never : length proof.entries ≤ e = past proof.entries e at in absurd (omega arith)
            | Some entry ↦ λ at.
                ap (λ z. min z MOST_STEPS) (valid.counts e entry at) ∙ min_twice MOST_STEPS (entry_count system proof.entries (suc e) e)
                ∙ ap (λ z. min z MOST_STEPS) (deep_enough system proof.entries valid.entries (suc e) e (suc e) (length proof.entries) (omega arith) (omega arith) lt)
          ] refl

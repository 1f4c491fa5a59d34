-- How many steps an unfolding has.
use Rattle.std.proofs.Common.{◌≡◌, ℕ, zero, suc, ◌+◌, List, [], ◌∷◌, ◌++◌, length, sum_by, Option, Some, None, option_map, unwrap_or, slice_get, bytes_eq, if◌then◌else◌, ap, ◌∙◌, arith, length-append}
use Rattle.std.proofs.lemmas.List.Sums.{sum_by-cons}
use Rattle.tree_sem.specs.Trees.{LabelTree, children_at}
use Rattle.simple_core.specs.declared.rules.Kind.{Kind}
use Rattle.simple_core.specs.declared.rules.Local as rule
use Rattle.simple_core.specs.declared.system.System.{System}
use Rattle.proof_check.specs.declared.proofs.Below.TheVariants.{Real, Grown}
use Rattle.proof_check.specs.declared.proofs.Reason.{Reason}
use Rattle.proof_check.specs.declared.proofs.Reason.TheVariants.{Start, Local, Up, Down}
use Rattle.proof_check.specs.declared.proofs.ProofItem.{ProofItem}
use Rattle.proof_check.specs.declared.proofs.Entry.{Entry}
use Rattle.proof_check.specs.declared.proofs.PageItem.{PageItem}
use Rattle.proof_check.specs.declared.proofs.Proof.{Proof}
use Rattle.proof_check.specs.Unfolding.{Progress, Passed, with_step, child_for, from_of, spawned, needed_by, with_forest, after_local, grown_item, unfold_reason, unfold_item, unfold_items, unfold_page, unfold_entry, nothing_yet, unfolded, local_count, spawn_count, reason_count, items_count, entry_count, proof_steps, forest_children}

module _ (system : System) where
  -- entry_at makes as many steps as counted
  abbrev pub Counts : (ℕ → List ℕ → Progress → Progress × List Passed) → (ℕ → ℕ) → Type 0
  Counts entry_at count = (e : ℕ) (v : List ℕ) (done : Progress) → length (entry_at e v done).0.steps ≡ length done.steps + count e

  one_step : (s : ℕ) (v : List ℕ) (done : Progress) → length (with_step s v done).steps ≡ length done.steps + 1
  one_step s v done = length-append done.steps (record { stmt = s; at = v } ∷ [])

  local_steps : (o : Option rule.Local) (v : List ℕ) (done : Progress) → length (after_local system o v done).steps ≡ length done.steps + local_count system o
  local_steps None v done = omega arith
  local_steps (Some rule) v done =
      elim rule.stmt as (λ o. length (unwrap_or (option_map (λ s. with_step s v done) o) done).steps ≡ length done.steps + unwrap_or (option_map (λ s. 1) o) 0) [
        | None ↦ omega arith
        | Some s ↦ one_step s v done
      ]

  forest_steps : (kind : Kind) (atom : ℕ) (v : List ℕ) (here : List Passed) (done : Progress) → length (with_forest system kind atom v here done).steps ≡ length done.steps + 1
  forest_steps kind atom v here done = length-append done.steps (record { stmt = kind.stmt; at = if kind.beside then v ++ child_for atom here ∷ [] else v } ∷ [])

  module _ (entry_at : ℕ → List ℕ → Progress → Progress × List Passed) (count : ℕ → ℕ) (counts : Counts entry_at count) where
    grown_steps : (o : Option Kind) (item : ProofItem) (from atom e base : ℕ) (v : List ℕ) (here : List Passed) (done : Progress)
        → length (grown_item system entry_at o item from atom e base v here done).0.steps ≡ length done.steps + spawn_count system o (count e)
    grown_steps None item from atom e base v here done = omega arith
    grown_steps (Some kind) item from atom e base v here done =
        elim kind.above as (λ o. length (entry_at e (v ++ unwrap_or (option_map (λ j. kind.number) o) (base + done.added v + kind.number) ∷ []) (unwrap_or (option_map (λ j. done) o) (with_forest system kind atom v here done))).0.steps
        ≡ length done.steps + (unwrap_or (option_map (λ j. 0) o) 1 + count e)) [
          | Some j ↦ counts e (v ++ kind.number ∷ []) done ∙ ap (λ n. length done.steps + n) (omega arith)
          | None ↦ omega (arith, counts e (v ++ (base + done.added v + kind.number) ∷ []) (with_forest system kind atom v here done), forest_steps kind atom v here done)
        ]

    pub reason_steps : (reason : Reason) (item : ProofItem) (base : ℕ) (v : List ℕ) (here : List Passed) (real : ℕ → List Passed) (done : Progress)
        → length (unfold_reason system entry_at reason item base v here real done).0.steps ≡ length done.steps + reason_count system count reason
    reason_steps Start item base v here real done = omega arith
    reason_steps (Local l) item base v here real done = local_steps (slice_get system.local l) v done
    reason_steps (Up l) item base v here real done = omega arith
    reason_steps (Down l (Real k)) item base v here real done = omega arith
    reason_steps (Down l (Grown c e)) item base v here real done = grown_steps (spawned system c) item (from_of (slice_get system.down l)) (needed_by system c) e base v here done

    pub items_steps : (items : List ProofItem) (base : ℕ) (v : List ℕ) (here : List Passed) (done : Progress)
        → length (unfold_items system entry_at items base v here done).0.steps ≡ length done.steps + items_count system count items
    items_steps [] base v here done = omega arith
    items_steps (i ∷ items) base v here done =
        let one = unfold_item system entry_at i base v here (λ k. []) done in
        omega (arith, reason_steps i.reason i base v here (λ k. []) done, items_steps items base v (here ++ one.1 ∷ []) one.0, sum_by-cons (λ (x : ProofItem). reason_count system count x.reason) i items)

    pub page_steps : (page : LabelTree) (items : List PageItem) (passed : List ℕ → List Passed) (done : Progress)
        → length (unfold_page system entry_at page items passed done).0.steps ≡ length done.steps + sum_by (λ i. reason_count system count i.item.reason) items
    page_steps page [] passed done = omega arith
    page_steps page (i ∷ items) passed done =
        let one = unfold_item system entry_at i.item (unwrap_or (children_at i.at page) 0) i.at (passed i.at) (λ k. passed (i.at ++ k ∷ [])) done in
        omega (arith, reason_steps i.item.reason i.item (unwrap_or (children_at i.at page) 0) i.at (passed i.at) (λ k. passed (i.at ++ k ∷ [])) done, page_steps page items (λ q. if bytes_eq i.at q then passed q ++ one.1 ∷ [] else passed q) one.0, sum_by-cons (λ (x : PageItem). reason_count system count x.item.reason) i items)

  pub entry_steps : (entries : List Entry) (n : ℕ) → Counts (unfold_entry system entries n) (entry_count system entries n)
  entry_steps entries zero e v done = omega arith
  entry_steps entries (suc n) e v done =
      elim (slice_get entries e) as (λ o. length (unwrap_or (option_map (λ (entry : Entry). unfold_items system (unfold_entry system entries n) entry.items (forest_children system entry.kind) v [] done) o) (done, [])).0.steps
      ≡ length done.steps + unwrap_or (option_map (λ entry. items_count system (entry_count system entries n) entry.items) o) 0) [
        | None ↦ omega arith
        | Some entry ↦ items_steps (unfold_entry system entries n) (entry_count system entries n) (entry_steps entries n) entry.items (forest_children system entry.kind) v [] done
      ]

  -- the count is the length
  pub length-unfolded : (proof : Proof) (page : LabelTree) (target : ℕ) → length (unfolded system proof page target).0 ≡ proof_steps system proof
  length-unfolded proof page target =
      omega (arith, page_steps (unfold_entry system proof.entries (length proof.entries)) (entry_count system proof.entries (length proof.entries)) (entry_steps proof.entries (length proof.entries)) page proof.page (λ q. []) (nothing_yet system))

-- Walks through the entries of a proof, where the levels above wait on a stack.
--     rest_of s es v walk done    the result of the rest of a walk that began at the node v
--     walk_work s es walk         an upper bound on the turns of the walk
use Rattle.std.specs.Prelude.{◌≡◌, ℕ, zero, suc, ◌+◌, ◌-◌, List, [], ◌∷◌, ◌++◌, length, map, drop, Some, option_map, unwrap_or, slice_get}
use Rattle.simple_core.specs.declared.system.System.{System}
use Rattle.proof_core.specs.Passes.{seen}
use Rattle.proof_check.specs.declared.proofs.Below.TheVariants.{Real, Grown}
use Rattle.proof_check.specs.declared.proofs.Reason.{Reason}
use Rattle.proof_check.specs.declared.proofs.Reason.TheVariants.{Start, Local, Up, Down}
use Rattle.proof_check.specs.declared.proofs.ProofItem.{ProofItem}
use Rattle.proof_check.specs.declared.proofs.Entry.{Entry}
use Rattle.proof_core.specs.declared.walks.Frame.{Frame}
use Rattle.proof_core.specs.declared.walks.Level.{Level}
use Rattle.proof_core.specs.declared.walks.Walk.{Walk}
use Rattle.proof_check.specs.Unfolding.{Progress, Passed, end_for, forest_children, unfold_items, unfold_entry}

-- the items of the entry e, where n levels of entries may be below it
abbrev pub level_items : List Entry → ℕ → ℕ → List ProofItem
level_items es zero e = []
level_items es (suc n) e = unwrap_or (option_map (λ (entry : Entry). entry.items) (slice_get es e)) []

abbrev pub Outcome : Type 0
Outcome = Progress × List Passed

-- the number of children that a node of the entry's kind had before all steps
abbrev pub level_base : System → List Entry → ℕ → ℕ
level_base s es e = unwrap_or (option_map (λ (entry : Entry). forest_children s entry.kind) (slice_get es e)) 0

-- the item at which a frame waits, once the level for which it waits has passed `inside`
abbrev pub frame_pass : Frame → List ℕ → List Passed → Passed
frame_pass f v inside = record { atom = f.atom; child = Some f.child; end = end_for f.from inside (v ++ f.child ∷ []) }

-- the present node of a walk that began at v
abbrev pub node_of : List ℕ → List Frame → List ℕ
node_of v fs = v ++ map (λ (f : Frame). f.child) fs

module _ (s : System) (es : List Entry) where
  -- the unfolding of the items of a level from the n-th on; `here` was passed before them
  abbrev pub on_from : Level → ℕ → List ℕ → List Passed → Progress → Outcome
  on_from level n v here done = unfold_items s (unfold_entry s es (level.depth - 1)) (drop n (level_items es level.depth level.entry)) (level_base s es level.entry) v here done

  abbrev pub level_rest : Level → List ℕ → Progress → Outcome
  level_rest level v done = on_from level (length level.here) v (seen v level.here) done

  abbrev pub frame_rest : Frame → List ℕ → Outcome → Outcome
  frame_rest f v inside = on_from f.level (suc (length f.level.here)) v (seen v f.level.here ++ frame_pass f v inside.1 ∷ []) inside.0

  -- the unfolding of the rest of the frames, the outermost first, with `top` for the present level
  abbrev pub frames_rest : List Frame → List ℕ → (List ℕ → Outcome) → Outcome
  frames_rest [] v top = top v
  frames_rest (f ∷ fs) v top = frame_rest f v (frames_rest fs (v ++ f.child ∷ []) top)

  abbrev pub rest_of : List ℕ → Walk → Progress → Outcome
  rest_of v walk done = frames_rest walk.stack.items v (λ w. level_rest walk.level w done)

  -- the new walk has the same result as the old one, whatever node that one began at
  abbrev pub GoesOn : Walk → Progress → Walk → Progress → Type 0
  GoesOn old before new after = (v : List ℕ) → old.at ≡ node_of v old.stack.items → (new.at ≡ node_of v new.stack.items) × (rest_of v new after ≡ rest_of v old before)

-- `inside e` are the turns of the entry e
abbrev pub reason_work : (ℕ → ℕ) → Reason → ℕ
reason_work inside Start = 1
reason_work inside (Local l) = 1
reason_work inside (Up l) = 1
reason_work inside (Down l (Real k)) = 1
reason_work inside (Down l (Grown c e)) = 3 + inside e

abbrev pub items_work : (ℕ → ℕ) → List ProofItem → ℕ
items_work inside [] = 0
items_work inside (i ∷ items) = reason_work inside i.reason + items_work inside items

module _ (es : List Entry) where
  abbrev pub entry_work : ℕ → ℕ → ℕ
  entry_work zero e = 0
  entry_work (suc n) e = items_work (entry_work n) (level_items es (suc n) e)

  abbrev pub work_from : Level → ℕ → ℕ
  work_from level n = items_work (entry_work (level.depth - 1)) (drop n (level_items es level.depth level.entry))

  abbrev pub frame_work : Frame → ℕ
  frame_work f = 1 + work_from f.level (suc (length f.level.here))

  abbrev pub frames_work : List Frame → ℕ
  frames_work [] = 0
  frames_work (f ∷ fs) = frame_work f + frames_work fs

  abbrev pub walk_work : Walk → ℕ
  walk_work walk = work_from walk.level (length walk.level.here) + frames_work walk.stack.items

-- Each turn of a walk leaves less work.
use Rattle.std.proofs.Common.{◌≡◌, ◌<◌, ◌≤◌, ℕ, zero, suc, ◌+◌, ◌-◌, List, [], ◌∷◌, ◌++◌, length, Some, slice_get, refl, ap, ◌∙◌, arith, length-append}
use Rattle.tp_base.proofs.Lists.{drop_none, drop_at}
use Rattle.proof_core.specs.declared.passes.Pass.{Pass}
use Rattle.proof_check.specs.declared.proofs.Below.TheVariants.{Real, Grown}
use Rattle.proof_check.specs.declared.proofs.Reason.{Reason}
use Rattle.proof_check.specs.declared.proofs.Reason.TheVariants.{Start, Local, Up, Down}
use Rattle.proof_check.specs.declared.proofs.ProofItem.{ProofItem}
use Rattle.proof_check.specs.declared.proofs.Entry.{Entry}
use Rattle.proof_core.specs.declared.walks.Frame.{Frame}
use Rattle.proof_core.specs.declared.walks.Level.{Level}
use Rattle.proof_core.specs.declared.walks.Walk.{Walk}
use Rattle.proof_core.specs.Walks.{level_items, reason_work, items_work, entry_work, work_from, frame_work, frames_work, walk_work}

some_work : (inside : ℕ → ℕ) (reason : Reason) → 0 < reason_work inside reason
some_work inside Start = omega arith
some_work inside (Local l) = omega arith
some_work inside (Up l) = omega arith
some_work inside (Down l (Real k)) = omega arith
some_work inside (Down l (Grown c e)) = omega arith

module _ (es : List Entry) where
  frames_more : (fs : List Frame) (f : Frame) → frames_work es (fs ++ f ∷ []) ≡ frames_work es fs + frame_work es f
  frames_more [] f = omega arith
  frames_more (g ∷ fs) f = omega (arith, frames_more fs f)

  begins : (n e : ℕ) → items_work (entry_work es (n - 1)) (level_items es n e) ≡ entry_work es n e
  begins zero e = refl
  begins (suc n) e = let less : suc n - 1 ≡ n = omega arith in ap (λ m. items_work (entry_work es m) (level_items es (suc n) e)) less

  one : (level : Level) (x : ProofItem) → slice_get (level_items es level.depth level.entry) (length level.here) ≡ Some x
      → work_from es level (length level.here) ≡ reason_work (entry_work es (level.depth - 1)) x.reason + work_from es level (suc (length level.here))
  one level x at = ap (items_work (entry_work es (level.depth - 1))) (drop_at (level_items es level.depth level.entry) (length level.here) x at)

  pushed : (level : Level) (here : List Pass) (p : Pass) → here ≡ level.here ++ p ∷ [] → work_from es level (length here) ≡ work_from es level (suc (length level.here))
  pushed level here p is = let n : length here ≡ suc (length level.here) = ap length is ∙ omega (arith, length-append level.here (p ∷ [])) in ap (work_from es level) n

  pub less_stay : (old : Walk) (x : ProofItem) (here : List Pass) (p : Pass) → slice_get (level_items es old.level.depth old.level.entry) (length old.level.here) ≡ Some x → here ≡ old.level.here ++ p ∷ []
      → walk_work es (record old { level = record old.level { here = here } }) < walk_work es old
  less_stay old x here p at is = omega (arith, one old.level x at, pushed old.level here p is, some_work (entry_work es (old.level.depth - 1)) x.reason)

  pub less_down : (old new : Walk) (x : ProofItem) (l c e atom from child : ℕ) → slice_get (level_items es old.level.depth old.level.entry) (length old.level.here) ≡ Some x → x.reason ≡ Down l (Grown c e)
      → new.level ≡ record { entry = e; depth = old.level.depth - 1; here = [] } → new.stack.items ≡ old.stack.items ++ record { level = old.level; atom = atom; from = from; child = child } ∷ []
      → walk_work es new < walk_work es old
  less_down old new x l c e atom from child at reason is_level is_stack =
      let f : Frame = record { level = old.level; atom = atom; from = from; child = child } in
      let fresh : Level = record { entry = e; depth = old.level.depth - 1; here = [] } in
      let there : work_from es new.level (length new.level.here) ≡ entry_work es (old.level.depth - 1) e
      = ap (λ (level : Level). work_from es level (length level.here)) is_level
      ∙ ap (items_work (entry_work es (fresh.depth - 1))) (drop_none (level_items es fresh.depth e)) ∙ begins fresh.depth e in
      let frames : frames_work es new.stack.items ≡ frames_work es old.stack.items + frame_work es f = ap (frames_work es) is_stack ∙ frames_more old.stack.items f in
      let turns : reason_work (entry_work es (old.level.depth - 1)) x.reason ≡ 3 + entry_work es (old.level.depth - 1) e = ap (reason_work (entry_work es (old.level.depth - 1))) reason in
      let whole = one old.level x at in
      omega (arith, there, frames, turns, whole)

  pub less_back : (old new : Walk) (f : Frame) (p : Pass) (here : List Pass) → old.stack.items ≡ new.stack.items ++ f ∷ [] → here ≡ f.level.here ++ p ∷ [] → new.level ≡ record f.level { here = here }
      → walk_work es new < walk_work es old
  less_back old new f p here is_stack is_here is_level =
      let there : work_from es new.level (length new.level.here) ≡ work_from es f.level (suc (length f.level.here))
      = ap (λ (level : Level). work_from es level (length level.here)) is_level ∙ pushed f.level here p is_here in
      let frames : frames_work es old.stack.items ≡ frames_work es new.stack.items + frame_work es f = ap (frames_work es) is_stack ∙ frames_more new.stack.items f in
      omega (arith, there, frames)

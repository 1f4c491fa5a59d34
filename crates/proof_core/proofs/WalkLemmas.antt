-- A walk goes on as the unfolding of its entries does.
use Rattle.std.proofs.Common.{◌≡◌, ◌≤◌, ℕ, zero, suc, ◌-◌, List, [], ◌∷◌, ◌++◌, length, map, drop, take, Some, None, option_map, unwrap_or, slice_get, refl, sym, ap, subst, ◌∙◌, append_assoc, arith, length-append}
use Rattle.std.proofs.lemmas.List.{append-nil, map-append}
use Rattle.tp_base.proofs.Lists.{drop_none, past_end, take_front, drop_at}
use Rattle.simple_core.specs.declared.rules.Kind.{Kind}
use Rattle.simple_core.specs.declared.system.System.{System}
use Rattle.proof_core.specs.declared.passes.Pass.{Pass}
use Rattle.proof_check.specs.declared.proofs.Below.TheVariants.{Grown}
use Rattle.proof_check.specs.declared.proofs.Reason.{Reason}
use Rattle.proof_check.specs.declared.proofs.Reason.TheVariants.{Down}
use Rattle.proof_check.specs.declared.proofs.ProofItem.{ProofItem}
use Rattle.proof_check.specs.declared.proofs.Entry.{Entry}
use Rattle.proof_core.specs.declared.walks.Frame.{Frame}
use Rattle.proof_core.specs.declared.walks.Level.{Level}
use Rattle.proof_core.specs.declared.walks.Walk.{Walk}
use Rattle.proof_core.specs.Passes.{passed_of, seen, way_for, named_for}
use Rattle.proof_core.specs.Trails.{number_for, with_forest_of}
use Rattle.proof_check.specs.Unfolding.{Progress, Passed, child_for, from_of, spawned, needed_by, forest_children, number_at, down_item, grown_item, unfold_reason, unfold_item, unfold_items, unfold_entry, entry_count}
use Rattle.proof_core.specs.Walks.{Outcome, level_items, level_base, on_from, level_rest, frame_pass, frame_rest, frames_rest, rest_of, node_of, GoesOn}
use Rattle.proof_check.proofs.CountLemmas.{items_steps, entry_steps}
use Rattle.proof_check.proofs.EntryLemmas.{drop_end}
use Rattle.proof_core.proofs.PassLemmas.{child-seen, passed_down}

take_none : {X : Type 0} (xs : List X) → take 0 xs ≡ []
take_none [] = refl
take_none (x ∷ xs) = refl

take_push : (xs : List ℕ) (x : ℕ) → take (length (xs ++ x ∷ []) - 1) (xs ++ x ∷ []) ≡ xs
take_push xs x = let n : length (xs ++ x ∷ []) - 1 ≡ length xs = omega (arith, length-append xs (x ∷ [])) in ap (λ z. take z (xs ++ x ∷ [])) n ∙ take_front xs (x ∷ [])

pub node_pushed : (v : List ℕ) (fs : List Frame) (f : Frame) → node_of v (fs ++ f ∷ []) ≡ node_of v fs ++ f.child ∷ []
node_pushed v fs f = ap (λ m. v ++ m) (map-append (λ (g : Frame). g.child) fs (f ∷ [])) ∙ sym (append_assoc v (map (λ (g : Frame). g.child) fs) (f.child ∷ []))

module _ (s : System) (es : List Entry) where
  frames_pushed : (fs : List Frame) (f : Frame) (v : List ℕ) (top : List ℕ → Outcome)
      → frames_rest s es (fs ++ f ∷ []) v top ≡ frames_rest s es fs v (λ w. frame_rest s es f w (top (w ++ f.child ∷ [])))
  frames_pushed [] f v top = refl
  frames_pushed (g ∷ fs) f v top = ap (frame_rest s es g v) (frames_pushed fs f (v ++ g.child ∷ []) top)

  frames_same : (fs : List Frame) (v : List ℕ) (top other : List ℕ → Outcome) → top (node_of v fs) ≡ other (node_of v fs) → frames_rest s es fs v top ≡ frames_rest s es fs v other
  frames_same [] v top other same = subst (λ w. top w ≡ other w) (append-nil v) same
  frames_same (g ∷ fs) v top other same =
      ap (frame_rest s es g v) (frames_same fs (v ++ g.child ∷ []) top other (subst (λ w. top w ≡ other w) (sym (append_assoc v (g.child ∷ []) (map (λ (f : Frame). f.child) fs))) same))

  -- a level with no item passed, and one with no item left
  level_begins : (n e : ℕ) (v : List ℕ) (done : Progress) → unfold_items s (unfold_entry s es (n - 1)) (level_items es n e) (level_base s es e) v [] done ≡ unfold_entry s es n e v done
  level_begins zero e v done = refl
  level_begins (suc n) e v done =
      let less : suc n - 1 ≡ n = omega arith in
      ap (λ m. unfold_items s (unfold_entry s es m) (level_items es (suc n) e) (level_base s es e) v [] done) less
      ∙ elim (slice_get es e) as (λ o. unfold_items s (unfold_entry s es n) (unwrap_or (option_map (λ (entry : Entry). entry.items) o) []) (unwrap_or (option_map (λ (entry : Entry). forest_children s entry.kind) o) 0) v [] done
      ≡ unwrap_or (option_map (λ (entry : Entry). unfold_items s (unfold_entry s es n) entry.items (forest_children s entry.kind) v [] done) o) (done, [])) [
        | None ↦ refl
        | Some entry ↦ refl
      ]

  pub level_starts : (level : Level) (v : List ℕ) (done : Progress) → level.here ≡ [] → level_rest s es level v done ≡ unfold_entry s es level.depth level.entry v done
  level_starts level v done none =
      ap (λ h. on_from s es level (length h) v (seen v h) done) none
      ∙ ap (λ xs. unfold_items s (unfold_entry s es (level.depth - 1)) xs (level_base s es level.entry) v [] done) (drop_none (level_items es level.depth level.entry))
      ∙ level_begins level.depth level.entry v done

  pub level_ends : (level : Level) (v : List ℕ) (done : Progress) → slice_get (level_items es level.depth level.entry) (length level.here) ≡ None
      → level_rest s es level v done ≡ (done, seen v level.here)
  level_ends level v done none =
      ap (λ xs. unfold_items s (unfold_entry s es (level.depth - 1)) xs (level_base s es level.entry) v (seen v level.here) done)
      (drop_end (level_items es level.depth level.entry) (length level.here) (past_end (level_items es level.depth level.entry) (length level.here) none))

  -- the next item of a level
  abbrev pub next_item : Level → ProofItem → List ℕ → Progress → Progress × Passed
  next_item level x v done = unfold_item s (unfold_entry s es (level.depth - 1)) x (level_base s es level.entry) v (seen v level.here) (λ k. []) done

  level_one : (level : Level) (x : ProofItem) (v : List ℕ) (done : Progress) → slice_get (level_items es level.depth level.entry) (length level.here) ≡ Some x
      → level_rest s es level v done ≡ on_from s es level (suc (length level.here)) v (seen v level.here ++ (next_item level x v done).1 ∷ []) (next_item level x v done).0
  level_one level x v done at =
      ap (λ xs. unfold_items s (unfold_entry s es (level.depth - 1)) xs (level_base s es level.entry) v (seen v level.here) done) (drop_at (level_items es level.depth level.entry) (length level.here) x at)

  -- a level with one item passed more
  level_pushed : (level : Level) (here : List Pass) (p : Pass) (v : List ℕ) (done : Progress) → here ≡ level.here ++ p ∷ []
      → level_rest s es (record level { here = here }) v done ≡ on_from s es level (suc (length level.here)) v (seen v level.here ++ passed_of v p ∷ []) done
  level_pushed level here p v done is =
      let n : length (level.here ++ p ∷ []) ≡ suc (length level.here) = omega (arith, length-append level.here (p ∷ [])) in
      let h : seen v (level.here ++ p ∷ []) ≡ seen v level.here ++ passed_of v p ∷ [] = map-append (passed_of v) level.here (p ∷ []) in
      ap (λ z. on_from s es level (length z) v (seen v z) done) is ∙ (λ j. on_from s es level (n j) v (h j) done)

  level_on : (level : Level) (x : ProofItem) (here : List Pass) (p : Pass) (v : List ℕ) (before after : Progress) → slice_get (level_items es level.depth level.entry) (length level.here) ≡ Some x
      → here ≡ level.here ++ p ∷ [] → after ≡ (next_item level x v before).0 → passed_of v p ≡ (next_item level x v before).1
      → level_rest s es (record level { here = here }) v after ≡ level_rest s es level v before
  level_on level x here p v before after at is first second =
      level_pushed level here p v after is
      ∙ (λ j. on_from s es level (suc (length level.here)) v (seen v level.here ++ second j ∷ []) (first j))
      ∙ sym (level_one level x v before at)

  -- an item whose child is grown
  pub grown_is : (u : ℕ → List ℕ → Progress → Outcome) (x : ProofItem) (l c e child number base : ℕ) (kind : Kind) (v : List ℕ) (here : List Passed) (real : ℕ → List Passed) (before after : Progress)
      → x.reason ≡ Down l (Grown c e) → spawned s c ≡ Some kind → child ≡ child_for (needed_by s c) here → number ≡ number_for kind base v before → after ≡ with_forest_of kind v child before
      → unfold_item s u x base v here real before ≡ down_item s x (from_of (slice_get s.down l)) number (v ++ number ∷ []) (u e (v ++ number ∷ []) after)
  grown_is u x l c e child number base kind v here real before after reason is_kind is_child is_number is_after =
      let from = from_of (slice_get s.down l) in
      let k = number_at s kind base v before in
      let reasoned : unfold_item s u x base v here real before ≡ grown_item s u (spawned s c) x from (needed_by s c) e base v here before
      = ap (λ r. unfold_reason s u r x base v here real before) reason in
      let by_kind : grown_item s u (spawned s c) x from (needed_by s c) e base v here before
      ≡ down_item s x from k (v ++ k ∷ []) (u e (v ++ k ∷ []) (with_forest_of kind v (child_for (needed_by s c) here) before))
      = ap (λ o. grown_item s u o x from (needed_by s c) e base v here before) is_kind in
      let same_child : child_for (needed_by s c) here ≡ child = sym is_child in
      let same_after : with_forest_of kind v (child_for (needed_by s c) here) before ≡ after = ap (λ z. with_forest_of kind v z before) same_child ∙ sym is_after in
      reasoned ∙ by_kind ∙ (λ j. down_item s x from (sym is_number j) (v ++ sym is_number j ∷ []) (u e (v ++ sym is_number j ∷ []) (same_after j)))

  pub none_is : (u : ℕ → List ℕ → Progress → Outcome) (x : ProofItem) (l c e base : ℕ) (v : List ℕ) (here : List Passed) (real : ℕ → List Passed) (before : Progress) → x.reason ≡ Down l (Grown c e) → spawned s c ≡ None
      → unfold_item s u x base v here real before ≡ (before, record { atom = x.atom; child = None; end = v })
  none_is u x l c e base v here real before reason none =
      ap (λ r. unfold_reason s u r x base v here real before) reason ∙ ap (λ o. grown_item s u o x (from_of (slice_get s.down l)) (needed_by s c) e base v here before) none

  -- by the frame that waits for it
  level_down : (level : Level) (x : ProofItem) (l c e child number : ℕ) (kind : Kind) (v : List ℕ) (before after : Progress) → slice_get (level_items es level.depth level.entry) (length level.here) ≡ Some x
      → x.reason ≡ Down l (Grown c e) → spawned s c ≡ Some kind → child ≡ named_for (needed_by s c) level.here → number ≡ number_for kind (level_base s es level.entry) v before → after ≡ with_forest_of kind v child before
      → (f : Frame) → f ≡ record { level = level; atom = x.atom; from = from_of (slice_get s.down l); child = number }
      → level_rest s es level v before ≡ frame_rest s es f v (unfold_entry s es (level.depth - 1) e (v ++ f.child ∷ []) after)
  level_down level x l c e child number kind v before after at reason is_kind is_child is_number is_after f is =
      let u = unfold_entry s es (level.depth - 1) in
      let rest : Progress × Passed → Outcome = λ r. on_from s es level (suc (length level.here)) v (seen v level.here ++ r.1 ∷ []) r.0 in
      let frame : Frame = record { level = level; atom = x.atom; from = from_of (slice_get s.down l); child = number } in
      let whole : level_rest s es level v before ≡ frame_rest s es frame v (u e (v ++ number ∷ []) after)
      = level_one level x v before at ∙ ap rest (grown_is u x l c e child number (level_base s es level.entry) kind v (seen v level.here) (λ k. []) before after reason is_kind (is_child ∙ sym (child-seen v (needed_by s c) level.here)) is_number is_after) in
      whole ∙ ap (λ (g : Frame). frame_rest s es g v (u e (v ++ g.child ∷ []) after)) (sym is)

  -- the turns of a walk
  pub goes_stay : (old : Walk) (x : ProofItem) (here : List Pass) (p : Pass) (before after : Progress) → slice_get (level_items es old.level.depth old.level.entry) (length old.level.here) ≡ Some x
      → here ≡ old.level.here ++ p ∷ [] → after ≡ (next_item old.level x old.at before).0 → passed_of old.at p ≡ (next_item old.level x old.at before).1
      → GoesOn s es old before (record old { level = record old.level { here = here } }) after
  goes_stay old x here p before after at is first second v stands = (
    stands,
    frames_same old.stack.items v (λ w. level_rest s es (record old.level { here = here }) w after) (λ w. level_rest s es old.level w before)
        (subst (λ w. level_rest s es (record old.level { here = here }) w after ≡ level_rest s es old.level w before) stands (level_on old.level x here p old.at before after at is first second)),
  )

  -- by the reason of the item
  abbrev pub by_reason : Walk → ProofItem → Reason → Progress → Progress × Passed
  by_reason walk x reason done = unfold_reason s (unfold_entry s es (walk.level.depth - 1)) reason x (level_base s es walk.level.entry) walk.at (seen walk.at walk.level.here) (λ k. []) done

  pub goes_by : (old : Walk) (x : ProofItem) (reason : Reason) (here : List Pass) (p : Pass) (before after : Progress) → slice_get (level_items es old.level.depth old.level.entry) (length old.level.here) ≡ Some x
      → here ≡ old.level.here ++ p ∷ [] → x.reason ≡ reason → after ≡ (by_reason old x reason before).0 → passed_of old.at p ≡ (by_reason old x reason before).1
      → GoesOn s es old before (record old { level = record old.level { here = here } }) after
  goes_by old x reason here p before after at is same first second =
      goes_stay old x here p before after at is (first ∙ sym (ap (λ r. (by_reason old x r before).0) same)) (second ∙ sym (ap (λ r. (by_reason old x r before).1) same))

  pub goes_none : (old : Walk) (x : ProofItem) (l c e : ℕ) (here : List Pass) (p : Pass) (before : Progress) → slice_get (level_items es old.level.depth old.level.entry) (length old.level.here) ≡ Some x
      → here ≡ old.level.here ++ p ∷ [] → x.reason ≡ Down l (Grown c e) → spawned s c ≡ None → passed_of old.at p ≡ record { atom = x.atom; child = None; end = old.at }
      → GoesOn s es old before (record old { level = record old.level { here = here } }) before
  goes_none old x l c e here p before at is same none plain =
      let made : by_reason old x (Down l (Grown c e)) before ≡ (before, record { atom = x.atom; child = None; end = old.at })
      = ap (λ o. grown_item s (unfold_entry s es (old.level.depth - 1)) o x (from_of (slice_get s.down l)) (needed_by s c) e (level_base s es old.level.entry) old.at (seen old.at old.level.here) before) none in
      goes_by old x (Down l (Grown c e)) here p before before at is same (sym (ap (λ r. r.0) made)) (plain ∙ sym (ap (λ r. r.1) made))

  pub goes_down : (old new : Walk) (x : ProofItem) (l c e child number : ℕ) (kind : Kind) (before after : Progress) → slice_get (level_items es old.level.depth old.level.entry) (length old.level.here) ≡ Some x
      → x.reason ≡ Down l (Grown c e) → spawned s c ≡ Some kind → child ≡ named_for (needed_by s c) old.level.here → number ≡ number_for kind (level_base s es old.level.entry) old.at before → after ≡ with_forest_of kind old.at child before
      → new.at ≡ old.at ++ number ∷ [] → new.level ≡ record { entry = e; depth = old.level.depth - 1; here = [] }
      → new.stack.items ≡ old.stack.items ++ record { level = old.level; atom = x.atom; from = from_of (slice_get s.down l); child = number } ∷ []
      → GoesOn s es old before new after
  goes_down old new x l c e child number kind before after at reason is_kind is_child is_number is_after is_at is_level is_stack v stands =
      let f : Frame = record { level = old.level; atom = x.atom; from = from_of (slice_get s.down l); child = number } in
      let fresh : Level = record { entry = e; depth = old.level.depth - 1; here = [] } in
      let top : List ℕ → Outcome = λ w. frame_rest s es f w (level_rest s es fresh (w ++ number ∷ []) after) in
      let here : top old.at ≡ level_rest s es old.level old.at before
      = ap (frame_rest s es f old.at) (level_starts fresh (old.at ++ number ∷ []) after refl)
      ∙ sym (level_down old.level x l c e child number kind old.at before after at reason is_kind is_child is_number is_after f refl) in (
        is_at ∙ ap (λ w. w ++ number ∷ []) stands ∙ sym (node_pushed v old.stack.items f) ∙ ap (node_of v) (sym is_stack),
        (λ j. frames_rest s es (is_stack j) v (λ w. level_rest s es (is_level j) w after)) ∙ frames_pushed old.stack.items f v (λ w. level_rest s es fresh w after)
            ∙ frames_same old.stack.items v top (λ w. level_rest s es old.level w before) (subst (λ w. top w ≡ level_rest s es old.level w before) stands here),
      )

  pub goes_back : (old new : Walk) (f : Frame) (p : Pass) (here : List Pass) (done : Progress) → slice_get (level_items es old.level.depth old.level.entry) (length old.level.here) ≡ None
      → old.stack.items ≡ new.stack.items ++ f ∷ [] → new.at ≡ take (length old.at - 1) old.at → p.atom ≡ f.atom → p.child ≡ Some f.child → p.way.items ≡ way_for f.from old.level.here ++ f.child ∷ []
      → here ≡ f.level.here ++ p ∷ [] → new.level ≡ record f.level { here = here } → GoesOn s es old done new done
  goes_back old new f p here done none is_stack is_at atom child way is_here is_level v stands =
      let was : old.at ≡ node_of v new.stack.items ++ f.child ∷ [] = stands ∙ ap (node_of v) is_stack ∙ node_pushed v new.stack.items f in
      let inside = old.level.here in
      let one : (w : List ℕ) → level_rest s es (record f.level { here = here }) w done ≡ frame_rest s es f w (level_rest s es old.level (w ++ f.child ∷ []) done) = λ w.
      level_pushed f.level here p w done is_here
      ∙ ap (λ z. on_from s es f.level (suc (length f.level.here)) w (seen w f.level.here ++ z ∷ []) done) (passed_down w p f.atom f.child f.from inside atom child way)
      ∙ ap (frame_rest s es f w) (sym (level_ends old.level (w ++ f.child ∷ []) done none)) in (
        is_at ∙ ap (λ w. take (length w - 1) w) was ∙ take_push (node_of v new.stack.items) f.child,
        ap (λ level. frames_rest s es new.stack.items v (λ w. level_rest s es level w done)) is_level
            ∙ (λ j. frames_rest s es new.stack.items v (λ w. one w j))
            ∙ sym (frames_pushed new.stack.items f v (λ w. level_rest s es old.level w done))
            ∙ ap (λ fs. frames_rest s es fs v (λ w. level_rest s es old.level w done)) (sym is_stack),
      )

  -- the walk has ended
  pub walk_ends : (walk : Walk) (done : Progress) (v : List ℕ) → slice_get (level_items es walk.level.depth walk.level.entry) (length walk.level.here) ≡ None → walk.stack.items ≡ []
      → rest_of s es v walk done ≡ (done, seen v walk.level.here)
  walk_ends walk done v none empty = ap (λ fs. frames_rest s es fs v (λ w. level_rest s es walk.level w done)) empty ∙ level_ends walk.level v done none

  -- what is left adds steps, and takes none away
  longer : (n : ℕ) (items : List ProofItem) (base : ℕ) (v : List ℕ) (here : List Passed) (done : Progress) → length done.steps ≤ length (unfold_items s (unfold_entry s es n) items base v here done).0.steps
  longer n items base v here done = omega (arith, items_steps s (unfold_entry s es n) (entry_count s es n) (entry_steps s es n) items base v here done)

  frames_longer : (fs : List Frame) (v : List ℕ) (top : List ℕ → Outcome) (n : ℕ) → ((w : List ℕ) → n ≤ length (top w).0.steps) → n ≤ length (frames_rest s es fs v top).0.steps
  frames_longer [] v top n more = more v
  frames_longer (f ∷ fs) v top n more =
      let inside = frames_rest s es fs (v ++ f.child ∷ []) top in
      omega (
        arith,
        frames_longer fs (v ++ f.child ∷ []) top n more,
        longer (f.level.depth - 1) (drop (suc (length f.level.here)) (level_items es f.level.depth f.level.entry)) (level_base s es f.level.entry) v (seen v f.level.here ++ frame_pass f v inside.1 ∷ []) inside.0,
      )

  pub rest_longer : (walk : Walk) (done : Progress) (v : List ℕ) → length done.steps ≤ length (rest_of s es v walk done).0.steps
  rest_longer walk done v =
      frames_longer walk.stack.items v (λ w. level_rest s es walk.level w done) (length done.steps)
      (λ w. longer (walk.level.depth - 1) (drop (length walk.level.here) (level_items es walk.level.depth walk.level.entry)) (level_base s es walk.level.entry) w (seen w walk.level.here) done)

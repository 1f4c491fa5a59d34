-- The steps of a valid proof are legal, and end at a node of which the target holds.
use Rattle.std.proofs.Common.{◌≡◌, ◌⊎◌, ℕ, zero, suc, ◌+◌, ◌<◌, true, false, if◌then◌else◌, cond, ◌==◌, List, [], ◌∷◌, ◌++◌, map, length, All, Contains, Some, None, IsSome, IsSomeAnd, find, option_and_then, option_map, unwrap_or, slice_get, bytes_eq, inl, inr, refl, sym, ap, ◌∙◌, subst, arith, append-nil}
use Rattle.std.proofs.lemmas.List.{append_assoc}
use Rattle.std.proofs.lemmas.List.Elements.{All-contains}
use Rattle.std.proofs.lemmas.Slice.Eq.{bytes_eq-Decides}
use Rattle.tp_base.proofs.Lists.{Contains-at}
use Rattle.tree_sem.specs.declared.actions.Step.{Step}
use Rattle.tree_sem.specs.Paths.{parent_of}
use Rattle.tree_sem.specs.Trees.{LabelTree, node_at, label_at, length_of, children_at, edit_at}
use Rattle.tree_sem.specs.Actions.{add_trees}
use Rattle.tree_sem.proofs.PathLemmas.{child_of_parent}
use Rattle.simple_core.specs.declared.rules.Link.{Link}
use Rattle.simple_core.specs.declared.rules.Kind.{Kind}
use Rattle.simple_core.specs.declared.rules.Local as rule
use Rattle.simple_core.specs.declared.rules.Spawn.{Spawn}
use Rattle.tree_sem.specs.Nodes.{HasAtom}
use Rattle.proof_check.specs.declared.proofs.Below.TheVariants.{Real, Grown}
use Rattle.proof_check.specs.declared.proofs.Reason.{Reason}
use Rattle.proof_check.specs.declared.proofs.Reason.TheVariants.{Start, Local, Up, Down}
use Rattle.proof_check.specs.declared.proofs.ProofItem.{ProofItem}
use Rattle.proof_check.specs.declared.proofs.Entry.{Entry}
use Rattle.proof_check.specs.declared.proofs.PageItem.{PageItem}
use Rattle.proof_check.specs.declared.proofs.Proof.{Proof}
use Rattle.proof_check.specs.Unfolding.{Progress, Passed, with_step, with_children, forest_children, child_for, end_for, from_of, spawned, needed_by, with_forest, after_local, plain_item, down_item, grown_item, unfold_reason, unfold_item, unfold_items, unfold_page, unfold_entry, nothing_yet, passing, unfolded}
use Rattle.proof_check.specs.Validity.{atoms_of, items_at, IsDown, Place, IsBelow, IsSound, AreSound, in_entry, at_page, ArePlaced, IsValid}
use Rattle.tree_sem.proofs.GrowthLemmas.{grows_itself, grows_both}
use Rattle.tree_sem.specs.Growth.{Grows}
use Rattle.proof_core.specs.Readings.{end_by, AreLegalBy, step_at, Reading, IsReading}
use Rattle.proof_core.proofs.KeepLemmas.{kept_node}
use Rattle.proof_check.proofs.ItemLemmas.{items_at-append}
use Rattle.proof_core.proofs.TrackLemmas.{now, Counted, IsGood, IsLater, IsBrought, IsTracked, AreTracked, IsReached, later_itself, later_twice, are_tracked_later, reached_later, tracked_push, tracked_find, end_by-append, act_later, forest_done, forest_good, forest_later, forest_keeps, forest_brought}

module _ (r : Reading) (page : LabelTree) (reading : IsReading r page) where
  -- an unfolding, and what of it is tracked
  pub record Unfolds (done end : Progress) (Tracked : Type 0) : Type 0 where
    pub good : IsGood r page end
    pub later : IsLater r page done end
    pub tracked : Tracked

  -- that of an item, and of an entry's items
  abbrev pub IsUnfolded : Progress → List ℕ → ProofItem → Progress × Passed → Type 0
  IsUnfolded done v i end = Unfolds done end.0 (IsTracked r page end.0 v i end.1)

  abbrev pub AreUnfolded : Progress → List ℕ → List ProofItem → Progress × List Passed → Type 0
  AreUnfolded done v items end = Unfolds done end.0 (AreTracked r page end.0 v items end.1)

  tracked_has : (done : Progress) (v : List ℕ) (items : List ProofItem) (passed : List Passed) → AreTracked r page done v items passed → (a : ℕ) → Contains (atoms_of items) a → r.Means (now r page done) v a
  tracked_has done v items passed t a is = let f = tracked_find r page reading done v items passed a t is in subst (λ z. r.Means (now r page done) v z) f.4 f.5.means

  -- an item by a link from a child at which the items were passed
  down_tracked : (done : Progress) (v : List ℕ) (i : ProofItem) (link : Link) (k : ℕ) (items : List ProofItem) (passed : List Passed) → IsSome (node_at v (now r page done))
      → Contains r.system.down link → link.to ≡ i.atom → AreTracked r page done (v ++ k ∷ []) items passed → Contains (atoms_of items) link.from
      → IsTracked r page done v i (record { atom = i.atom; child = Some k; end = end_for link.from passed (v ++ k ∷ []) })
  down_tracked done v i link k items passed node in' to t is =
      let f = tracked_find r page reading done (v ++ k ∷ []) items passed link.from t is in
      let below : r.Means (now r page done) (v ++ k ∷ []) link.from = subst (λ z. r.Means (now r page done) (v ++ k ∷ []) z) f.4 f.5.means in
      record {
        atom = refl;
        means = subst (λ z. r.Means (now r page done) v z) to (reading.down link in' (now r page done) v k node below);
        goal = λ e.
            let from : link.from ≡ r.target = reading.target_down link in' (to ∙ e) in
            let end : end_for link.from passed (v ++ k ∷ []) ≡ f.1.end = ap (λ o. unwrap_or (option_map (λ (p : Passed). p.end) o) (v ++ k ∷ [])) f.3 in
            subst (λ z. r.Goal (now r page done) z) (sym end) (f.5.goal (f.4 ∙ from));
        child = λ d. (k, link, in', to, refl, below);
      }

  module _ (entries : List Entry) where
    -- entries below n unfold well, at each node that their kind's forest has brought
    abbrev CanUnfold : (ℕ → List ℕ → Progress → Progress × List Passed) → ℕ → Type 0
    CanUnfold entry_at n = (e : ℕ) (entry : Entry) → e < n → slice_get entries e ≡ Some entry → IsSome (slice_get r.system.kinds entry.kind) → (done : Progress) → IsGood r page done → (v : List ℕ) (k : ℕ)
        → IsBrought r page done (v ++ k ∷ []) entry.kind → ((a : ℕ) → Contains entry.parent a → r.Means (now r page done) v a) → AreUnfolded done (v ++ k ∷ []) entry.items (entry_at e (v ++ k ∷ []) done)

    module _ (entry_at : ℕ → List ℕ → Progress → Progress × List Passed) where
      -- an entry at the child k, after what brought it
      below_unfolded : (done : Progress) (v : List ℕ) (i : ProofItem) (link : Link) (k e : ℕ) (entry : Entry) (lower : ℕ) → CanUnfold entry_at lower → e < lower → slice_get entries e ≡ Some entry → IsSome (slice_get r.system.kinds entry.kind)
          → IsGood r page done → IsSome (node_at v (now r page done)) → IsBrought r page done (v ++ k ∷ []) entry.kind → ((a : ℕ) → Contains entry.parent a → r.Means (now r page done) v a)
          → Contains r.system.down link → link.to ≡ i.atom → Contains (atoms_of entry.items) link.from
          → IsUnfolded done v i (down_item r.system i link.from k (v ++ k ∷ []) (entry_at e (v ++ k ∷ []) done))
      below_unfolded done v i link k e entry lower can lt at kind good node brought parent in' to is =
          let made = can e entry lt at kind done good v k brought parent in
          record {
            good = made.good;
            later = made.later;
            tracked = down_tracked (entry_at e (v ++ k ∷ []) done).0 v i link k entry.items (entry_at e (v ++ k ∷ []) done).1 (kept_node (now r page done) (now r page (entry_at e (v ++ k ∷ []) done).0) made.later.keeps v node) in' to made.tracked is;
          }

      grown_unfolded : (done : Progress) (place : Place) (v : List ℕ) (base : ℕ) (passed : List Passed) (real : ℕ → List Passed) (i : ProofItem) (link : Link) (e : ℕ) (spawn : Spawn) (kind : Kind) (entry : Entry)
          → CanUnfold entry_at place.lower → IsGood r page done → IsReached r page done place v base passed real → Contains r.system.down link → link.to ≡ i.atom
          → Contains r.system.child spawn → slice_get r.system.kinds spawn.kind ≡ Some kind → slice_get entries e ≡ Some entry → IsBelow place link.from spawn kind e entry
          → IsUnfolded done v i (grown_item r.system entry_at (Some kind) i link.from spawn.needs e base v passed done)
      grown_unfolded done place v base passed real i link e spawn kind entry can good at in' to in_child at_kind at_entry below =
          let known : IsSome (slice_get r.system.kinds entry.kind) = rw (below.its_kind, at_kind) refl in
          let parent : (a : ℕ) → Contains entry.parent a → r.Means (now r page done) v a = λ a is. tracked_has done v place.here passed at.here a (All-contains (Contains (atoms_of place.here)) entry.parent a below.parent is) in
          elim kind.above as (λ o. kind.above ≡ o → IsUnfolded done v i
          (down_item r.system i link.from (unwrap_or (option_map (λ j. kind.number) o) (base + done.added v + kind.number)) (v ++ unwrap_or (option_map (λ j. kind.number) o) (base + done.added v + kind.number) ∷ [])
          (entry_at e (v ++ unwrap_or (option_map (λ j. kind.number) o) (base + done.added v + kind.number) ∷ []) (unwrap_or (option_map (λ j. done) o) (with_forest r.system kind spawn.needs v passed done))))) [
            | Some j ↦ λ above.
                let inside : IsBrought r page done (v ++ kind.number ∷ []) spawn.kind = inner_brought j above (at.kind j (its_place j above below.inner)) in
                below_unfolded done v i link kind.number e entry place.lower can below.lower at_entry known good at.node (subst (λ z. IsBrought r page done (v ++ kind.number ∷ []) z) (sym below.its_kind) inside) parent in' to below.gives
            | None ↦ λ above.
                let top = reading.tops spawn.kind kind at_kind above in
                let step : Step = step_at kind.stmt (if kind.beside then v ++ child_for spawn.needs passed ∷ [] else v) in
                let legal : r.Legal (now r page done) step = selected above in
                let does : r.after (now r page done) step ≡ edit_at v (add_trees top.0) (now r page done) = top.3 (now r page done) v (child_for spawn.needs passed) in
                let done1 = forest_done r page reading done v base step top.0 good at.node at.counted legal does in
                let good1 = forest_good r page reading done v base step top.0 good at.node at.counted legal does in
                let later1 = forest_later r page reading done v base step top.0 good at.node at.counted legal does in
                let keeps1 = forest_keeps r page reading done v base step top.0 good at.node at.counted legal does in
                let brought = forest_brought r page reading done v base step top.0 good at.node at.counted legal does spawn.kind kind.number top.1 in
                let k = base + done.added v + kind.number in
                let made = below_unfolded done1 v i link k e entry place.lower can below.lower at_entry known good1 (kept_node (now r page done) (now r page done1) keeps1 v at.node)
                (subst (λ z. IsBrought r page done1 (v ++ k ∷ []) z) (sym below.its_kind) brought) (λ a is. reading.means_kept (now r page done) (now r page done1) keeps1 v a (parent a is)) in' to below.gives in
                let same : done1 ≡ with_forest r.system kind spawn.needs v passed done = λ x. record { steps = done.steps ++ step ∷ []; added = with_children v (top.2 x) done.added } in
                subst (λ d. IsUnfolded done v i (down_item r.system i link.from k (v ++ k ∷ []) (entry_at e (v ++ k ∷ []) d))) same
                (record { good = made.good; later = later_twice r page reading done done1 (entry_at e (v ++ k ∷ []) done1).0 later1 made.later; tracked = made.tracked })
          ] refl
        where
          its_place : (j : ℕ) → kind.above ≡ Some j → (kind.above ≡ None) ⊎ (IsSome kind.above × kind.above ≡ place.kind) → place.kind ≡ Some j
          its_place j above (inl none) = cc
          its_place j above (inr (is, same)) = sym same ∙ above

          inner_brought : (j : ℕ) → kind.above ≡ Some j → IsBrought r page done v j → IsBrought r page done (v ++ kind.number ∷ []) spawn.kind
          inner_brought j above brought =
              let tree = reading.inner spawn.kind j kind at_kind above in
              let path : (q : List ℕ) → (v ++ kind.number ∷ []) ++ q ≡ v ++ kind.number ∷ q = λ q. append_assoc v (kind.number ∷ []) q in
              record {
                nodes = λ q x is. rw (path q) (brought.nodes (kind.number ∷ q) x (rw tree is));
                counts = λ q x is. rw (path q) (brought.counts (kind.number ∷ q) x (rw tree is));
              }

          named : IsSomeAnd (find (λ i. i.atom == spawn.needs) place.here) (λ i. IsDown i.reason) → (k : ℕ) × (link : Link) × Contains r.system.down link × (link.to ≡ spawn.needs) × (child_for spawn.needs passed ≡ k) × r.Means (now r page done) (v ++ k ∷ []) link.from
          named is =
              let f = tracked_find r page reading done v place.here passed spawn.needs at.here below.spawns in
              let down : IsDown f.0.reason = rw f.2 at is in
              let c = f.5.child down in
              (c.0, c.1, c.2, c.3 ∙ f.4, ap (λ o. unwrap_or (option_and_then (λ (p : Passed). p.child) o) 0) f.3 ∙ ap (λ o. unwrap_or o 0) c.4, c.5)

          selected : kind.above ≡ None → r.Legal (now r page done) (step_at kind.stmt (if kind.beside then v ++ child_for spawn.needs passed ∷ [] else v))
          selected above = elim kind.beside as (λ b. kind.beside ≡ b → r.Legal (now r page done) (step_at kind.stmt (if b then v ++ child_for spawn.needs passed ∷ [] else v))) [
            | true ↦ λ beside.
                let c = named (below.beside above (rw beside refl)) in
                subst (λ k. r.Legal (now r page done) (step_at kind.stmt (v ++ k ∷ []))) (sym c.4) (reading.beside spawn kind in_child at_kind above beside c.1 c.2 c.3 (now r page done) v c.0 c.5)
            | false ↦ λ beside. reading.inside spawn kind in_child at_kind above beside (now r page done) v at.node (tracked_has done v place.here passed at.here spawn.needs below.spawns)
          ] refl

      plain_tracked : (done : Progress) (v : List ℕ) (i : ProofItem) → r.Means (now r page done) v i.atom → (i.atom ≡ r.target → r.Goal (now r page done) v) → (IsDown i.reason → ⊥) → IsTracked r page done v i (plain_item r.system i v)
      plain_tracked done v i means goal plain = record { atom = refl; means = means; goal = goal; child = λ d. absurd (plain d) }

      local_unfolded : (done : Progress) (place : Place) (v : List ℕ) (base : ℕ) (passed : List Passed) (real : ℕ → List Passed) (i : ProofItem) (rule : rule.Local) → (IsDown i.reason → ⊥)
          → IsGood r page done → IsReached r page done place v base passed real → Contains r.system.local rule → rule.gives ≡ i.atom → All (Contains (atoms_of place.here)) rule.needs
          → IsUnfolded done v i (after_local r.system (Some rule) v done, plain_item r.system i v)
      local_unfolded done place v base passed real i rule plain good at in' gives needs =
          let held : (a : ℕ) → Contains rule.needs a → r.Means (now r page done) v a = λ a is. tracked_has done v place.here passed at.here a (All-contains (Contains (atoms_of place.here)) rule.needs a needs is) in
          let goal : i.atom ≡ r.target → r.Goal (now r page done) v = λ e. reading.target_local rule in' (gives ∙ e) (now r page done) v held in
          elim rule.stmt as (λ o. rule.stmt ≡ o → IsUnfolded done v i (unwrap_or (option_map (λ s. with_step s v done) o) done, plain_item r.system i v)) [
            | None ↦ λ none. record {
              good = good;
              later = later_itself r page reading done;
              tracked = plain_tracked done v i (subst (λ z. r.Means (now r page done) v z) gives (reading.local rule in' none (now r page done) v at.node held)) goal plain;
            }
            | Some s ↦ λ some.
                let act = reading.act rule in' s some (now r page done) v at.node held in
                let next = act_later r page reading done s v act.1.0 good act.0 act.1.1 in
                let is : r.Means (now r page (with_step s v done)) v rule.gives = rw (end_by-append r.after page done.steps (step_at s v)) act.2 in
                record {
                  good = next.0;
                  later = next.1;
                  tracked = plain_tracked (with_step s v done) v i (subst (λ z. r.Means (now r page (with_step s v done)) v z) gives is)
                      (λ e. reading.goal_kept (now r page done) (now r page (with_step s v done)) next.1.keeps v (goal e)) plain;
                }
          ] refl

      reason_unfolded : (done : Progress) (place : Place) (v : List ℕ) (base : ℕ) (passed : List Passed) (real : ℕ → List Passed) (i : ProofItem) (reason : Reason) → i.reason ≡ reason
          → CanUnfold entry_at place.lower → IsGood r page done → IsReached r page done place v base passed real → IsSound r.system entries place i.atom reason
          → IsUnfolded done v i (unfold_reason r.system entry_at reason i base v passed real done)
      reason_unfolded done place v base passed real i Start same can good at sound = record {
        good = good;
        later = later_itself r page reading done;
        tracked = plain_tracked done v i (at.label i.atom sound) (λ e. absurd (at.no_target (subst (λ z. Contains place.label z) e sound))) (λ d. subst IsDown same d);
      }
      reason_unfolded done place v base passed real i (Local l) same can good at (rule, at_rule, gives, needs) =
          let made = local_unfolded done place v base passed real i rule (λ d. subst IsDown same d) good at (Contains-at r.system.local l rule at_rule) gives needs in
          rw at_rule made
      reason_unfolded done place v base passed real i (Up l) same can good at (link, at_link, to, above) =
          let in' = Contains-at r.system.up l link at_link in
          let up = at.above link.from above in
          let node : IsSome (node_at (up.0 ++ up.1 ∷ []) (now r page done)) = subst (λ z. IsSome (node_at z (now r page done))) up.2 at.node in
          let means : r.Means (now r page done) (up.0 ++ up.1 ∷ []) link.to = reading.up link in' (now r page done) up.0 up.1 node up.3 in
          record {
            good = good;
            later = later_itself r page reading done;
            tracked = plain_tracked done v i (subst (λ z. r.Means (now r page done) v z) to (subst (λ z. r.Means (now r page done) z link.to) (sym up.2) means)) (λ e. absurd (reading.target_up link in' (to ∙ e))) (λ d. subst IsDown same d);
          }
      reason_unfolded done place v base passed real i (Down l (Real k)) same can good at (link, at_link, to, child) =
          let in' = Contains-at r.system.down l link at_link in
          let c = at.child k in
          let is : Contains (atoms_of c.0) link.from = rw (← c.1) child in
          let made : IsUnfolded done v i (down_item r.system i link.from k (v ++ k ∷ []) (done, real k)) = record {
            good = good;
            later = later_itself r page reading done;
            tracked = down_tracked done v i link k c.0 (real k) at.node in' to c.2 is;
          } in
          subst (λ o. IsUnfolded done v i (down_item r.system i (from_of o) k (v ++ k ∷ []) (done, real k))) (sym at_link) made
      reason_unfolded done place v base passed real i (Down l (Grown c e)) same can good at (link, at_link, to, spawn, at_spawn, kind, at_kind, entry, at_entry, below) =
          let made = grown_unfolded done place v base passed real i link e spawn kind entry can good at (Contains-at r.system.down l link at_link) to (Contains-at r.system.child c spawn at_spawn) at_kind at_entry below in
          let is_kind : spawned r.system c ≡ Some kind = ap (λ o. option_and_then (λ (s : Spawn). slice_get r.system.kinds s.kind) o) at_spawn ∙ at_kind in
          let is_atom : needed_by r.system c ≡ spawn.needs = ap (λ o. unwrap_or (option_map (λ (s : Spawn). s.needs) o) 0) at_spawn in
          let is_from : from_of (slice_get r.system.down l) ≡ link.from = ap from_of at_link in
          let whole : grown_item r.system entry_at (spawned r.system c) i (from_of (slice_get r.system.down l)) (needed_by r.system c) e base v passed done ≡ grown_item r.system entry_at (Some kind) i link.from spawn.needs e base v passed done
          = λ x. grown_item r.system entry_at (is_kind x) i (is_from x) (is_atom x) e base v passed done in
          subst (λ z. IsUnfolded done v i z) (sym whole) made

      item_unfolded : (done : Progress) (place : Place) (v : List ℕ) (base : ℕ) (passed : List Passed) (real : ℕ → List Passed) (i : ProofItem) → CanUnfold entry_at place.lower → IsGood r page done
          → IsReached r page done place v base passed real → IsSound r.system entries place i.atom i.reason → IsUnfolded done v i (unfold_item r.system entry_at i base v passed real done)
      item_unfolded done place v base passed real i can good at sound = reason_unfolded done place v base passed real i i.reason refl can good at sound

      items_unfolded : (items : List ProofItem) (done : Progress) (place : Place) (v : List ℕ) (base : ℕ) (passed : List Passed) → CanUnfold entry_at place.lower → IsGood r page done
          → IsReached r page done place v base passed (λ k. []) → AreSound r.system entries place items → AreUnfolded done v (place.here ++ items) (unfold_items r.system entry_at items base v passed done)
      items_unfolded [] done place v base passed can good at sound = record {
        good = good;
        later = later_itself r page reading done;
        tracked = rw (append-nil place.here) at.here;
      }
      items_unfolded (i ∷ items) done place v base passed can good at sound =
          let first = item_unfolded done place v base passed (λ k. []) i can good at sound.0 in
          let end = unfold_item r.system entry_at i base v passed (λ k. []) done in
          let at' = reached_later r page reading done end.0 place v base passed (λ k. []) first.later at in
          let place' : Place = record place { here = place.here ++ i ∷ [] } in
          let rest = items_unfolded items end.0 place' v base (passed ++ end.1 ∷ []) can first.good (record {
            node = at'.node;
            label = at'.label;
            no_target = at'.no_target;
            here = tracked_push r page reading end.0 v place.here passed i end.1 at'.here first.tracked;
            above = at'.above;
            child = at'.child;
            counted = at'.counted;
            kind = at'.kind;
          }) sound.1 in
          let path : (place.here ++ i ∷ []) ++ items ≡ place.here ++ i ∷ items = append_assoc place.here (i ∷ []) items in
          subst (λ z. AreUnfolded done v z (unfold_items r.system entry_at (i ∷ items) base v passed done)) path (record {
            good = rest.good;
            later = later_twice r page reading done end.0 (unfold_items r.system entry_at items base v (passed ++ end.1 ∷ []) end.0).0 first.later rest.later;
            tracked = rest.tracked;
          })

    module _ (sound : (n : ℕ) (entry : Entry) → slice_get entries n ≡ Some entry → AreSound r.system entries (in_entry r.system n entry) entry.items) where
      entry_unfolds : (n : ℕ) → CanUnfold (unfold_entry r.system entries n) n
      entry_unfolds zero e entry lt at kind done good v k brought parent = absurd (omega arith)
      entry_unfolds (suc n) e entry lt at kind done good v k brought parent =
          let top = brought.nodes [] (r.kind_tree entry.kind) refl in
          let path : (v ++ k ∷ []) ++ [] ≡ v ++ k ∷ [] = append-nil (v ++ k ∷ []) in
          let here : node_at (v ++ k ∷ []) (now r page done) ≡ Some top.0 = rw (← path) top.1 in
          let counted : Counted r page done (v ++ k ∷ []) (length_of (r.kind_tree entry.kind).below) = rw (← path) (brought.counts [] (r.kind_tree entry.kind) refl) in
          let made = items_unfolded (unfold_entry r.system entries n) entry.items done (in_entry r.system e entry) (v ++ k ∷ []) (forest_children r.system entry.kind) []
          (λ f other lt' at' kind' done' good' w m brought' parent'. entry_unfolds n f other (omega arith) at' kind' done' good' w m brought' parent') good (record {
            node = rw here refl;
            label = λ a is. reading.kind_labels entry.kind (now r page done) top.0 (v ++ k ∷ []) here top.2 a is;
            no_target = reading.target_kind entry.kind;
            here = tt;
            above = λ a is. (v, k, refl, parent a is);
            child = λ m. ([], refl, tt);
            counted = subst (λ z. Counted r page done (v ++ k ∷ []) z) (reading.children entry.kind kind) counted;
            kind = λ j same. let is : entry.kind ≡ j = cc in subst (λ z. IsBrought r page done (v ++ k ∷ []) z) is brought;
          }) (sound e entry at) in
          rw at made

      -- the page's items, with what was passed at each node
      abbrev pub IsPageUnfolded : Progress → List PageItem → Progress × (List ℕ → List Passed) → Type 0
      IsPageUnfolded done items end = Unfolds done end.0 ((v : List ℕ) → AreTracked r page end.0 v (items_at v items) (end.1 v))

      on_page : (v : List ℕ) (a : ℕ) → Contains (unwrap_or (label_at v page) []) a → HasAtom page v a
      on_page v a is = elim (label_at v page) as (λ o. Contains (unwrap_or o []) a → IsSomeAnd o (λ label. Contains label a)) [ None ↦ λ (i, within, at). absurd (omega arith) | Some l ↦ λ h. h ] is

      page_unfolded : (items before : List PageItem) (passed : List ℕ → List Passed) (done : Progress) → Grows page (now r page done) → ((v : List ℕ) → IsSome (node_at v page) → Counted r page done v (unwrap_or (children_at v page) 0))
          → IsGood r page done → ((v : List ℕ) → AreTracked r page done v (items_at v before) (passed v)) → ArePlaced r.system entries page before items
          → IsPageUnfolded done (before ++ items) (unfold_page r.system (unfold_entry r.system entries (length entries)) page items passed done)
      page_unfolded [] before passed done keeps counts good tracked placed = record {
        good = good;
        later = later_itself r page reading done;
        tracked = λ v. rw (append-nil before) (tracked v);
      }
      page_unfolded (i ∷ items) before passed done keeps counts good tracked (node, sound_item, placed) =
          let base = unwrap_or (children_at i.at page) 0 in
          let real : ℕ → List Passed = λ k. passed (i.at ++ k ∷ []) in
          let entry_at = unfold_entry r.system entries (length entries) in
          let first = item_unfolded entry_at done (at_page page (length entries) before i.at) i.at base (passed i.at) real i.item (entry_unfolds (length entries)) good (record {
            node = kept_node page (now r page done) keeps i.at node;
            label = λ a is. reading.means_kept page (now r page done) keeps i.at a (reading.page_label i.at a (on_page i.at a is));
            no_target = λ is. reading.target_page i.at (on_page i.at r.target is);
            here = tracked i.at;
            above = λ a is. at_parent i.at a is;
            child = λ n. (items_at (i.at ++ n ∷ []) before, refl, tracked (i.at ++ n ∷ []));
            counted = counts i.at node;
            kind = λ j same. cc;
          }) sound_item in
          let end = unfold_item r.system entry_at i.item base i.at (passed i.at) real done in
          let passed' : List ℕ → List Passed = λ q. if bytes_eq i.at q then passed q ++ end.1 ∷ [] else passed q in
          let rest = page_unfolded items (before ++ i ∷ []) passed' end.0 (grows_both page (now r page done) (now r page end.0) keeps first.later.keeps)
          (λ v is. first.later.counts v (unwrap_or (children_at v page) 0) (counts v is)) first.good (λ q. one_more q end first.later first.tracked) placed in
          let path : (before ++ i ∷ []) ++ items ≡ before ++ i ∷ items = append_assoc before (i ∷ []) items in
          let last = unfold_page r.system entry_at page items passed' end.0 in
          subst (λ z. IsPageUnfolded done z last) path (record { good = rest.good; later = later_twice r page reading done end.0 last.0 first.later rest.later; tracked = rest.tracked })
        where
          at_parent : (v : List ℕ) (a : ℕ) → Contains (unwrap_or (option_map (λ p. atoms_of (items_at p before)) (parent_of v)) []) a → (p : List ℕ) × (n : ℕ) × (v ≡ p ++ n ∷ []) × r.Means (now r page done) p a
          at_parent v a is =
              elim (parent_of v) as (λ o. parent_of v ≡ o → Contains (unwrap_or (option_map (λ p. atoms_of (items_at p before)) o) []) a → (p : List ℕ) × (n : ℕ) × (v ≡ p ++ n ∷ []) × r.Means (now r page done) p a) [
                | None ↦ λ e (i, within, at). absurd (omega arith)
                | Some p ↦ λ e is. let up = child_of_parent v p e in (p, up.0, up.1, tracked_has done p (items_at p before) (passed p) (tracked p) a is)
              ] refl is

          one_more : (q : List ℕ) (end : Progress × Passed) → IsLater r page done end.0 → IsTracked r page end.0 i.at i.item end.1 → AreTracked r page end.0 q (items_at q (before ++ i ∷ [])) (if bytes_eq i.at q then passed q ++ end.1 ∷ [] else passed q)
          one_more q end later new =
              let old = are_tracked_later r page reading done end.0 q (items_at q before) (passed q) later (tracked q) in
              rw (items_at-append q before (i ∷ []))
              (elim (bytes_eq i.at q) as (λ b. bytes_eq i.at q ≡ b → AreTracked r page end.0 q (items_at q before ++ map (λ (x : PageItem). x.item) (cond b (i ∷ []) [])) (if b then passed q ++ end.1 ∷ [] else passed q)) [
                | true ↦ λ e. tracked_push r page reading end.0 q (items_at q before) (passed q) i.item end.1 old (subst (λ z. IsTracked r page end.0 z i.item end.1) ((bytes_eq-Decides i.at q).0 e) new)
                | false ↦ λ e. rw (append-nil (items_at q before)) old
              ] refl)

  -- the theorem
  pub unfolded_is_right : (proof : Proof) → IsValid r.system page proof r.target
      → AreLegalBy r.Legal r.after page (unfolded r.system proof page r.target).0 × r.Goal (end_by r.after page (unfolded r.system proof page r.target).0) (unfolded r.system proof page r.target).1
  unfolded_is_right proof valid =
      let all = page_unfolded proof.entries valid.entries proof.page [] (λ q. []) nothing_yet' (grows_itself page) (λ v is. counted v is) (record { legal = tt; fresh = λ v none. refl }) (λ v. tt) valid.page_items in
      let end = passing r.system proof page in
      let f = tracked_find r page reading end.0 [] (items_at [] proof.page) (end.1 []) r.target (all.tracked []) valid.root in
      let at : end_for r.target (end.1 []) [] ≡ f.1.end = ap (λ o. unwrap_or (option_map (λ (p : Passed). p.end) o) []) f.3 in
      (all.good.legal, subst (λ z. r.Goal (now r page end.0) z) (sym at) (f.5.goal f.4))
    where
      nothing_yet' : Progress
      nothing_yet' = nothing_yet r.system

      counted : (v : List ℕ) → IsSome (node_at v page) → children_at v page ≡ Some (unwrap_or (children_at v page) 0 + 0)
      counted v is = elim (node_at v page) as (λ o. IsSome o → option_map (λ (n : LabelTree). length_of n.below) o ≡ Some (unwrap_or (option_map (λ n. length_of n.below) o) 0 + 0)) [ None ↦ λ h. cc | Some s ↦ λ h. ap Some (omega arith) ] is

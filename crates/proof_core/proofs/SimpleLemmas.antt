-- For a valid proof some legal steps of the system give the page's root the target.
use Rattle.std.proofs.Common.{◌≡◌, ℕ, zero, suc, ◌<◌, List, [], ◌∷◌, ◌++◌, length, All, Contains, Some, None, IsSome, IsSomeAnd, option_map, unwrap_or, slice_get, inl, inr, refl, sym, ap, ◌∙◌, subst, arith, append-nil}
use Rattle.std.proofs.lemmas.List.{append_assoc}
use Rattle.std.proofs.lemmas.List.Elements.{All-contains}
use Rattle.tp_base.proofs.Rising.{All-from_Contains}
use Rattle.tp_base.proofs.Lists.{Contains-at}
use Rattle.tree_sem.specs.Trees.{LabelTree, leaf, node_at, label_at, add_class, add_child}
use Rattle.tree_sem.specs.Paths.{parent_of}
use Rattle.tree_sem.proofs.RowLemmas.{there}
use Rattle.tree_sem.proofs.PathLemmas.{child_of_parent}
use Rattle.simple_core.specs.declared.system.System.{System}
use Rattle.simple_core.specs.Systems.{kind_label}
use Rattle.tree_sem.specs.Nodes.{HasAtom}
use Rattle.simple_core.specs.SimpleSteps.{SimpleStep, by_local, by_up, by_down, by_spawn, IsLegal, after_step, end_of, AreLegal}
use Rattle.proof_check.specs.declared.proofs.Below.TheVariants.{Real, Grown}
use Rattle.proof_check.specs.declared.proofs.Reason.{Reason}
use Rattle.proof_check.specs.declared.proofs.Reason.TheVariants.{Start, Local, Up, Down}
use Rattle.proof_check.specs.declared.proofs.ProofItem.{ProofItem}
use Rattle.proof_check.specs.declared.proofs.Entry.{Entry}
use Rattle.proof_check.specs.declared.proofs.PageItem.{PageItem}
use Rattle.proof_check.specs.declared.proofs.Proof.{Proof}
use Rattle.proof_check.specs.Validity.{atoms_of, items_at, Place, IsSound, AreSound, in_entry, at_page, ArePlaced, IsValid}
use Rattle.tree_sem.specs.Growth.{Grows}
use Rattle.tree_sem.proofs.GrowthLemmas.{HasAtom-grows, grows_itself, grows_both, edit_grows, class_grows, child_grows}
use Rattle.proof_core.proofs.KeepLemmas.{node_has, kept_node, has_added, new_child}
use Rattle.proof_check.proofs.ItemLemmas.{atoms_of-cases, page_cases}

-- an item stands at v in t, with what its place says
pub record Stands (t : LabelTree) (place : Place) (v : List ℕ) : Type 0 where
  pub node : IsSome (node_at v t)
  pub label : (a : ℕ) → Contains place.label a → HasAtom t v a
  pub here : (a : ℕ) → Contains (atoms_of place.here) a → HasAtom t v a
  pub above : (a : ℕ) → Contains place.above a → (p : List ℕ) × (n : ℕ) × (v ≡ p ++ n ∷ []) × HasAtom t p a
  pub child : (n a : ℕ) → Contains (place.child n) a → HasAtom t (v ++ n ∷ []) a

stands_kept : (t u : LabelTree) (place : Place) (v : List ℕ) → Grows t u → Stands t place v → Stands u place v
stands_kept t u place v keeps stands = record {
  node = kept_node t u keeps v stands.node;
  label = λ a is. HasAtom-grows t u keeps v a (stands.label a is);
  here = λ a is. HasAtom-grows t u keeps v a (stands.here a is);
  above = λ a is. let r = stands.above a is in (r.0, r.1, r.2, HasAtom-grows t u keeps r.0 a r.3);
  child = λ n a is. HasAtom-grows t u keeps (v ++ n ∷ []) a (stands.child n a is);
}

all_has : (t : LabelTree) (v xs : List ℕ) → IsSome (node_at v t) → ((a : ℕ) → Contains xs a → HasAtom t v a) → IsSomeAnd (label_at v t) (λ label. All (Contains label) xs)
all_has t v xs is each =
    let s = there (node_at v t) is in
    rw s.1 (All-from_Contains (Contains s.0.label) xs (λ a in'. let has : HasAtom t v a = each a in' in rw s.1 at has))

module _ (system : System) where
  -- u is made of t by legal steps
  abbrev pub Derived : LabelTree → LabelTree → Type 0
  Derived t u = (steps : List SimpleStep) × AreLegal system t steps × (u ≡ end_of system t steps)

  derived_itself : (t : LabelTree) → Derived t t
  derived_itself t = ([], tt, refl)

  more_steps : (xs ys : List SimpleStep) (t : LabelTree) → AreLegal system t xs → AreLegal system (end_of system t xs) ys → AreLegal system t (xs ++ ys) × (end_of system t (xs ++ ys) ≡ end_of system (end_of system t xs) ys)
  more_steps [] ys t a b = (b, refl)
  more_steps (x ∷ xs) ys t a b = let r = more_steps xs ys (after_step system t x) a.1 b in ((a.0, r.0), r.1)

  derived_both : (t u w : LabelTree) → Derived t u → Derived u w → Derived t w
  derived_both t u w first second =
      let legal : AreLegal system (end_of system t first.0) second.0 = rw (← first.2) second.1 in
      let r = more_steps first.0 second.0 t first.1 legal in
      (first.0 ++ second.0, r.0, second.2 ∙ ap (λ z. end_of system z second.0) first.2 ∙ sym r.1)

  one_step : (t : LabelTree) (step : SimpleStep) → IsLegal system t step → Derived t (after_step system t step)
  one_step t step legal = (step ∷ [], (legal, tt), refl)

  step_keeps : (t : LabelTree) (step : SimpleStep) → Grows t (after_step system t step)
  step_keeps t (by_local r v) = edit_grows (add_class r.gives) (class_grows r.gives) v t
  step_keeps t (by_up l v) = edit_grows (add_class l.to) (class_grows l.to) v t
  step_keeps t (by_down l v) = edit_grows (add_class l.to) (class_grows l.to) v t
  step_keeps t (by_spawn c v) = edit_grows (add_child (kind_label system c.kind)) (child_grows (kind_label system c.kind)) v t

  steps_keep : (steps : List SimpleStep) (t : LabelTree) → Grows t (end_of system t steps)
  steps_keep [] t = grows_itself t
  steps_keep (s ∷ steps) t = grows_both t (after_step system t s) (end_of system t (s ∷ steps)) (step_keeps t s) (steps_keep steps (after_step system t s))

  derived_keeps : (t u : LabelTree) → Derived t u → Grows t u
  derived_keeps t u d = rw d.2 (steps_keep d.0 t)

  module _ (entries : List Entry) where
    -- the entries below n can be made at each new node of their kind, below a parent that has what they want
    abbrev CanMake : ℕ → Type 0
    CanMake n = (e : ℕ) (entry : Entry) → e < n → slice_get entries e ≡ Some entry → (t : LabelTree) (v : List ℕ) (k : ℕ) → IsSome (node_at (v ++ k ∷ []) t)
        → ((a : ℕ) → Contains (kind_label system entry.kind) a → HasAtom t (v ++ k ∷ []) a) → ((a : ℕ) → Contains entry.parent a → HasAtom t v a)
        → (u : LabelTree) × Derived t u × ((a : ℕ) → Contains (atoms_of entry.items) a → HasAtom u (v ++ k ∷ []) a)

    item_made : (place : Place) (v : List ℕ) (t : LabelTree) (atom : ℕ) (reason : Reason) → CanMake place.lower → Stands t place v → IsSound system entries place atom reason
        → (u : LabelTree) × Derived t u × HasAtom u v atom
    item_made place v t atom Start can stands sound = (t, derived_itself t, stands.label atom sound)
    item_made place v t atom (Local l) can stands (rule, at, gives, needs) =
        let legal : IsLegal system t (by_local rule v) = (Contains-at system.local l rule at, all_has t v rule.needs stands.node (λ a is. stands.here a (All-contains (Contains (atoms_of place.here)) rule.needs a needs is))) in
        (after_step system t (by_local rule v), one_step t (by_local rule v) legal, subst (λ z. HasAtom (after_step system t (by_local rule v)) v z) gives (has_added v rule.gives t stands.node))
    item_made place v t atom (Up l) can stands (link, at, gives, above) =
        let up = stands.above link.from above in
        let legal : IsLegal system t (by_up link v) = (Contains-at system.up l link at, stands.node, up.0, up.1, up.2, up.3) in
        (after_step system t (by_up link v), one_step t (by_up link v) legal, subst (λ z. HasAtom (after_step system t (by_up link v)) v z) gives (has_added v link.to t stands.node))
    item_made place v t atom (Down l (Real k)) can stands (link, at, gives, child) =
        let legal : IsLegal system t (by_down link v) = (Contains-at system.down l link at, k, stands.child k link.from child) in
        (after_step system t (by_down link v), one_step t (by_down link v) legal, subst (λ z. HasAtom (after_step system t (by_down link v)) v z) gives (has_added v link.to t stands.node))
    item_made place v t atom (Down l (Grown c e)) can stands (link, at, gives, spawn, at_spawn, kind, at_kind, entry, at_entry, below) =
        let spawns : IsLegal system t (by_spawn spawn v) = (Contains-at system.child c spawn at_spawn, stands.here spawn.needs below.spawns) in
        let t1 = after_step system t (by_spawn spawn v) in
        let keeps : Grows t t1 = step_keeps t (by_spawn spawn v) in
        let new = new_child v (kind_label system spawn.kind) t stands.node in
        let label : kind_label system spawn.kind ≡ kind_label system entry.kind = ap (kind_label system) (sym below.its_kind) in
        let made = can e entry below.lower at_entry t1 v new.0 (rw new.1 refl)
        (λ a is. node_has t1 (leaf (kind_label system spawn.kind)) (v ++ new.0 ∷ []) a new.1 (rw label is))
        (λ a is. HasAtom-grows t t1 keeps v a (stands.here a (All-contains (Contains (atoms_of place.here)) entry.parent a below.parent is))) in
        let u = made.0 in
        let node : IsSome (node_at v u) = kept_node t1 u (derived_keeps t1 u made.1) v (kept_node t t1 keeps v stands.node) in
        let legal : IsLegal system u (by_down link v) = (Contains-at system.down l link at, new.0, made.2 link.from below.gives) in
        let w = after_step system u (by_down link v) in (
          w,
          derived_both t u w (derived_both t t1 u (one_step t (by_spawn spawn v) spawns) made.1) (one_step u (by_down link v) legal),
          subst (λ z. HasAtom w v z) gives (has_added v link.to u node),
        )

    items_made : (items : List ProofItem) (place : Place) (v : List ℕ) (t : LabelTree) → CanMake place.lower → Stands t place v → AreSound system entries place items
        → (u : LabelTree) × Derived t u × ((a : ℕ) → Contains (atoms_of (place.here ++ items)) a → HasAtom u v a)
    items_made [] place v t can stands sound = (t, derived_itself t, λ a is. stands.here a (rw (append-nil place.here) at is))
    items_made (i ∷ items) place v t can stands sound =
        let first = item_made place v t i.atom i.reason can stands sound.0 in
        let u = first.0 in
        let stands' = stands_kept t u place v (derived_keeps t u first.1) stands in
        let place' : Place = record place { here = place.here ++ i ∷ [] } in
        let now : Stands u place' v = record {
          node = stands'.node;
          label = stands'.label;
          here = λ a is. elim (atoms_of-cases place.here i a is) [ inl old ↦ stands'.here a old | inr new ↦ subst (λ z. HasAtom u v z) new first.2 ];
          above = stands'.above;
          child = stands'.child;
        } in
        let rest = items_made items place' v u can now sound.1 in
        (rest.0, derived_both t u rest.0 first.1 rest.1, λ a is. rest.2 a (rw (append_assoc place.here (i ∷ []) items) is))

    module _ (sound : (n : ℕ) (entry : Entry) → slice_get entries n ≡ Some entry → AreSound system entries (in_entry system n entry) entry.items) where
      can_make : (n : ℕ) → CanMake n
      can_make zero e entry lt at t v k node label parent = absurd (omega arith)
      can_make (suc n) e entry lt at t v k node label parent =
          items_made entry.items (in_entry system e entry) (v ++ k ∷ []) t (λ f other lt' at'. can_make n f other (omega arith) at')
          (record {
            node = node;
            label = label;
            here = λ a (i, within, is). absurd (omega arith);
            above = λ a is. (v, k, refl, parent a is);
            child = λ m a (i, within, is). absurd (omega arith);
          }) (sound e entry at)

      page_made : (page : LabelTree) (items before : List PageItem) (t : LabelTree) → Grows page t → ((v : List ℕ) (a : ℕ) → Contains (atoms_of (items_at v before)) a → HasAtom t v a)
          → ArePlaced system entries page before items → (u : LabelTree) × Derived t u × ((v : List ℕ) (a : ℕ) → Contains (atoms_of (items_at v (before ++ items))) a → HasAtom u v a)
      page_made page [] before t keeps has placed = (t, derived_itself t, λ v a is. has v a (rw (append-nil before) at is))
      page_made page (i ∷ items) before t keeps has (node, sound_item, placed) =
          let first = item_made (at_page page (length entries) before i.at) i.at t i.item.atom i.item.reason (can_make (length entries)) (record {
            node = kept_node page t keeps i.at node;
            label = λ a is. HasAtom-grows page t keeps i.at a (labelled page i.at a is);
            here = has i.at;
            above = λ a is. at_parent page before i.at t has a is;
            child = λ n a is. has (i.at ++ n ∷ []) a is;
          }) sound_item in
          let u = first.0 in
          let more = derived_keeps t u first.1 in
          let rest = page_made page items (before ++ i ∷ []) u (grows_both page t u keeps more)
          (λ v a is. elim (page_cases v before i a is) [ inl old ↦ HasAtom-grows t u more v a (has v a old) | inr new ↦ subst (λ z. HasAtom u z a) new.0 (subst (λ z. HasAtom u i.at z) new.1 first.2) ]) placed in
          (rest.0, derived_both t u rest.0 first.1 rest.1, λ v a is. rest.2 v a (rw (append_assoc before (i ∷ []) items) is))
        where
          labelled : (page : LabelTree) (v : List ℕ) (a : ℕ) → Contains (unwrap_or (label_at v page) []) a → HasAtom page v a
          labelled page v a is = elim (label_at v page) as (λ o. Contains (unwrap_or o []) a → IsSomeAnd o (λ label. Contains label a)) [ None ↦ λ (i, within, at). absurd (omega arith) | Some l ↦ λ h. h ] is

          at_parent : (page : LabelTree) (before : List PageItem) (v : List ℕ) (t : LabelTree) → ((v : List ℕ) (a : ℕ) → Contains (atoms_of (items_at v before)) a → HasAtom t v a)
              → (a : ℕ) → Contains (unwrap_or (option_map (λ p. atoms_of (items_at p before)) (parent_of v)) []) a → (p : List ℕ) × (n : ℕ) × (v ≡ p ++ n ∷ []) × HasAtom t p a
          at_parent page before v t has a is =
              elim (parent_of v) as (λ o. parent_of v ≡ o → Contains (unwrap_or (option_map (λ p. atoms_of (items_at p before)) o) []) a → (p : List ℕ) × (n : ℕ) × (v ≡ p ++ n ∷ []) × HasAtom t p a) [
                | None ↦ λ e (i, within, at). absurd (omega arith)
                | Some p ↦ λ e is. let last = child_of_parent v p e in (p, last.0, last.1, has p a is)
              ] refl is

  -- the theorem
  pub valid_derives : (page : LabelTree) (proof : Proof) (target : ℕ) → IsValid system page proof target → (steps : List SimpleStep) × AreLegal system page steps × HasAtom (end_of system page steps) [] target
  valid_derives page proof target valid =
      let made = page_made proof.entries valid.entries page proof.page [] page (grows_itself page) (λ v a (i, within, at). absurd (omega arith)) valid.page_items in
      let d = made.1 in
      (d.0, d.1, rw (← d.2) (made.2 [] target valid.root))

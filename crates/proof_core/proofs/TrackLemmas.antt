-- What is known of the real tree while a proof is unfolded: the invariant, and that each step keeps it.
use Rattle.std.proofs.Common.{◌≡◌, ◌≢◌, ℕ, zero, suc, ◌+◌, true, false, if◌then◌else◌, cond, ◌==◌, List, [], ◌∷◌, ◌++◌, length, Contains, Some, None, IsSome, find, option_map, slice_get, bytes_eq, inl, inr, refl, sym, ap, ◌∙◌, subst, arith}
use Rattle.std.proofs.lemmas.Bool.Decides.{Decides-eqb}
use Rattle.std.proofs.lemmas.List.{append_assoc}
use Rattle.std.proofs.lemmas.Slice.Eq.{bytes_eq-Decides}
use Rattle.tp_base.proofs.Lists.{same_or_other}
use Rattle.tree_sem.specs.declared.actions.Step.{Step}
use Rattle.tree_sem.specs.Trees.{LabelTree, node_at, length_of, children_at, edit_at}
use Rattle.tree_sem.specs.Actions.{add_classes, add_trees}
use Rattle.tree_sem.proofs.RowLemmas.{there}
use Rattle.simple_core.specs.declared.rules.Link.{Link}
use Rattle.proof_check.specs.declared.proofs.ProofItem.{ProofItem}
use Rattle.proof_check.specs.Unfolding.{Progress, Passed, with_step, with_children}
use Rattle.proof_check.specs.Validity.{atoms_of, IsDown, Place}
use Rattle.tree_sem.proofs.GrowthLemmas.{grows_itself, grows_both, edit_grows, classes_grow, trees_grow}
use Rattle.tree_sem.specs.Growth.{Grows}
use Rattle.tree_sem.proofs.AddTreesLemmas.{children_at-add_trees, node_at-add_trees_new}
use Rattle.tree_sem.proofs.EditLemmas.{children_at-add_classes}
use Rattle.proof_core.specs.Readings.{end_by, AreLegalBy, step_at, Reading, IsReading}
use Rattle.proof_core.proofs.KeepLemmas.{kept_node}
use Rattle.proof_core.proofs.GrowthLemmas.{children_at-add_trees_other, node_at-add_trees_none}

pub with_children-same : (v : List ℕ) (n : ℕ) (added : List ℕ → ℕ) → with_children v n added v ≡ added v + n
with_children-same v n added = ap (λ b. if b then added v + n else added v) ((bytes_eq-Decides v v).1 refl)

pub with_children-other : (v q : List ℕ) (n : ℕ) (added : List ℕ → ℕ) → v ≢ q → with_children v n added q ≡ added q
with_children-other v q n added other =
    elim (bytes_eq v q) as (λ b. bytes_eq v q ≡ b → (if b then added q + n else added q) ≡ added q) [ true ↦ λ e. absurd (other ((bytes_eq-Decides v q).0 e)) | false ↦ λ e. refl ] refl

pub end_by-append : (after : LabelTree → Step → LabelTree) (t : LabelTree) (xs : List Step) (s : Step) → end_by after t (xs ++ s ∷ []) ≡ after (end_by after t xs) s
end_by-append after t [] s = refl
end_by-append after t (x ∷ xs) s = end_by-append after (after t x) xs s

pub legal_append : (Legal : LabelTree → Step → Type 0) (after : LabelTree → Step → LabelTree) (t : LabelTree) (xs : List Step) (s : Step) → AreLegalBy Legal after t xs → Legal (end_by after t xs) s → AreLegalBy Legal after t (xs ++ s ∷ [])
legal_append Legal after t [] s a b = (b, tt)
legal_append Legal after t (x ∷ xs) s a b = (a.0, legal_append Legal after (after t x) xs s a.1 b)

module _ (r : Reading) (page : LabelTree) where
  -- the tree so far
  abbrev pub now : Progress → LabelTree
  now done = end_by r.after page done.steps

  -- the node at v had n children at first
  abbrev pub Counted : Progress → List ℕ → ℕ → Type 0
  Counted done v n = children_at v (now done) ≡ Some (n + done.added v)

  pub record IsGood (done : Progress) : Type 0 where
    pub legal : AreLegalBy r.Legal r.after page done.steps
    pub fresh : (v : List ℕ) → node_at v (now done) ≡ None → done.added v ≡ 0

  pub record IsLater (done later : Progress) : Type 0 where
    pub keeps : Grows (now done) (now later)
    pub counts : (v : List ℕ) (n : ℕ) → Counted done v n → Counted later v n

  -- the forest of the kind j stands at v: each of its nodes with its atoms, and with its children counted
  pub record IsBrought (done : Progress) (v : List ℕ) (j : ℕ) : Type 0 where
    pub nodes : (q : List ℕ) (x : LabelTree) → node_at q (r.kind_tree j) ≡ Some x → (y : LabelTree) × (node_at (v ++ q) (now done) ≡ Some y) × ((a : ℕ) → Contains x.label a → Contains y.label a)
    pub counts : (q : List ℕ) (x : LabelTree) → node_at q (r.kind_tree j) ≡ Some x → Counted done (v ++ q) (length_of x.below)

  -- an item that was passed at v: its atom means what holds, and its child is there
  pub record IsTracked (done : Progress) (v : List ℕ) (i : ProofItem) (p : Passed) : Type 0 where
    pub atom : p.atom ≡ i.atom
    pub means : r.Means (now done) v i.atom
    pub goal : i.atom ≡ r.target → r.Goal (now done) p.end
    pub child : IsDown i.reason → (k : ℕ) × (link : Link) × Contains r.system.down link × (link.to ≡ i.atom) × (p.child ≡ Some k) × r.Means (now done) (v ++ k ∷ []) link.from

  abbrev pub AreTracked : Progress → List ℕ → List ProofItem → List Passed → Type 0
  AreTracked done v [] [] = Unit {0}
  AreTracked done v [] (p ∷ passed) = ⊥
  AreTracked done v (i ∷ items) [] = ⊥
  AreTracked done v (i ∷ items) (p ∷ passed) = IsTracked done v i p × AreTracked done v items passed

  -- where an item is to be unfolded
  pub record IsReached (done : Progress) (place : Place) (v : List ℕ) (base : ℕ) (passed : List Passed) (real : ℕ → List Passed) : Type 0 where
    pub node : IsSome (node_at v (now done))
    pub label : (a : ℕ) → Contains place.label a → r.Means (now done) v a
    pub no_target : Contains place.label r.target → ⊥
    pub here : AreTracked done v place.here passed
    pub above : (a : ℕ) → Contains place.above a → (p : List ℕ) × (n : ℕ) × (v ≡ p ++ n ∷ []) × r.Means (now done) p a
    pub child : (n : ℕ) → (items : List ProofItem) × (place.child n ≡ atoms_of items) × AreTracked done (v ++ n ∷ []) items (real n)
    pub counted : Counted done v base
    pub kind : (j : ℕ) → place.kind ≡ Some j → IsBrought done v j

  module _ (reading : IsReading r page) where
    pub later_itself : (done : Progress) → IsLater done done
    later_itself done = record { keeps = grows_itself (now done); counts = λ v n c. c }

    pub later_twice : (a b c : Progress) → IsLater a b → IsLater b c → IsLater a c
    later_twice a b c x y = record { keeps = grows_both (now a) (now b) (now c) x.keeps y.keeps; counts = λ v n h. y.counts v n (x.counts v n h) }

    -- all that was known goes on
    pub tracked_later : (done later : Progress) (v : List ℕ) (i : ProofItem) (p : Passed) → IsLater done later → IsTracked done v i p → IsTracked later v i p
    tracked_later done later v i p more t = record {
      atom = t.atom;
      means = reading.means_kept (now done) (now later) more.keeps v i.atom t.means;
      goal = λ e. reading.goal_kept (now done) (now later) more.keeps p.end (t.goal e);
      child = λ e. let c = t.child e in (c.0, c.1, c.2, c.3, c.4, reading.means_kept (now done) (now later) more.keeps (v ++ c.0 ∷ []) c.1.from c.5);
    }

    pub are_tracked_later : (done later : Progress) (v : List ℕ) (items : List ProofItem) (passed : List Passed) → IsLater done later → AreTracked done v items passed → AreTracked later v items passed
    are_tracked_later done later v [] [] more t = tt
    are_tracked_later done later v [] (p ∷ passed) more t = t
    are_tracked_later done later v (i ∷ items) [] more t = t
    are_tracked_later done later v (i ∷ items) (p ∷ passed) more t = (tracked_later done later v i p more t.0, are_tracked_later done later v items passed more t.1)

    pub brought_later : (done later : Progress) (v : List ℕ) (j : ℕ) → IsLater done later → IsBrought done v j → IsBrought later v j
    brought_later done later v j more b = record {
      nodes = λ q x at. let old = b.nodes q x at in let new = more.keeps (v ++ q) old.0 old.1 in (new.0, new.1, λ a is. new.2 a (old.2 a is));
      counts = λ q x at. more.counts (v ++ q) (length_of x.below) (b.counts q x at);
    }

    pub reached_later : (done later : Progress) (place : Place) (v : List ℕ) (base : ℕ) (passed : List Passed) (real : ℕ → List Passed) → IsLater done later
        → IsReached done place v base passed real → IsReached later place v base passed real
    reached_later done later place v base passed real more at = record {
      node = kept_node (now done) (now later) more.keeps v at.node;
      label = λ a is. reading.means_kept (now done) (now later) more.keeps v a (at.label a is);
      no_target = at.no_target;
      here = are_tracked_later done later v place.here passed more at.here;
      above = λ a is. let up = at.above a is in (up.0, up.1, up.2, reading.means_kept (now done) (now later) more.keeps up.0 a up.3);
      child = λ n. let c = at.child n in (c.0, c.1, are_tracked_later done later (v ++ n ∷ []) c.0 (real n) more c.2);
      counted = more.counts v base at.counted;
      kind = λ j is. brought_later done later v j more (at.kind j is);
    }

    pub tracked_push : (done : Progress) (v : List ℕ) (items : List ProofItem) (passed : List Passed) (i : ProofItem) (p : Passed) → AreTracked done v items passed → IsTracked done v i p → AreTracked done v (items ++ i ∷ []) (passed ++ p ∷ [])
    tracked_push done v [] [] i p t one = (one, tt)
    tracked_push done v [] (x ∷ passed) i p t one = absurd t
    tracked_push done v (x ∷ items) [] i p t one = absurd t
    tracked_push done v (x ∷ items) (y ∷ passed) i p t one = (t.0, tracked_push done v items passed i p t.1 one)

    -- the first item with an atom that is there
    pub tracked_find : (done : Progress) (v : List ℕ) (items : List ProofItem) (passed : List Passed) (a : ℕ) → AreTracked done v items passed → Contains (atoms_of items) a
        → (i : ProofItem) × (p : Passed) × (find (λ i. i.atom == a) items ≡ Some i) × (find (λ p. p.atom == a) passed ≡ Some p) × (i.atom ≡ a) × IsTracked done v i p
    tracked_find done v [] passed a t (k, within, at) = absurd (omega arith)
    tracked_find done v (i ∷ items) [] a t is = absurd t
    tracked_find done v (i ∷ items) (p ∷ passed) a t is =
        elim (i.atom == a) as (λ b. (i.atom == a) ≡ b → (x : ProofItem) × (y : Passed) × (cond b (Some i) (find (λ i. i.atom == a) items) ≡ Some x) × (cond (p.atom == a) (Some p) (find (λ p. p.atom == a) passed) ≡ Some y) × (x.atom ≡ a) × IsTracked done v x y) [
          | true ↦ λ e.
              let same : (p.atom == a) ≡ true = ap (λ z. z == a) t.0.atom ∙ e in
              (i, p, refl, ap (λ b. cond b (Some p) (find (λ p. p.atom == a) passed)) same, (Decides-eqb i.atom a).0 e, t.0)
          | false ↦ λ e.
              let same : (p.atom == a) ≡ false = ap (λ z. z == a) t.0.atom ∙ e in
              let rest = tracked_find done v items passed a t.1 (later is e) in
              (rest.0, rest.1, rest.2, ap (λ b. cond b (Some p) (find (λ p. p.atom == a) passed)) same ∙ rest.3, rest.4, rest.5)
        ] refl
      where
        later : Contains (atoms_of (i ∷ items)) a → (i.atom == a) ≡ false → Contains (atoms_of items) a
        later (zero, within, at) e = let never = (Decides-eqb i.atom a).1 at in cc
        later (suc k, within, at) e = (k, omega arith, at)

    -- one statement's classes
    pub act_later : (done : Progress) (s : ℕ) (v classes : List ℕ) → IsGood done → r.Legal (now done) (step_at s v) → r.after (now done) (step_at s v) ≡ edit_at v (add_classes classes) (now done)
        → IsGood (with_step s v done) × IsLater done (with_step s v done)
    act_later done s v classes good legal does =
        let later = with_step s v done in
        let is : now later ≡ edit_at v (add_classes classes) (now done) = end_by-append r.after page done.steps (step_at s v) ∙ does in
        let keeps : Grows (now done) (now later) = rw is (edit_grows (add_classes classes) (classes_grow classes) v (now done)) in (
          record {
            legal = legal_append r.Legal r.after page done.steps (step_at s v) good.legal legal;
            fresh = λ q none. good.fresh q (gone (now done) (now later) keeps q none);
          },
          record {
            keeps = keeps;
            counts = λ q n c. rw is (children_at-add_classes v q classes (now done) ∙ c);
          },
        )
      where
        gone : (t u : LabelTree) → Grows t u → (q : List ℕ) → node_at q u ≡ None → node_at q t ≡ None
        gone t u keeps q none = elim (node_at q t) as (λ o. node_at q t ≡ o → o ≡ None) [ None ↦ λ e. refl | Some s ↦ λ e. let new = keeps q s e in cc ] refl

    -- Trees that come last below v, at a step that adds n children there: the state after it, and the forest of each of them.
    module _ (done : Progress) (v : List ℕ) (base : ℕ) (step : Step) (trees : List LabelTree) (good : IsGood done) (node : IsSome (node_at v (now done))) (counted : Counted done v base)
        (legal : r.Legal (now done) step) (does : r.after (now done) step ≡ edit_at v (add_trees trees) (now done)) where
      abbrev pub forest_done : Progress
      forest_done = record { steps = done.steps ++ step ∷ []; added = with_children v (length trees) done.added }

      forest_is : now forest_done ≡ edit_at v (add_trees trees) (now done)
      forest_is = end_by-append r.after page done.steps step ∙ does

      pub forest_keeps : Grows (now done) (now forest_done)
      forest_keeps = rw forest_is (edit_grows (add_trees trees) (trees_grow trees) v (now done))

      the_node : (s : LabelTree) × (node_at v (now done) ≡ Some s)
      the_node = there (node_at v (now done)) node

      how_many : length_of the_node.0.below ≡ base + done.added v
      how_many = let here : Some (length_of the_node.0.below) ≡ Some (base + done.added v) = sym (ap (option_map (λ (n : LabelTree). length_of n.below)) the_node.1) ∙ counted in cc

      pub forest_later : IsLater done forest_done
      forest_later = record {
        keeps = forest_keeps;
        counts = λ q n c. elim (same_or_other v q) [
          | inl same ↦
              let c' : Counted done v n = subst (λ z. Counted done z n) (sym same) c in
              let here : Some (length_of the_node.0.below) ≡ Some (n + done.added v) = sym (ap (option_map (λ (n : LabelTree). length_of n.below)) the_node.1) ∙ c' in
              let number : length_of the_node.0.below ≡ n + done.added v = cc in
              let sum : length_of the_node.0.below + length trees ≡ n + with_children v (length trees) done.added v = omega (arith, number, with_children-same v (length trees) done.added) in
              let all : children_at v (now forest_done) ≡ Some (n + with_children v (length trees) done.added v) =
              ap (children_at v) forest_is ∙ children_at-add_trees v trees (now done) the_node.0 the_node.1 ∙ ap Some sum in
              subst (λ z. Counted forest_done z n) same all
          | inr other ↦
              ap (children_at q) forest_is ∙ children_at-add_trees_other v trees (now done) the_node.0 the_node.1 q (λ e. other (sym e)) (counted_node done q n c) ∙ c
              ∙ ap (λ z. Some (n + z)) (sym (with_children-other v q (length trees) done.added other))
        ];
      }
        where
          counted_node : (done : Progress) (q : List ℕ) (n : ℕ) → Counted done q n → IsSome (node_at q (now done))
          counted_node done q n c = elim (node_at q (now done)) as (λ o. option_map (λ (n : LabelTree). length_of n.below) o ≡ Some (n + done.added q) → IsSome o) [ None ↦ λ e. cc | Some s ↦ λ e. refl ] c

      pub forest_good : IsGood forest_done
      forest_good = record {
        legal = legal_append r.Legal r.after page done.steps step good.legal legal;
        fresh = λ q none. elim (same_or_other v q) [
          | inl same ↦ let is : IsSome (node_at v (now forest_done)) = kept_node (now done) (now forest_done) forest_keeps v node in let is' : IsSome (node_at q (now forest_done)) = subst (λ z. IsSome (node_at z (now forest_done))) same is in
              let never : IsSome {T = LabelTree} None = rw none at is' in cc
          | inr other ↦ with_children-other v q (length trees) done.added other ∙ good.fresh q (gone q none)
        ];
      }
        where
          gone : (q : List ℕ) → node_at q (now forest_done) ≡ None → node_at q (now done) ≡ None
          gone q none = elim (node_at q (now done)) as (λ o. node_at q (now done) ≡ o → o ≡ None) [ None ↦ λ e. refl | Some s ↦ λ e. let new = forest_keeps q s e in cc ] refl

      pub forest_brought : (i n : ℕ) → slice_get trees n ≡ Some (r.kind_tree i) → IsBrought forest_done (v ++ (base + done.added v + n) ∷ []) i
      forest_brought i n at = subst (λ m. IsBrought forest_done (v ++ (m + n) ∷ []) i) how_many (record {
        nodes = λ q x is. (x, rw (append_assoc v ((length_of the_node.0.below + n) ∷ []) q) (ap (node_at (v ++ (length_of the_node.0.below + n) ∷ q)) forest_is ∙ node_at-add_trees_new v trees (now done) the_node.0 the_node.1 n (r.kind_tree i) at q ∙ is), λ a h. h);
        counts = λ q x is.
            let m = length_of the_node.0.below + n in
            let path : (v ++ m ∷ []) ++ q ≡ v ++ m ∷ q = append_assoc v (m ∷ []) q in
            let new : node_at (v ++ m ∷ q) (now forest_done) ≡ Some x = ap (node_at (v ++ m ∷ q)) forest_is ∙ node_at-add_trees_new v trees (now done) the_node.0 the_node.1 n (r.kind_tree i) at q ∙ is in
            let old : node_at (v ++ m ∷ q) (now done) ≡ None = node_at-add_trees_none v trees (now done) the_node.0 the_node.1 n q in
            let apart : v ≢ v ++ m ∷ q = λ e. let never : Some the_node.0 ≡ None = sym the_node.1 ∙ ap (λ z. node_at z (now done)) e ∙ old in cc in
            let zero_added : with_children v (length trees) done.added (v ++ m ∷ q) ≡ 0 = with_children-other v (v ++ m ∷ q) (length trees) done.added apart ∙ good.fresh (v ++ m ∷ q) old in
            let sum : length_of x.below ≡ length_of x.below + with_children v (length trees) done.added (v ++ m ∷ q) = omega (arith, zero_added) in
            let all : Counted forest_done (v ++ m ∷ q) (length_of x.below) = ap (option_map (λ (n : LabelTree). length_of n.below)) new ∙ ap Some sum in
            rw path all;
      })

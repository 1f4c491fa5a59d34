-- What a node gets in some round it gets by legal steps: of an added node, below any node with its parent's atoms, and of a page's node.
use Rattle.std.proofs.Common.{◌≡◌, ℕ, zero, suc, List, [], ◌∷◌, ◌++◌, Option, Some, None, IsSomeAnd, option_map, unwrap_or, Contains, refl, sym, ap, ◌∙◌, subst, inl, inr}
use Rattle.std.specs.List.{range_with_len}
use Rattle.std.proofs.lemmas.List.Elements.{All-contains, Contains-append_cases}
use Rattle.tp_base.proofs.ClassLemmas.{Contains-cut_to}
use Rattle.tp_base.proofs.Rising.{Contains-cons, Contains-none, Contains-here, Contains-behind, All-from_Contains}
use Rattle.tree_sem.specs.Trees.{LabelTree, leaf, length_of, node_at, label_at, edit_at, children_at, add_child}
use Rattle.tree_sem.specs.Paths.{parent_of}
use Rattle.tree_sem.proofs.RowLemmas.{there}
use Rattle.tree_sem.proofs.PathLemmas.{child_of_parent, IsSome-parent_of}
use Rattle.tree_sem.proofs.NodeLemmas.{map-Contains}
use Rattle.tree_sem.proofs.EditLemmas.{node_at-add_child_new}
use Rattle.tree_sem.specs.Nodes.{IsNode, HasAtom, HasAtoms}
use Rattle.tree_sem.specs.Growth.{Grows}
use Rattle.tree_sem.proofs.GrowthLemmas.{grows_itself, grows_both, IsNode-grows, HasAtom-grows}
use Rattle.simple_core.specs.declared.system.System.{System}
use Rattle.simple_core.specs.Systems.{kind_label}
use Rattle.simple_core.specs.Labels.{visible_in, labels_below}
use Rattle.simple_core.specs.Rounds.{grown}
use Rattle.simple_core.specs.Pages.{page_round, InClosed}
use Rattle.simple_core.proofs.LabelLemmas.{before, local, up, down, IsByRule, IsByLink, IsBySpawn, kinds_at-is, next_label-gives}
use Rattle.simple_core.proofs.RoundLemmas.{set_of-is, labels_below-is}
use Rattle.simple_core.proofs.PageLemmas.{parent_in, real_below, below_in}
use Rattle.simple_core.proofs.PageRest.{counted_child}
use Rattle.simple_core.proofs.CellLemmas.{grown-next}
use Rattle.simple_core.specs.Reached.{IsLater, Got}
use Rattle.simple_core.proofs.GrowthLemmas.{label_there}
use Rattle.simple_core.proofs.Steps.{later_itself, later_both, got_already, then_got, got_by_local, got_by_up, got_by_down, later_by_spawn}

module _ (s : System) where
  -- a later tree whose node at w has all these atoms
  pub record GotAll (u : LabelTree) (w xs : List ℕ) : Type 0 where
    pub after : LabelTree
    pub later : IsLater s u after
    pub has : (a : ℕ) → Contains xs a → HasAtom after w a

  -- one after another, where the way to each of them is still there later
  got_all : (w : List ℕ) (Stays : LabelTree → Type 0) → ((u u' : LabelTree) → Grows u u' → Stays u → Stays u') → (xs : List ℕ)
      → ((u : LabelTree) (a : ℕ) → Stays u → Contains xs a → Got s u w a) → (u : LabelTree) → Stays u → GotAll u w xs
  got_all w Stays kept [] one u stays = record { after = u; later = later_itself s u; has = λ a is. absurd (Contains-none a is) }
  got_all w Stays kept (x ∷ xs) one u stays =
      let first = one u x stays (Contains-here x x xs refl) in
      let rest = got_all w Stays kept xs (λ u' a stays' is. one u' a stays' (Contains-behind a x xs is)) first.after (kept u first.after first.later.grows stays) in
      record {
        after = rest.after;
        later = later_both s u first.after rest.after first.later rest.later;
        has = λ a is. elim ((Contains-cons a x xs).0 is) [
          | inl same ↦ subst (λ z. HasAtom rest.after w z) (sym same) (HasAtom-grows first.after rest.after rest.later.grows w x first.has)
          | inr behind ↦ rest.has a behind
        ];
      }

  has_all : (u : LabelTree) (w xs : List ℕ) → IsNode u w → ((a : ℕ) → Contains xs a → HasAtom u w a) → HasAtoms u w xs
  has_all u w xs is has =
      let l = label_there w u is in
      rw l.1 (All-from_Contains (Contains l.0) xs (λ a listed. rw l.1 at has a listed))

  -- by a local rule, where the label's atoms can be got
  by_rule : (w own : List ℕ) (Stays : LabelTree → Type 0) → ((u u' : LabelTree) → Grows u u' → Stays u → Stays u')
      → ((u : LabelTree) (a : ℕ) → Stays u → Contains own a → Got s u w a) → (a : ℕ) → IsByRule s.local own a → (u : LabelTree) → Stays u → IsNode u w → Got s u w a
  by_rule w own Stays kept one a by u stays is =
      let all = got_all w Stays kept by.rule.needs (λ u' b stays' listed. one u' b stays' (All-contains (Contains own) by.rule.needs b by.needs listed)) u stays in
      let got = got_by_local s by.rule by.listed all.after w (has_all all.after w by.rule.needs (IsNode-grows u all.after all.later.grows w is) all.has) in
      subst (λ z. Got s u w z) by.gives (then_got s u all.after w by.rule.gives all.later got)

  -- a new child of a kind
  spawned : (u : LabelTree) (w : List ℕ) (j : ℕ) (own : List ℕ) → IsNode u w → ((a : ℕ) → Contains own a → HasAtom u w a) → IsBySpawn s own j
      → (after : LabelTree) × (m : ℕ) × IsLater s u after × (node_at (w ++ m ∷ []) after ≡ Some (leaf (kind_label s j)))
  spawned u w j own is has by =
      let here = there (node_at w u) is in
      let later = later_by_spawn s by.spawn by.listed u w (has by.spawn.needs by.needs) in (
        edit_at w (add_child (kind_label s by.spawn.kind)) u,
        length_of here.0.below,
        later,
        node_at-add_child_new w (kind_label s by.spawn.kind) u here.0 here.1 ∙ ap (λ z. Some (leaf (kind_label s z))) by.kind,
      )

  -- a node of kind i, the m-th child of a node at v that has the atoms p
  pub record IsReady (v p : List ℕ) (m i : ℕ) (u : LabelTree) : Type 0 where
    pub above : (a : ℕ) → Contains p a → HasAtom u v a
    pub is : IsNode u (v ++ m ∷ [])
    pub label : (a : ℕ) → Contains (kind_label s i) a → HasAtom u (v ++ m ∷ []) a

  ready_still : (v p : List ℕ) (m i : ℕ) (u u' : LabelTree) → Grows u u' → IsReady v p m i u → IsReady v p m i u'
  ready_still v p m i u u' grows r = record {
    above = λ a listed. HasAtom-grows u u' grows v a (r.above a listed);
    is = IsNode-grows u u' grows (v ++ m ∷ []) r.is;
    label = λ a listed. HasAtom-grows u u' grows (v ++ m ∷ []) a (r.label a listed);
  }

  -- where those of a round can be got in any new child, what a child gives by `down`
  by_below : (w own : List ℕ) (Stays : LabelTree → Type 0) → ((u u' : LabelTree) → Grows u u' → Stays u → Stays u')
      → ((u : LabelTree) (a : ℕ) → Stays u → Contains own a → Got s u w a) → (f : ℕ → List ℕ → List ℕ)
      → ((v p : List ℕ) (m j : ℕ) (u : LabelTree) → IsReady v p m j u → (a : ℕ) → Contains (f j p) a → Got s u (v ++ m ∷ []) a)
      → (label : List ℕ) → Contains (labels_below s f own) label → (a : ℕ) → IsByLink s.down label a → (u : LabelTree) → Stays u → IsNode u w → Got s u w a
  by_below w own Stays kept one f inner label listed a by u stays is =
      let of = labels_below-is s f own label listed in
      let j = of.0 in
      let all = got_all w Stays kept own one u stays in
      let node' = IsNode-grows u all.after all.later.grows w is in
      let new = spawned all.after w j own node' all.has (kinds_at-is s own j of.1) in
      let u2 = new.0 in
      let m = new.1 in
      let later2 = later_both s u all.after u2 all.later new.2 in
      let ready : IsReady w (visible_in s own) m j u2 = record {
        above = λ b seen. HasAtom-grows all.after u2 new.2.grows w b (all.has b ((Contains-cut_to s.visible own b).0 seen).1);
        is = rw new.3 refl;
        label = λ b in_label. rw new.3 in_label;
      } in
      let from = inner w (visible_in s own) m j u2 ready by.link.from (subst (λ z. Contains z by.link.from) of.2 by.from) in
      let later3 = later_both s u u2 from.after later2 from.later in
      let got = got_by_down s by.link by.listed from.after w m (IsNode-grows u from.after later3.grows w is) from.has in
      subst (λ z. Got s u w z) by.to (then_got s u from.after w by.link.to later3 got)

  pub grown_got : (k : ℕ) (v p : List ℕ) (m i : ℕ) (u : LabelTree) → IsReady v p m i u → (a : ℕ) → Contains (grown s k i p) a → Got s u (v ++ m ∷ []) a
  grown_got zero v p m i u ready a listed = got_already s u (v ++ m ∷ []) a (ready.label a (set_of-is (kind_label s i) a listed))
  grown_got (suc k) v p m i u ready a listed =
      let w = v ++ m ∷ [] in
      let own = grown s k i p in
      let one : (u : LabelTree) (a : ℕ) → IsReady v p m i u → Contains own a → Got s u w a = λ u a ready listed. grown_got k v p m i u ready a listed in
      elim ((grown-next s k i p a).0 listed) [
        | before old ↦ one u a ready old
        | local by ↦ by_rule w own (IsReady v p m i) (ready_still v p m i) one a by u ready ready.is
        | up by ↦ subst (λ z. Got s u w z) by.to (got_by_up s by.link by.listed u v m ready.is (ready.above by.link.from by.from))
        | down label in_below by ↦ by_below w own (IsReady v p m i) (ready_still v p m i) one (grown s k) (grown_got k) label in_below a by u ready ready.is
      ]

  module _ (t : LabelTree) where
    pub page_got : (k : ℕ) (v : List ℕ) (u : LabelTree) → IsNode t v → Grows t u → (a : ℕ) → Contains (page_round s t k v) a → Got s u v a
    page_got zero v u is grows a listed =
        got_already s u v a (HasAtom-grows t u grows v a (label_has (label_at v t) (set_of-is (unwrap_or (label_at v t) []) a listed)))
      where
        label_has : (o : Option (List ℕ)) → Contains (unwrap_or o []) a → IsSomeAnd o (λ l. Contains l a)
        label_has None is = absurd (Contains-none a is)
        label_has (Some l) is = is
    page_got (suc k) v u is grows a listed =
        let own = page_round s t k v in
        let kept : (u u' : LabelTree) → Grows u u' → Grows t u → Grows t u' = λ u u' g g'. grows_both t u u' g' g in
        let one : (u : LabelTree) (a : ℕ) → Grows t u → Contains own a → Got s u v a = λ u a grows listed. page_got k v u is grows a listed in
        let node' = IsNode-grows t u grows v is in
        elim (next_label-gives s (parent_in s t k v) own (below_in s t k v) a listed) [
          | before old ↦ one u a grows old
          | local by ↦ by_rule v own (Grows t) kept one a by u grows node'
          | up by ↦ from_parent (page_got k) v u is grows a by
          | down label in_below by ↦ elim (Contains-append_cases (real_below s t k v) (labels_below s (grown s k) own) label in_below) [
            | inl real ↦
                let of = map-Contains (λ n. page_round s t k (v ++ n ∷ [])) (range_with_len 0 (unwrap_or (children_at v t) 0)) label real in
                let from = page_got k (v ++ of.0 ∷ []) u (counted_child v t of.0 of.1) grows by.link.from (subst (λ z. Contains z by.link.from) of.2 by.from) in
                let got = got_by_down s by.link by.listed from.after v of.0 (IsNode-grows u from.after from.later.grows v node') from.has in
                subst (λ z. Got s u v z) by.to (then_got s u from.after v by.link.to from.later got)
            | inr new ↦ by_below v own (Grows t) kept one (grown s k) (grown_got k) label new a by u grows node'
          ]
        ]
      where
        from_parent : ((v : List ℕ) (u : LabelTree) → IsNode t v → Grows t u → (a : ℕ) → Contains (page_round s t k v) a → Got s u v a)
            → (v : List ℕ) (u : LabelTree) → IsNode t v → Grows t u → (a : ℕ) → IsByLink s.up (parent_in s t k v) a → Got s u v a
        from_parent at v u is grows a by = elim (parent_of v) as (λ o. parent_of v ≡ o → Contains (unwrap_or (option_map (page_round s t k) o) []) by.link.from → Got s u v a) [
          | None ↦ λ e from. absurd (Contains-none by.link.from from)
          | Some p ↦ λ e from.
              let child = child_of_parent v p e in
              let above = at p u (IsSome-parent_of v p t e is) grows by.link.from from in
              let node' = IsNode-grows u above.after above.later.grows v (IsNode-grows t u grows v is) in
              let got = got_by_up s by.link by.listed above.after p child.0 (subst (λ z. IsNode above.after z) child.1 node') above.has in
              subst (λ z. Got s u v z) by.to (then_got s u above.after v by.link.to above.later (subst (λ z. Got s above.after z by.link.to) (sym child.1) got))
        ] refl by.from

    -- each atom of the closed label of a page's node is got by legal steps
    pub closed_got : (v : List ℕ) (a : ℕ) → IsNode t v → InClosed s t v a → Got s t v a
    closed_got v a is (k, listed) = page_got k v t is (grows_itself t) a listed

-- What first rounds say of labels, and the visible part of a label.
--     first_has, never_has       whether a label has an atom, by the atom's first round
--     closed_child               the first child that has an atom
--     below_known, spawn_is      a child that a spawn rule adds
--     popped, above_is           the label of a node's parent
--     all_stop, all_next         all atoms of a list, one after the other
--     shown, unshown             whether a part of a label has an atom
--     IsSeen                     the visible part so far
use Rattle.std.proofs.Common.{◌≡◌, ◌↔◌, ℕ, zero, suc, ◌+◌, ◌-◌, ◌<◌, ◌≤◌, Bool, true, false, leb, ◌&&◌, List, [], ◌∷◌, ◌++◌, length, take, drop, find, get_or, Contains, Option, Some, None, IsSome, IsNone, is_some, option_map, unwrap_or, slice_get, inl, inr, refl, sym, ap, ◌∙◌, subst, arith}
use Rattle.std.specs.List.{list_all, range_with_len}
use Rattle.std.specs.List.Sorted.{IsStrictlyIncreasing}
use Rattle.std.proofs.lemmas.Bool.{cases_Bool, cases_lt, leb-true, leb-false, both_ways, false_from_ne_true}
use Rattle.std.proofs.lemmas.List.{take_all}
use Rattle.std.proofs.lemmas.List.Elements.{Contains-append_cases, Contains-append_left, Contains-append_right}
use Rattle.std.proofs.lemmas.Option.{slice_get-get_or}
use Rattle.tp_base.specs.Classes.{has_class, with_class, cut_to}
use Rattle.tp_base.proofs.Rising.{All-from_Contains}
use Rattle.tp_base.proofs.ClassLemmas.{has_class-Contains, Contains-has_class, Contains-with_class, IsStrictlyIncreasing-with_class, Contains-cut_to, IsStrictlyIncreasing-cut_to, same_members}
use Rattle.tp_base.proofs.Lists.{take_suc, drop_at}
use Rattle.tree_sem.specs.Trees.{LabelTree, node_at, children_at, label_at}
use Rattle.tree_sem.specs.Paths.{parent_of}
use Rattle.tree_sem.proofs.PathLemmas.{parent_of-take}
use Rattle.simple_core.specs.declared.rules.Spawn.{Spawn}
use Rattle.simple_core.specs.declared.summaries.Summaries.{Ghosts}
use Rattle.simple_core.specs.declared.system.System.{System}
use Rattle.simple_core.specs.Labels.{visible_in}
use Rattle.simple_core.specs.Rounds.{grown, IsFirst}
use Rattle.simple_core.specs.Pages.{page_round}
use Rattle.simple_core.specs.Pairs.{Asks}
use Rattle.simple_core.proofs.LabelLemmas.{is-kinds_at}
use Rattle.simple_core.proofs.Members.{Among, Contains-range}
use Rattle.simple_core.proofs.PageRest.{counted_child}
use Rattle.simple_core.proofs.RestLemmas.{first_is}
use Rattle.simple_core.proofs.RoundLemmas.{grown-rises, grown-one_more}
use Rattle.simple_core.proofs.PageLemmas.{page-rises, page-one_more, is_closed}
use Rattle.closed_page.specs.ClosedPages.{ClosedPage, IsClosedPage, round_of}
use Rattle.closed_page.specs.FirstChildren.{came_by}
use Rattle.closed_page.proofs.ChildLemmas.{range_agree}
use Rattle.closed_page.proofs.LabelledLemmas.{child_number}
use Rattle.proof_check.proofs.EntryLemmas.{drop_end}
use Rattle.proof_maker.specs.declared.worlds.Place.{Place}
use Rattle.proof_maker.specs.declared.worlds.Place.TheVariants.{Node, Added}
use Rattle.proof_maker.specs.declared.worlds.World.{World}
use Rattle.proof_needs.specs.Choices.{spawn_needs, spawn_kind}
use Rattle.proof_maker.specs.Worlds.{labels_of, above_on, IsPlace, IsAsking, IsReady, spawn_has}

-- an atom of a part of a label
module _ (all label : List ℕ) (a : ℕ) where
  pub unshown : has_class a all ≡ false → false ≡ has_class a (cut_to all label)
  unshown none = sym (false_from_ne_true (has_class a (cut_to all label)) (λ has.
      both_ways (has_class a all) none (has_class-Contains a all ((Contains-cut_to all label a).0 (Contains-has_class a (cut_to all label) has)).0)))

  pub shown : has_class a all ≡ true → has_class a label ≡ has_class a (cut_to all label)
  shown in_all = elim (cases_Bool (has_class a label)) [
    | inl there ↦ there ∙ sym (has_class-Contains a (cut_to all label) ((Contains-cut_to all label a).1 (Contains-has_class a all in_all, Contains-has_class a label there)))
    | inr gone ↦ gone ∙ sym (false_from_ne_true (has_class a (cut_to all label)) (λ has.
        both_ways (has_class a label) gone (has_class-Contains a label ((Contains-cut_to all label a).0 (Contains-has_class a (cut_to all label) has)).1)))
  ]

-- a set of which all atoms are among others
cut_whole : (all xs : List ℕ) → IsStrictlyIncreasing xs → ((a : ℕ) → Contains xs a → Contains all a) → cut_to all xs ≡ xs
cut_whole all xs rises within = same_members (cut_to all xs) xs (IsStrictlyIncreasing-cut_to all xs rises) rises
    (All-from_Contains (Contains xs) (cut_to all xs) (λ b there. ((Contains-cut_to all xs b).0 there).1))
    (All-from_Contains (Contains (cut_to all xs)) xs (λ b there. (Contains-cut_to all xs b).1 (within b there, there)))

module _ (f : ℕ → List ℕ) (one : (k : ℕ) → Among (f k) (f (suc k))) (a : ℕ) where
  pub first_has : (r k : ℕ) → IsFirst f a (Some r) → leb r k ≡ has_class a (f k)
  first_has r k first =
      let by_round = first_is f one a r first k in
      elim (cases_Bool (leb r k)) [
        | inl low ↦ low ∙ sym (has_class-Contains a (f k) (by_round.1 (leb-true r k low)))
        | inr high ↦
            high ∙ sym (false_from_ne_true (has_class a (f k)) (λ is.
            let le = by_round.0 (Contains-has_class a (f k) is) in
            let lt = leb-false r k high in
            omega (arith, le, lt)))
      ]

  pub never_has : (k : ℕ) → IsFirst f a None → false ≡ has_class a (f k)
  never_has k never = sym (false_from_ne_true (has_class a (f k)) (λ is. never k (Contains-has_class a (f k) is)))

module _ (s : System) (page : LabelTree) where
  pub labels_more : (place : Place) (k : ℕ) → Among (labels_of s page place k) (labels_of s page place (suc k))
  labels_more (Node at) k = page-one_more s page at.now k
  labels_more (Added j parent arrivals i) k = grown-one_more s j parent.now k

  pub labels_rise : (place : Place) (k : ℕ) → IsStrictlyIncreasing (labels_of s page place k)
  labels_rise (Node at) k = page-rises s page k at.now
  labels_rise (Added j parent arrivals i) k = grown-rises s k j parent.now

  -- what a closed page tells of a node
  module _ (c : ClosedPage) (closed : IsClosedPage s page c) (v : List ℕ) (node : IsSome (node_at v page)) (a k : ℕ) where
    pub node_first : (r : ℕ) → Some r ≡ round_of c.firsts v a → leb r k ≡ has_class a (page_round s page k v)
    node_first r is = first_has (λ m. page_round s page m v) (page-one_more s page v) a r k (subst (IsFirst (λ m. page_round s page m v) a) (sym is) (closed.firsts v a node))

    pub node_never : None ≡ round_of c.firsts v a → false ≡ has_class a (page_round s page k v)
    node_never is = never_has (λ m. page_round s page m v) (page-one_more s page v) a k (subst (IsFirst (λ m. page_round s page m v) a) (sym is) (closed.firsts v a node))

  pub seen_rises : (k : ℕ) (v : List ℕ) → IsStrictlyIncreasing (visible_in s (page_round s page k v))
  seen_rises k v = IsStrictlyIncreasing-cut_to s.visible (page_round s page k v) (page-rises s page k v)

  -- all that is seen in a round is of the closed label
  pub closed_seen : (c : ClosedPage) → IsClosedPage s page c → (v own : List ℕ) → label_at v c.labels ≡ Some own → (k : ℕ) → cut_to own (visible_in s (page_round s page k v)) ≡ visible_in s (page_round s page k v)
  closed_seen c closed v own at k =
      let label = page_round s page k v in
      cut_whole own (visible_in s label) (seen_rises k v)
      (λ a there. is_closed s page v own (closed.closed v own at) a (k, ((Contains-cut_to s.visible label a).0 there).1))

  -- the least child that a closed page tells is the first of the page's that has the atom
  module _ (c : ClosedPage) (closed : IsClosedPage s page c) (v : List ℕ) (a k : ℕ) where
    came_is : (n : ℕ) → IsSome (node_at (v ++ n ∷ []) page) → came_by k (round_of c.firsts (v ++ n ∷ []) a) ≡ has_class a (page_round s page k (v ++ n ∷ []))
    came_is n node = elim (round_of c.firsts (v ++ n ∷ []) a) as (λ o. o ≡ round_of c.firsts (v ++ n ∷ []) a → came_by k o ≡ has_class a (page_round s page k (v ++ n ∷ []))) [
      | None ↦ λ e. node_never c closed (v ++ n ∷ []) node a k e
      | Some r ↦ λ e. node_first c closed (v ++ n ∷ []) node a k r e
    ] refl

    fewer : (t u : LabelTree) → ((w : List ℕ) → IsSome (node_at w t) → IsSome (node_at w u)) → unwrap_or (children_at v t) 0 ≤ unwrap_or (children_at v u) 0
    fewer t u there =
        let n = unwrap_or (children_at v t) 0 in
        let m = unwrap_or (children_at v u) 0 in
        elim (cases_lt m n) [
          | inl less ↦
              let never : m < m = child_number v m u (there (v ++ m ∷ []) (counted_child v t m (Contains-range n m less))) in
              absurd (omega (arith, never))
          | inr le ↦ le
        ]

    pub closed_child : find (λ n. came_by k (round_of c.firsts (v ++ n ∷ []) a)) (range_with_len 0 (unwrap_or (children_at v c.labels) 0))
        ≡ find (λ n. has_class a (page_round s page k (v ++ n ∷ []))) (range_with_len 0 (unwrap_or (children_at v page) 0))
    closed_child =
        let fewer_in = fewer c.labels page (λ w there. (closed.nodes w).0 there) in
        let fewer_out = fewer page c.labels (λ w there. (closed.nodes w).1 there) in
        let count : unwrap_or (children_at v c.labels) 0 ≡ unwrap_or (children_at v page) 0 = omega (arith, fewer_in, fewer_out) in
        ap (λ m. find (λ n. came_by k (round_of c.firsts (v ++ n ∷ []) a)) (range_with_len 0 m)) count
        ∙ range_agree (λ n. came_by k (round_of c.firsts (v ++ n ∷ []) a)) (λ n. has_class a (page_round s page k (v ++ n ∷ []))) (unwrap_or (children_at v page) 0)
        (λ n less. came_is n (counted_child v page n (Contains-range (unwrap_or (children_at v page) 0) n less)))

  -- the label of a parent
  pub above_is : (v p : List ℕ) (a k : ℕ) → parent_of v ≡ Some p → has_class a (page_round s page k p) ≡ has_class a (above_on s page k v)
  above_is v p a k is = ap (λ o. has_class a (unwrap_or (option_map (page_round s page k) o) [])) (sym is)

  pub above_none : (v : List ℕ) (a k : ℕ) → v ≡ [] → false ≡ has_class a (above_on s page k v)
  above_none v a k root = ap (λ u. has_class a (above_on s page k u)) (sym root)

pub added_first : (s : System) (j : ℕ) (parent : List ℕ) (a k r : ℕ) → IsFirst (λ m. grown s m j parent) a (Some r) → leb r k ≡ has_class a (grown s k j parent)
added_first s j parent a k r first = first_has (λ m. grown s m j parent) (grown-one_more s j parent) a r k first

pub added_never : (s : System) (j : ℕ) (parent : List ℕ) (a k : ℕ) → IsFirst (λ m. grown s m j parent) a None → false ≡ has_class a (grown s k j parent)
added_never s j parent a k never = never_has (λ m. grown s m j parent) (grown-one_more s j parent) a k never

-- the pair of a child that a spawn rule adds at a place is known
pub below_known : {X : Type 0} (S : Ghosts X) (world : World X) → IsReady S world → (place : Place) (k : ℕ) (c : Spawn) (visible : List ℕ) → IsPlace S world place
    → IsAsking world.system.now (S.known world.sums.now) place → Contains world.system.now.child c → true ≡ has_class c.needs (labels_of world.system.now world.page.now place k)
    → visible ≡ visible_in world.system.now (labels_of world.system.now world.page.now place k) → S.known world.sums.now (c.kind, visible)
below_known S world ready (Node at) k c visible node asking listed needs is =
    let s = world.system.now in
    let own = page_round s world.page.now k at.now in
    let asks : Asks s own (c.kind, visible) = (is-kinds_at s own c.kind (record { spawn = c; listed = listed; needs = Contains-has_class c.needs own (sym needs); kind = refl }), is) in
    ready.asked (c.kind, visible) (at.now, node, k, asks)
below_known S world ready (Added j parent arrivals i) k c visible pair asking listed needs is =
    let s = world.system.now in
    let own = grown s k j parent.now in
    let asks : Asks s own (c.kind, visible) = (is-kinds_at s own c.kind (record { spawn = c; listed = listed; needs = Contains-has_class c.needs own (sym needs); kind = refl }), is) in
    asking (j, parent.now) (c.kind, visible) k pair.0 asks

pub spawn_is : {X : Type 0} (world : World X) (place : Place) (k from c : ℕ) (spawns : List Spawn) (x : Spawn) (visible : List ℕ) (b : Bool) → spawns ≡ world.system.now.child → c < length spawns
    → x ≡ get_or spawns c x → visible ≡ visible_in world.system.now (labels_of world.system.now world.page.now place k)
    → b ≡ (has_class x.needs (labels_of world.system.now world.page.now place k) && has_class from (grown world.system.now k x.kind visible)) → b ≡ spawn_has world place k from c
spawn_is world place k from c spawns x visible b are less is seen test =
    let s = world.system.now in
    let own = labels_of s world.page.now place k in
    let at : slice_get s.child c ≡ Some x = ap (λ xs. slice_get xs c) (sym are) ∙ slice_get-get_or spawns c x less ∙ ap Some (sym is) in
    let needs : spawn_needs s c ≡ x.needs = ap (λ o. unwrap_or (option_map (λ (r : Spawn). r.needs) o) 0) at in
    let kind : spawn_kind s c ≡ x.kind = ap (λ o. unwrap_or (option_map (λ (r : Spawn). r.kind) o) 0) at in
    test ∙ (λ i. has_class (sym needs i) own && has_class from (grown s k (sym kind i) (seen i)))

-- a path whose last step is taken away
pub popped : (v rest : List ℕ) (o : Option ℕ) → is_some o ≡ true → (IsNone o ↔ (v ≡ [])) → rest ≡ take (length v - 1) v → parent_of v ≡ Some rest
popped [] rest None there root is = cc
popped [] rest (Some k) there root is = let none = root.1 refl in cc
popped (x ∷ v) rest o there root is = parent_of-take (x ∷ v) (omega arith) ∙ ap Some (sym is)

-- all of a list, one after the other
module _ (p : ℕ → Bool) (xs : List ℕ) where
  pub all_stop : (i a : ℕ) → slice_get xs i ≡ Some a → false ≡ p a → list_all p xs ≡ list_all p (drop i xs) → false ≡ list_all p xs
  all_stop i a at fails from = sym (from ∙ ap (list_all p) (drop_at xs i a at) ∙ ap (λ b. b && list_all p (drop (suc i) xs)) (sym fails))

  pub all_next : (i a : ℕ) → slice_get xs i ≡ Some a → true ≡ p a → list_all p xs ≡ list_all p (drop i xs) → list_all p xs ≡ list_all p (drop (i + 1) xs)
  all_next i a at passes from =
      let next : suc i ≡ i + 1 = omega arith in
      from ∙ ap (list_all p) (drop_at xs i a at) ∙ ap (λ b. b && list_all p (drop (suc i) xs)) (sym passes) ∙ ap (λ n. list_all p (drop n xs)) next

  pub all_end : (i : ℕ) → length xs ≤ i → list_all p xs ≡ list_all p (drop i xs) → true ≡ list_all p xs
  all_end i past from = sym (from ∙ ap (list_all p) (drop_end xs i past))

-- what of a set is among the first i atoms of another: the visible part, by the atoms that are visible or by those of a closed label
pub record IsSeen (visible own label : List ℕ) (i : ℕ) : Type 0 where
  pub rises : IsStrictlyIncreasing label
  pub each : (a : ℕ) → Contains label a ↔ (Contains (take i visible) a × Contains own a)

module _ (visible own : List ℕ) where
  nothing : (a : ℕ) → Contains [] a → ⊥
  nothing a (k, within, at) = omega (arith, within)

  only : (x y : ℕ) → Contains (x ∷ []) y → y ≡ x
  only x y (zero, within, at) = sym at
  only x y (suc k, within, at) = absurd (omega (arith, within))

  pub seen_start : IsSeen visible own [] 0
  seen_start = record { rises = λ k within. absurd (omega (arith, within)); each = λ a. (λ is. absurd (nothing a is), λ both. absurd (nothing a both.0)) }

  longer : (i a : ℕ) → slice_get visible i ≡ Some a → take (i + 1) visible ≡ take i visible ++ a ∷ []
  longer i a at = let next : i + 1 ≡ suc i = omega arith in ap (λ n. take n visible) next ∙ take_suc visible i a at

  pub seen_more : (label : List ℕ) (i a : ℕ) → slice_get visible i ≡ Some a → true ≡ has_class a own → IsSeen visible own label i → IsSeen visible own (with_class a label) (i + 1)
  seen_more label i a at here is = record {
    rises = IsStrictlyIncreasing-with_class a label is.rises;
    each = λ b. (
      λ there. subst (λ z. Contains z b × Contains own b) (sym (longer i a at))
          (elim ((Contains-with_class a label b).0 there) [
            | inl same ↦
                (Contains-append_right (take i visible) (a ∷ []) b (0, omega arith, sym same), subst (Contains own) (sym same) (Contains-has_class a own (sym here)))
            | inr old ↦ let both = (is.each b).0 old in (Contains-append_left (take i visible) (a ∷ []) b both.0, both.1)
          ]),
      λ both. (Contains-with_class a label b).1
          (elim (Contains-append_cases (take i visible) (a ∷ []) b (subst (λ z. Contains z b) (longer i a at) both.0)) [
            | inl old ↦ inr ((is.each b).1 (old, both.1))
            | inr last ↦ inl (only a b last)
          ]),
    );
  }

  pub seen_past : (label : List ℕ) (i a : ℕ) → slice_get visible i ≡ Some a → false ≡ has_class a own → IsSeen visible own label i → IsSeen visible own label (i + 1)
  seen_past label i a at other is = record {
    rises = is.rises;
    each = λ b. (
      λ there. let both = (is.each b).0 there in (subst (λ z. Contains z b) (sym (longer i a at)) (Contains-append_left (take i visible) (a ∷ []) b both.0), both.1),
      λ both. elim (Contains-append_cases (take i visible) (a ∷ []) b (subst (λ z. Contains z b) (longer i a at) both.0)) [
        | inl old ↦ (is.each b).1 (old, both.1)
        | inr last ↦
            let never : false ≡ true = other ∙ has_class-Contains a own (subst (Contains own) (only a b last) both.1) in
            absurd (cc)
      ],
    );
  }

  pub seen_all : (label : List ℕ) (i : ℕ) → length visible ≤ i → IsStrictlyIncreasing own → IsSeen visible own label i → label ≡ cut_to visible own
  seen_all label i past rises is =
      let whole : take i visible ≡ visible = take_all i visible past in
      same_members label (cut_to visible own) is.rises (IsStrictlyIncreasing-cut_to visible own rises)
      (All-from_Contains (Contains (cut_to visible own)) label (λ b there. let both = (is.each b).0 there in (Contains-cut_to visible own b).1 (subst (λ z. Contains z b) whole both.0, both.1)))
      (All-from_Contains (Contains label) (cut_to visible own) (λ b there. let both = (Contains-cut_to visible own b).0 there in (is.each b).1 (subst (λ z. Contains z b) (sym whole) both.0, both.1)))

-- What is made from a worklist that is worked off is the canonical proof.
use Rattle.std.proofs.Common.{◌≡◌, ◌⊎◌, ℕ, suc, ◌<◌, List, [], ◌∷◌, ◌++◌, length, map, min, Contains, Option, Some, None, option_map, option_and_then, unwrap_or, slice_get, inl, inr, refl, sym, ap, ◌∙◌, subst, arith}
use Rattle.std.specs.List.{flat_map}
use Rattle.std.specs.Option.{option_to_list}
use Rattle.std.specs.List.Sorted.{IsStrictlyIncreasing}
use Rattle.std.proofs.lemmas.List.{length-map, map-append}
use Rattle.std.proofs.lemmas.Option.{slice_get_within}
use Rattle.tp_base.proofs.Lists.{map_at, at_map, at_Contains}
use Rattle.tp_base.proofs.Lists.{Contains-at, element_at}
use Rattle.tree_sem.specs.Trees.{LabelTree}
use Rattle.tree_sem.specs.Order.{Before}
use Rattle.simple_core.specs.declared.system.System.{System}
use Rattle.simple_core.specs.Pairs.{Pair}
use Rattle.simple_core.specs.Rounds.{IsFirst}
use Rattle.proof_check.specs.declared.proofs.Reason.TheVariants.{Start as start_reason}
use Rattle.proof_check.specs.declared.proofs.ProofItem.{ProofItem}
use Rattle.proof_check.specs.declared.proofs.Entry.{Entry}
use Rattle.proof_check.specs.declared.proofs.PageItem.{PageItem}
use Rattle.proof_check.specs.declared.proofs.Proof.{Proof}
use Rattle.proof_check.specs.Unfolding.{entry_count}
use Rattle.proof_check.specs.Validity.{MOST_STEPS}
use Rattle.proof_needs.specs.declared.needs.Choice.{Choice}
use Rattle.proof_needs.specs.declared.needs.Choice.TheVariants.{Start, Local, Up, Real, Spawn}
use Rattle.proof_needs.specs.declared.spots.Spot.{Spot}
use Rattle.proof_needs.specs.declared.spots.Spot.TheVariants.{Page, Added}
use Rattle.proof_needs.specs.declared.spots.Want.{Want}
use Rattle.proof_needs.specs.declared.needs.Tie.{Tie}
use Rattle.proof_needs.specs.declared.needs.Draft.{Draft}
use Rattle.proof_needs.specs.declared.needs.Needs.{Needs}
use Rattle.proof_needs.specs.declared.orders.Order.{Order}
use Rattle.proof_needs.specs.Choices.{chosen}
use Rattle.proof_maker.specs.Needs.{setting_at, path_at, labels_at, triple_by, Needed, named_by, entry_names, Walks, IsReason, IsItem, Comes, IsEntryOf, IsCanonical}
use Rattle.proof_needs.specs.Triples.{Triple, page_node, added}
use Rattle.proof_needs.specs.Triples.{Spot as Where}
use Rattle.proof_maker.specs.Items.{reason_with}
use Rattle.proof_needs.specs.Dealing.{IsDealt, IsOnPage, PageTie, AtomTie, node_of}
use Rattle.proof_needs.specs.Dealing.{path_at as path_in}
use Rattle.proof_maker.specs.Making.{IsListed, IsNumbered, IsMade, IsProofOf, item_of, page_item_of}
use Rattle.proof_needs.specs.Names.{named_at, named_all, names_in, wants_of}
use Rattle.proof_needs.specs.Numbers.{number_in}
use Rattle.proof_maker.specs.Reasons.{reason_of}
use Rattle.proof_needs.specs.Spots.{no_triple, paths_in, triple_of, triples_in, spot_in}
use Rattle.proof_maker.specs.Worklist.{AreOwn, IsTripleOf, IsWorklist}
use Rattle.proof_needs.specs.Wants.{want_of}
use Rattle.proof_maker.proofs.CompleteLemmas.{on_page, on_added, parent_is}
use Rattle.proof_maker.proofs.EntryCounts.{steps_right}
use Rattle.proof_maker.proofs.PostLemmas.{number_is}
use Rattle.proof_maker.proofs.ValidLemmas.{walked_lower}

-- the names of items that are made of other things
flat_same : {X Y : Type 0} (f : X → Y) (names : Y → List ℕ) (of : X → List ℕ) (number : ℕ → ℕ) (xs : List X) → ((x : X) → Contains xs x → names (f x) ≡ map number (of x)) → flat_map names (map f xs) ≡ map number (flat_map of xs)
flat_same f names of number [] same = refl
flat_same {X} f names of number (x ∷ xs) same =
    ap (λ ys. ys ++ flat_map names (map f xs)) (same x (0, omega arith, refl)) ∙ ap (λ ys. map number (of x) ++ ys) (flat_same f names of number xs (λ y is. same y (later y is)))
    ∙ sym (map-append number (of x) (flat_map of xs))
  where
    later : (y : X) → Contains xs y → Contains (x ∷ xs) y
    later y (k, within, at) = (suc k, omega arith, at)

module _ (s : System) (page : LabelTree) (target : ℕ) (known : Pair → Type 0) (n : Needs)
    (list : IsWorklist s page target known (paths_in n.nodes.keys) (triples_in n.triples.keys) n.ties.items n.wants.keys n.drafts.items)
    (own : AreOwn (triples_in n.triples.keys) n.wants.keys) (whole : length n.drafts.items ≡ length n.wants.keys)
    (p : Proof) (made : IsProofOf s n p)
    (numbered : IsNumbered (length (triples_in n.triples.keys)) n.wants.keys n.drafts.items made.orders.triples.items made.orders.page.wants.items made.order) where
  abbrev nodes : List (List ℕ)
  nodes = paths_in n.nodes.keys

  abbrev triples : List Triple
  triples = triples_in n.triples.keys

  abbrev number : ℕ → ℕ
  number = number_in made.order

  abbrev spot_of : Spot → Where
  spot_of = spot_in nodes triples

  -- the triple of each entry
  abbrev triple_of_entry : ℕ → Triple
  triple_of_entry m = unwrap_or (slice_get triples m) no_triple

  abbrev entry_triples : List Triple
  entry_triples = map triple_of_entry made.order

  triple_is : (m : ℕ) (t : Triple) → slice_get triples m ≡ Some t → triple_of_entry m ≡ t
  triple_is m t at = ap (λ o. unwrap_or o no_triple) at

  -- the entry of a triple that has a number
  entry_at : (m : ℕ) (t : Triple) → slice_get triples m ≡ Some t → Contains made.order m → slice_get entry_triples (number m) ≡ Some t
  entry_at m t at is =
      let e = at_Contains made.order m is in
      let place : number m ≡ e.0 = number_is made.order e.0 m numbered.distinct e.1 in
      subst (λ k. slice_get entry_triples k ≡ Some t) (sym place) (map_at triple_of_entry made.order e.0 m e.1 ∙ ap Some (triple_is m t at))

  draft_at : (i : ℕ) (w : Want) → slice_get n.wants.keys i ≡ Some w → (d : Draft) × (slice_get n.drafts.items i ≡ Some d)
  draft_at i w at = element_at n.drafts.items i (subst (λ k. i < k) (sym whole) (slice_get_within n.wants.keys i w at))

  -- what an item says of a want that is listed
  abbrev made_item : ℕ → ProofItem
  made_item = item_of n made.order

  atom_is : (i : ℕ) (w : Want) → slice_get n.wants.keys i ≡ Some w → (made_item i).atom ≡ w.atom
  atom_is i w at = ap (λ o. unwrap_or (option_map (λ (x : Want). x.atom) o) 0) at

  reason_is : (i : ℕ) (d : Draft) → slice_get n.drafts.items i ≡ Some d → (made_item i).reason ≡ reason_with number d.choice d.triple
  reason_is i d at = ap (λ o. unwrap_or (option_map (λ (x : Draft). reason_with number x.choice x.triple) o) start_reason) at

  reason_right : (spot : Where) (round : ℕ) (c : Choice) (named : Option ℕ) → IsTripleOf s page triples spot round c named → ((m : ℕ) → named ≡ Some m → Contains made.order m)
      → IsReason s page target entry_triples spot round (reason_of c) (reason_with number c named)
  reason_right spot round Start named triple closed = refl
  reason_right spot round (Local l) named triple closed = refl
  reason_right spot round (Up l) named triple closed = refl
  reason_right spot round (Real l k) named triple closed = refl
  reason_right spot round (Spawn l c) None triple closed = absurd triple
  reason_right spot round (Spawn l c) (Some m) triple closed = (number m, entry_at m (triple_by s page spot round l c) triple (closed m refl), refl)

  item_right : (i : ℕ) (w : Want) → slice_get n.wants.keys i ≡ Some w → IsListed made.order w.spot → IsItem s page target entry_triples (spot_of w.spot) (made_item i)
  item_right i w at listed =
      let d = draft_at i w at in
      let draft = list.each_draft i w d.0 at d.1 in
      let wanted = list.wanted w (Contains-at n.wants.keys i w at) in
      let atom = atom_is i w at in
      let right = reason_right (spot_of w.spot) d.0.round d.0.choice d.0.triple draft.triple (λ m named. numbered.closed i m w d.0 at d.1 named listed) in
      let choice : chosen s (setting_at s page (spot_of w.spot)) (path_at s page (spot_of w.spot)) (made_item i).atom d.0.round ≡ reason_of d.0.choice =
      ap (λ a. chosen s (setting_at s page (spot_of w.spot)) (path_at s page (spot_of w.spot)) a d.0.round) atom ∙ draft.chosen.choice in
      record {
        needed = subst (Needed s page target (spot_of w.spot)) (sym atom) wanted.needed;
        round = d.0.round;
        first = subst (λ a. IsFirst (labels_at s page (spot_of w.spot)) a (Some d.0.round)) (sym atom) draft.chosen.first;
        reason = subst (λ c. IsReason s page target entry_triples (spot_of w.spot) d.0.round c (made_item i).reason) (sym choice) (subst (IsReason s page target entry_triples (spot_of w.spot) d.0.round (reason_of d.0.choice)) (sym (reason_is i d.0 d.1)) right);
      }

  first_at : (i : ℕ) (w : Want) (d : Draft) → slice_get n.wants.keys i ≡ Some w → slice_get n.drafts.items i ≡ Some d → IsFirst (labels_at s page (spot_of w.spot)) (made_item i).atom (Some d.round)
  first_at i w d at drafted = subst (λ a. IsFirst (labels_at s page (spot_of w.spot)) a (Some d.round)) (sym (atom_is i w at)) (list.each_draft i w d at drafted).chosen.first

  -- the items of a list that is dealt
  module _ (P : Spot → Type 0) (Tie : Want → Want → Type 0) (xs : List ℕ) (dealt : IsDealt n.wants.keys n.drafts.items P Tie xs) where
    -- an item, with its want
    pub record IsFrom (k i : ℕ) (w : Want) : Type 0 where
      pub listed : slice_get xs k ≡ Some i
      pub at : slice_get n.wants.keys i ≡ Some w
      pub spot : P w.spot

    from_at : (k i : ℕ) → slice_get xs k ≡ Some i → (w : Want) × IsFrom k i w
    from_at k i at = let w = dealt.each k i at in (w.0, record { listed = at; at = w.1; spot = w.2 })

    comes : (k l i j : ℕ) (w x : Want) → k < l → IsFrom k i w → IsFrom l j x → (d : Draft) × (e : Draft) × (slice_get n.drafts.items i ≡ Some d) × (slice_get n.drafts.items j ≡ Some e) × ((d.round < e.round) ⊎ ((d.round ≡ e.round) × Tie w x))
    comes k l i j w x less a b =
        let d = draft_at i w a.at in
        let e = draft_at j x b.at in
        (d.0, e.0, d.1, e.1, dealt.ordered k l i j w x d.0 e.0 less a.listed b.listed a.at b.at d.1 e.1)

    -- and its item in the order of the spots
    ordered_at : (k l i j : ℕ) (w x : Want) (q r : Where) (T : Type 0) → k < l → IsFrom k i w → IsFrom l j x → spot_of w.spot ≡ q → spot_of x.spot ≡ r → (Tie w x → T) → Comes s page target q (made_item i).atom r (made_item j).atom T
    ordered_at k l i j w x q r T less a b at_q at_r tie =
        let c = comes k l i j w x less a b in (
          c.0.round,
          c.1.round,
          subst (λ z. IsFirst (labels_at s page z) (made_item i).atom (Some c.0.round)) at_q (first_at i w c.0 a.at c.2),
          subst (λ z. IsFirst (labels_at s page z) (made_item j).atom (Some c.1.round)) at_r (first_at j x c.1 b.at c.3),
          elim c.4 [ inl before ↦ inl before | inr (same, later) ↦ inr (same, tie later) ],
        )

    -- each want at such a spot has an item
    found_at : (w : Want) → Contains n.wants.keys w → P w.spot → (k : ℕ) × (i : ℕ) × IsFrom k i w
    found_at w is spot =
        let i = at_Contains n.wants.keys w is in
        let k = at_Contains xs i.0 (dealt.all i.0 w i.1 spot) in
        (k.0, i.0, record { listed = k.1; at = i.1; spot = spot })

  spot_added : (m : ℕ) (t : Triple) → slice_get triples m ≡ Some t → (q : Spot) → q ≡ Added m → spot_of q ≡ added t
  spot_added m t at q same = ap spot_of same ∙ ap added (triple_is m t at)

  spot_page : (q : Spot) → IsOnPage q → spot_of q ≡ page_node (unwrap_or (slice_get nodes (node_of q)) [])
  spot_page (Page m) on = refl
  spot_page (Added m) on = absurd on

  -- the entry of a triple
  module _ (e m : ℕ) (t : Triple) (entry : Entry) (at : slice_get made.order e ≡ Some m) (at_t : slice_get triples m ≡ Some t) (at_e : slice_get p.entries e ≡ Some entry) where
    abbrev wants : List ℕ
    wants = wants_of made.orders.triples.items m

    dealt : IsDealt n.wants.keys n.drafts.items (λ q. q ≡ Added m) AtomTie wants
    dealt =
        let within : m < length made.orders.triples.items = let lt = slice_get_within triples m t at_t in let same = length-map n.triples.keys triple_of in let count = made.dealt.count in omega (arith, lt, same, count) in
        let o = element_at made.orders.triples.items m within in
        let is : wants ≡ o.0.wants.items = ap (λ q. unwrap_or (option_map (λ (x : Order). x.wants.items) q) []) o.1 in
        subst (IsDealt n.wants.keys n.drafts.items (λ q. q ≡ Added m) AtomTie) (sym is) (made.dealt.each m o.0 o.1)

    is : IsMade n made.order wants m entry
    is = made.entries.made e m entry at at_e

    -- a want of the item at a place
    record IsItemFrom (k : ℕ) (x : ProofItem) : Type 0 where
      place : ℕ
      want : Want
      from : IsFrom (λ q. q ≡ Added m) AtomTie wants dealt k place want
      same : made_item place ≡ x

    item_from : (k : ℕ) (x : ProofItem) → slice_get entry.items k ≡ Some x → IsItemFrom k x
    item_from k x at_x =
        let i = at_map made_item wants k x (ap (λ xs. slice_get xs k) (sym is.items) ∙ at_x) in
        let w = from_at (λ q. q ≡ Added m) AtomTie wants dealt k i.0 i.1 in
        record { place = i.0; want = w.0; from = w.1; same = i.2 }

    tie : (x : Tie) × (slice_get n.ties.items m ≡ Some x)
    tie = element_at n.ties.items m (subst (λ k. m < k) (sym list.tie_count) (slice_get_within triples m t at_t))

    parent_same : entry.parent ≡ tie.0.above
    parent_same = is.parent tie.0 tie.1

    pub entry_is : IsEntryOf s page target entry_triples t entry
    entry_is = record {
      kind = is.kind t at_t;
      each = λ k x at_x.
          let i = item_from k x at_x in
          let listed : IsListed made.order i.want.spot = subst (IsListed made.order) (sym i.from.spot) (Contains-at made.order e m at) in
          let right = item_right i.place i.want i.from.at listed in
          subst (IsItem s page target entry_triples (added t)) i.same (subst (λ q. IsItem s page target entry_triples q (made_item i.place)) (spot_added m t at_t i.want.spot i.from.spot) right);
      all = λ a need.
          let there = on_added s page target known nodes triples n.ties.items n.wants.keys n.drafts.items list own whole m t a at_t need in
          let here = found_at (λ q. q ≡ Added m) AtomTie wants dealt (want_of (Added m) a) there refl in
          (here.0, made_item here.1, ap (λ xs. slice_get xs here.0) is.items ∙ map_at made_item wants here.0 here.1 here.2.listed, atom_is here.1 (want_of (Added m) a) here.2.at);
      ordered = λ k l x y less at_x at_y.
          let i = item_from k x at_x in
          let j = item_from l y at_y in
          let in_order = ordered_at (λ q. q ≡ Added m) AtomTie wants dealt k l i.place j.place i.want j.want (added t) (added t) ((made_item i.place).atom < (made_item j.place).atom) less i.from j.from
          (spot_added m t at_t i.want.spot i.from.spot) (spot_added m t at_t j.want.spot j.from.spot)
          (λ before. subst (λ z. z < (made_item j.place).atom) (sym (atom_is i.place i.want i.from.at)) (subst (λ z. i.want.atom < z) (sym (atom_is j.place j.want j.from.at)) before)) in
          subst (λ (z : ProofItem). Comes s page target (added t) z.atom (added t) y.atom (z.atom < y.atom)) i.same
          (subst (λ (z : ProofItem). Comes s page target (added t) (made_item i.place).atom (added t) z.atom ((made_item i.place).atom < z.atom)) j.same in_order);
      parent = λ b.
          let both = parent_is s page target known nodes triples n.ties.items n.wants.keys n.drafts.items list own whole m t tie.0 at_t tie.1 b in
          (λ in'. both.0 (subst (λ l. Contains l b) parent_same in'), λ need. subst (λ l. Contains l b) (sym parent_same) (both.1 need));
      parent_rises = subst IsStrictlyIncreasing (sym parent_same) (list.each_tie m t tie.0 at_t tie.1).rises;
    }

  -- the items of the page
  abbrev page_wants : List ℕ
  page_wants = made.orders.page.wants.items

  abbrev made_page : ℕ → PageItem
  made_page = page_item_of n made.order

  abbrev OnPage : ℕ → ℕ → Want → Type 0
  OnPage = IsFrom IsOnPage (PageTie nodes) page_wants made.dealt.page

  place_is : (i : ℕ) (w : Want) → slice_get n.wants.keys i ≡ Some w → (made_page i).at ≡ path_in nodes w
  place_is i w at = ap (λ o. unwrap_or (option_map (path_in nodes) o) []) at

  spot_there : (i : ℕ) (w : Want) → slice_get n.wants.keys i ≡ Some w → IsOnPage w.spot → spot_of w.spot ≡ page_node (made_page i).at
  spot_there i w at on = spot_page w.spot on ∙ ap page_node (sym (place_is i w at))

  record IsPageFrom (k : ℕ) (x : PageItem) : Type 0 where
    place : ℕ
    want : Want
    from : OnPage k place want
    same : made_page place ≡ x

  page_from : (k : ℕ) (x : PageItem) → slice_get p.page k ≡ Some x → IsPageFrom k x
  page_from k x at =
      let i = at_map made_page page_wants k x (ap (λ xs. slice_get xs k) (sym made.page) ∙ at) in
      let w = from_at IsOnPage (PageTie nodes) page_wants made.dealt.page k i.0 i.1 in
      record { place = i.0; want = w.0; from = w.1; same = i.2 }

  is_listed : (q : Spot) → IsOnPage q → IsListed made.order q
  is_listed (Page m) on = tt
  is_listed (Added m) on = absurd on

  page_each : (k : ℕ) (x : PageItem) → slice_get p.page k ≡ Some x → IsItem s page target entry_triples (page_node x.at) x.item
  page_each k x at =
      let i = page_from k x at in
      let right = item_right i.place i.want i.from.at (is_listed i.want.spot i.from.spot) in
      subst (λ (z : PageItem). IsItem s page target entry_triples (page_node z.at) z.item) i.same (subst (λ q. IsItem s page target entry_triples q (made_item i.place)) (spot_there i.place i.want i.from.at i.from.spot) right)

  page_all : (v : List ℕ) (a : ℕ) → Needed s page target (page_node v) a → (i : ℕ) × (x : PageItem) × (slice_get p.page i ≡ Some x) × (x.at ≡ v) × (x.item.atom ≡ a)
  page_all v a need =
      let there = on_page s page target known nodes triples n.ties.items n.wants.keys n.drafts.items list own whole v a need in
      let w = want_of (Page there.0) a in
      let here = found_at IsOnPage (PageTie nodes) page_wants made.dealt.page w there.2 tt in (
        here.0,
        made_page here.1,
        ap (λ xs. slice_get xs here.0) made.page ∙ map_at made_page page_wants here.0 here.1 here.2.listed,
        place_is here.1 w here.2.at ∙ ap (λ o. unwrap_or o []) there.1,
        atom_is here.1 w here.2.at,
      )

  page_ordered : (i j : ℕ) (x y : PageItem) → i < j → slice_get p.page i ≡ Some x → slice_get p.page j ≡ Some y
      → Comes s page target (page_node x.at) x.item.atom (page_node y.at) y.item.atom (Before x.at y.at ⊎ ((x.at ≡ y.at) × (x.item.atom < y.item.atom)))
  page_ordered k l x y less at_x at_y =
      let i = page_from k x at_x in
      let j = page_from l y at_y in
      let u = (made_page i.place).at in
      let v = (made_page j.place).at in
      let in_order = ordered_at IsOnPage (PageTie nodes) page_wants made.dealt.page k l i.place j.place i.want j.want (page_node u) (page_node v) (Before u v ⊎ ((u ≡ v) × ((made_item i.place).atom < (made_item j.place).atom))) less i.from j.from
      (spot_there i.place i.want i.from.at i.from.spot) (spot_there j.place j.want j.from.at j.from.spot) (tie_there i.place j.place i.want j.want i.from.at j.from.at) in
      subst (λ (z : PageItem). Comes s page target (page_node z.at) z.item.atom (page_node y.at) y.item.atom (Before z.at y.at ⊎ ((z.at ≡ y.at) × (z.item.atom < y.item.atom)))) i.same
      (subst (λ (z : PageItem). Comes s page target (page_node u) (made_item i.place).atom (page_node z.at) z.item.atom (Before u z.at ⊎ ((u ≡ z.at) × ((made_item i.place).atom < z.item.atom)))) j.same in_order)
    where
      tie_there : (i j : ℕ) (w x : Want) → slice_get n.wants.keys i ≡ Some w → slice_get n.wants.keys j ≡ Some x → PageTie nodes w x
          → Before (made_page i).at (made_page j).at ⊎ (((made_page i).at ≡ (made_page j).at) × ((made_item i).atom < (made_item j).atom))
      tie_there i j w x at_w at_x (inl before) = inl (subst (λ z. Before z (made_page j).at) (sym (place_is i w at_w)) (subst (λ z. Before (path_in nodes w) z) (sym (place_is j x at_x)) before))
      tie_there i j w x at_w at_x (inr (same, later)) =
          inr (place_is i w at_w ∙ same ∙ sym (place_is j x at_x), subst (λ z. z < (made_item j).atom) (sym (atom_is i w at_w)) (subst (λ z. w.atom < z) (sym (atom_is j x at_x)) later))

  -- what items name
  named_right : (c : Choice) (spot : Where) (round : ℕ) (named : Option ℕ) → IsTripleOf s page triples spot round c named → named_by (reason_with number c named) ≡ map number (option_to_list named)
  named_right Start spot round named none = ap (λ o. map number (option_to_list o)) (sym none)
  named_right (Local l) spot round named none = ap (λ o. map number (option_to_list o)) (sym none)
  named_right (Up l) spot round named none = ap (λ o. map number (option_to_list o)) (sym none)
  named_right (Real l k) spot round named none = ap (λ o. map number (option_to_list o)) (sym none)
  named_right (Spawn l c) spot round None triple = absurd triple
  named_right (Spawn l c) spot round (Some m) triple = refl

  item_names : (i : ℕ) (w : Want) → slice_get n.wants.keys i ≡ Some w → named_by (made_item i).reason ≡ map number (named_at n.drafts.items i)
  item_names i w at =
      let d = draft_at i w at in
      let draft = list.each_draft i w d.0 at d.1 in
      ap named_by (reason_is i d.0 d.1) ∙ named_right d.0.choice (spot_of w.spot) d.0.round d.0.triple draft.triple ∙ ap (λ o. map number (option_to_list (option_and_then (λ (x : Draft). x.triple) o))) (sym d.1)

  page_names : flat_map (λ (x : PageItem). named_by x.item.reason) p.page ≡ map number (named_all n.drafts.items page_wants)
  page_names =
      ap (flat_map (λ (x : PageItem). named_by x.item.reason)) made.page ∙ flat_same made_page (λ (x : PageItem). named_by x.item.reason) (named_at n.drafts.items) number page_wants (λ i is.
      let k = at_Contains page_wants i is in
      let w = from_at IsOnPage (PageTie nodes) page_wants made.dealt.page k.0 i k.1 in
      item_names i w.0 w.1.at)

  triple_there : (e m : ℕ) → slice_get made.order e ≡ Some m → (t : Triple) × (slice_get triples m ≡ Some t)
  triple_there e m at = element_at triples m (numbered.inside m (Contains-at made.order e m at))

  entry_there : (e m : ℕ) → slice_get made.order e ≡ Some m → (entry : Entry) × (slice_get p.entries e ≡ Some entry)
  entry_there e m at = element_at p.entries e (subst (λ k. e < k) (sym made.entries.long) (slice_get_within made.order e m at))

  names_are : (e m : ℕ) → slice_get made.order e ≡ Some m → entry_names p.entries e ≡ map number (names_in n.drafts.items made.orders.triples.items m)
  names_are e m at =
      let t = triple_there e m at in
      let entry = entry_there e m at in
      let wants = wants_of made.orders.triples.items m in
      let is = made.entries.made e m entry.0 at entry.1 in
      let there : entry_names p.entries e ≡ flat_map (λ (i : ProofItem). named_by i.reason) entry.0.items = ap (λ o. unwrap_or (option_map (λ (x : Entry). flat_map (λ (i : ProofItem). named_by i.reason) x.items) o) []) entry.1 in
      there ∙ ap (flat_map (λ (i : ProofItem). named_by i.reason)) is.items ∙ flat_same made_item (λ (i : ProofItem). named_by i.reason) (named_at n.drafts.items) number wants (λ i is'.
      let k = at_Contains wants i is' in
      let w = from_at (λ q. q ≡ Added m) AtomTie wants (dealt e m t.0 entry.0 at t.1 entry.1) k.0 i k.1 in
      item_names i w.0 w.1.at)

  walked : Walks (entry_names p.entries) 0 (flat_map (λ (x : PageItem). named_by x.item.reason) p.page) (length p.entries)
  walked =
      subst (λ ns. Walks (entry_names p.entries) 0 ns (length p.entries)) (sym page_names)
      (subst (λ k. Walks (entry_names p.entries) 0 (map number (named_all n.drafts.items page_wants)) k) (sym made.entries.long) (numbered.walked (entry_names p.entries) names_are))

  steps_are : (e : ℕ) (entry : Entry) → slice_get p.entries e ≡ Some entry → entry.steps ≡ min (entry_count s p.entries (suc e) e) MOST_STEPS
  steps_are e entry at = steps_right s p.entries lower made.entries.steps e entry at
    where
      lower : (e f : ℕ) (entry : Entry) → slice_get p.entries e ≡ Some entry → Contains (flat_map (λ (i : ProofItem). named_by i.reason) entry.items) f → f < e
      lower e f entry at is =
          let w = walked_lower (entry_names p.entries) 0 (length p.entries) (flat_map (λ (x : PageItem). named_by x.item.reason) p.page) walked in
          let there : entry_names p.entries e ≡ flat_map (λ (i : ProofItem). named_by i.reason) entry.items = ap (λ o. unwrap_or (option_map (λ (x : Entry). flat_map (λ (i : ProofItem). named_by i.reason) x.items) o) []) at in
          w.2 e f (omega arith) (slice_get_within p.entries e entry at) (subst (λ l. Contains l f) (sym there) is)

  different : (i j : ℕ) (t : Triple) → slice_get entry_triples i ≡ Some t → slice_get entry_triples j ≡ Some t → i ≡ j
  different i j t at_i at_j =
      let a = at_map triple_of_entry made.order i t at_i in
      let b = at_map triple_of_entry made.order j t at_j in
      let u = triple_there i a.0 a.1 in
      let v = triple_there j b.0 b.1 in
      let u_is : u.0 ≡ t = sym (triple_is a.0 u.0 u.1) ∙ a.2 in
      let v_is : v.0 ≡ t = sym (triple_is b.0 v.0 v.1) ∙ b.2 in
      let one : a.0 ≡ b.0 = list.triples_distinct a.0 b.0 t (u.1 ∙ ap Some u_is) (v.1 ∙ ap Some v_is) in
      numbered.distinct i j b.0 (a.1 ∙ ap Some one) b.1

  entries_are : (e : ℕ) (t : Triple) (entry : Entry) → slice_get entry_triples e ≡ Some t → slice_get p.entries e ≡ Some entry → IsEntryOf s page target entry_triples t entry
  entries_are e t entry at at_e =
      let m = at_map triple_of_entry made.order e t at in
      let u = triple_there e m.0 m.1 in
      let same : u.0 ≡ t = sym (triple_is m.0 u.0 u.1) ∙ m.2 in
      entry_is e m.0 t entry m.1 (u.1 ∙ ap Some same) at_e

  pub canonical : IsCanonical s page target p
  canonical = record {
    triples = entry_triples;
    count = made.entries.long ∙ sym (length-map made.order triple_of_entry);
    different = different;
    entries = entries_are;
    steps = steps_are;
    each = page_each;
    all = page_all;
    ordered = page_ordered;
    walked = walked;
  }

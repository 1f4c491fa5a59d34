-- The numbers of a worklist's triples: what the items of a triple name has lower numbers, and all that is named has one.
use Rattle.std.proofs.Common.{◌≡◌, ℕ, ◌<◌, List, [], length, Contains, Option, Some, None, IsSomeAnd, option_map, option_and_then, option_to_list, unwrap_or, slice_get, inl, inr, refl, sym, ap, ◌∙◌, subst, arith}
use Rattle.std.proofs.lemmas.Option.{slice_get_within}
use Rattle.std.proofs.lemmas.List.{length-map}
use Rattle.tp_base.proofs.Lists.{Contains-at, at_Contains, element_at, Contains-flat_map, flat_map-Contains, first_there, cons_cases}
use Rattle.tp_base.proofs.Rising.{Contains-none}
use Rattle.tree_sem.specs.Trees.{LabelTree}
use Rattle.simple_core.specs.declared.system.System.{System}
use Rattle.simple_core.specs.Pairs.{Pair}
use Rattle.simple_core.specs.Rounds.{IsFirst}
use Rattle.proof_needs.specs.declared.needs.Choice.{Choice}
use Rattle.proof_needs.specs.declared.needs.Choice.TheVariants.{Start, Local, Up, Real, Spawn}
use Rattle.proof_needs.specs.declared.spots.Spot.{Spot}
use Rattle.proof_needs.specs.declared.spots.Spot.TheVariants.{Page, Added}
use Rattle.proof_needs.specs.declared.spots.Want.{Want}
use Rattle.proof_needs.specs.declared.needs.Tie.{Tie}
use Rattle.proof_needs.specs.declared.needs.Draft.{Draft}
use Rattle.proof_needs.specs.declared.needs.Needs.{Needs}
use Rattle.proof_needs.specs.declared.orders.Order.{Order}
use Rattle.proof_needs.specs.declared.orders.Orders.{Orders}
use Rattle.proof_needs.specs.Choices.{by_spawn}
use Rattle.proof_maker.specs.Needs.{labels_at, IsChosen, triple_by, Needed}
use Rattle.proof_needs.specs.Triples.{Triple, added}
use Rattle.proof_maker.specs.Reasons.{reason_of}
use Rattle.proof_needs.specs.Sets.{AreDistinct}
use Rattle.proof_needs.specs.Spots.{paths_in, triples_in, triple_of, spot_in, no_triple}
use Rattle.proof_needs.specs.Dealing.{IsDealt, IsOnPage, PageTie, AtomTie}
use Rattle.proof_maker.specs.Worklist.{AreOwn, IsTripleOf, IsDraft, IsWorklist}
use Rattle.proof_needs.specs.Wants.{want_of}
use Rattle.proof_maker.specs.Working.{IsDone}
use Rattle.proof_maker.specs.Numbering.{Post}
use Rattle.proof_needs.specs.Numbers.{Tours}
use Rattle.proof_needs.specs.Names.{named_at, named_all, wants_of, names_in}
use Rattle.proof_needs.specs.Orders.{AreDealt}
use Rattle.proof_maker.specs.Making.{IsListed, IsNumbered}
use Rattle.proof_maker.proofs.PostLemmas.{post_distinct, post_each, post_closed, walks}
use Rattle.proof_maker.proofs.RankLemmas.{falls}
use Rattle.proof_maker.proofs.TourLemmas.{tour_post}

-- what a want names is the triple of its draft
named_is : (drafts : List Draft) (i f : ℕ) → Contains (named_at drafts i) f → (d : Draft) × (slice_get drafts i ≡ Some d) × (d.triple ≡ Some f)
named_is drafts i f is = by (slice_get drafts i) refl is
  where
    only : (o : Option ℕ) → Contains (option_to_list o) f → o ≡ Some f
    only None is = absurd (Contains-none f is)
    only (Some g) is = elim (cons_cases g [] f is) [ inl same ↦ ap Some same | inr later ↦ absurd (Contains-none f later) ]

    by : (o : Option Draft) → slice_get drafts i ≡ o → Contains (option_to_list (option_and_then (λ (d : Draft). d.triple) o)) f → (d : Draft) × (slice_get drafts i ≡ Some d) × (d.triple ≡ Some f)
    by None at is = absurd (Contains-none f is)
    by (Some d) at is = (d, at, only d.triple is)

is_named : (drafts : List Draft) (i f : ℕ) (d : Draft) → slice_get drafts i ≡ Some d → d.triple ≡ Some f → Contains (named_at drafts i) f
is_named drafts i f d at named =
    let same : Some f ≡ option_and_then (λ (d : Draft). d.triple) (slice_get drafts i) = sym (ap (option_and_then (λ (d : Draft). d.triple)) at ∙ named) in
    subst (λ o. Contains (option_to_list o) f) same (first_there f [])

module _ (s : System) (page : LabelTree) (target : ℕ) (known : Pair → Type 0) (nodes : List (List ℕ)) (triples : List Triple) (ties : List Tie) (wants : List Want) (drafts : List Draft)
    (list : IsWorklist s page target known nodes triples ties wants drafts) (own : AreOwn triples wants) (whole : length drafts ≡ length wants) where
  -- a draft that names a triple has chosen the spawn of that triple
  record IsNamed (w : Want) (d : Draft) (f : ℕ) : Type 0 where
    link : ℕ
    spawn : ℕ
    chosen : IsChosen s page (spot_in nodes triples w.spot) w.atom d.round (by_spawn link spawn)
    at : slice_get triples f ≡ Some (triple_by s page (spot_in nodes triples w.spot) d.round link spawn)

  draft_names : (i f : ℕ) (w : Want) (d : Draft) → slice_get wants i ≡ Some w → slice_get drafts i ≡ Some d → d.triple ≡ Some f → IsNamed w d f
  draft_names i f w d at at' named = by d.choice refl draft.triple
    where
      draft : IsDraft s page nodes triples w d
      draft = list.each_draft i w d at at'

      by : (choice : Choice) → d.choice ≡ choice → IsTripleOf s page triples (spot_in nodes triples w.spot) d.round choice d.triple → IsNamed w d f
      by Start is none = cc
      by (Local l) is none = cc
      by (Up l) is none = cc
      by (Real l n) is none = cc
      by (Spawn l c) is some = record {
        link = l;
        spawn = c;
        chosen = ap_choice is;
        at = subst (λ o. IsSomeAnd o (λ n. slice_get triples n ≡ Some (triple_by s page (spot_in nodes triples w.spot) d.round l c))) named some;
      }
        where
          ap_choice : d.choice ≡ Spawn l c → IsChosen s page (spot_in nodes triples w.spot) w.atom d.round (by_spawn l c)
          ap_choice is = subst (λ z. IsChosen s page (spot_in nodes triples w.spot) w.atom d.round (reason_of z)) is draft.chosen

  want_for : (i : ℕ) (d : Draft) → slice_get drafts i ≡ Some d → (w : Want) × (slice_get wants i ≡ Some w)
  want_for i d at = let lt = slice_get_within drafts i d at in element_at wants i (omega arith)

  draft_for : (i : ℕ) (w : Want) → slice_get wants i ≡ Some w → (d : Draft) × (slice_get drafts i ≡ Some d)
  draft_for i w at = let lt = slice_get_within wants i w at in element_at drafts i (omega arith)

  -- what a draft names is a triple of the list
  pub named_below : (i n : ℕ) (d : Draft) → slice_get drafts i ≡ Some d → d.triple ≡ Some n → n < length triples
  named_below i n d at named = let w = want_for i d at in let is = draft_names i n w.0 d w.1 at named in slice_get_within triples n (triple_by s page (spot_in nodes triples w.0.spot) d.round is.link is.spawn) is.at

  all_below : (ws : List ℕ) (f : ℕ) → Contains (named_all drafts ws) f → f < length triples
  all_below ws f is =
      let i = flat_map-Contains (named_at drafts) ws f is in
      let d = named_is drafts i.0 f i.2 in
      named_below i.0 f d.0 d.1 d.2

  -- the first round of a triple's own atom
  own_first : (n : ℕ) (t : Triple) → slice_get triples n ≡ Some t → (r : ℕ) × IsFirst (labels_at s page (added t)) t.atom (Some r)
  own_first n t at =
      let w = want_of (Added n) t.atom in
      let i = at_Contains wants w (own n t at) in
      let d = draft_for i.0 w i.1 in
      let draft = list.each_draft i.0 w d.0 i.1 d.1 in
      let spot : spot_in nodes triples (Added n) ≡ added t = ap (λ o. added (unwrap_or o no_triple)) at in
      (d.0.round, subst (λ p. IsFirst (labels_at s page p) t.atom (Some d.0.round)) spot draft.chosen.first)

  rank_by : (n : ℕ) (o : Option Triple) → slice_get triples n ≡ o → ℕ
  rank_by n None at = 0
  rank_by n (Some t) at = (own_first n t at).0

  rank : ℕ → ℕ
  rank n = rank_by n (slice_get triples n) refl

  rank_first : (n : ℕ) (t : Triple) → slice_get triples n ≡ Some t → IsFirst (labels_at s page (added t)) t.atom (Some (rank n))
  unfolding rank rank_by
  rank_first n t at = by (slice_get triples n) refl at
    where
      by : (o : Option Triple) (e : slice_get triples n ≡ o) → o ≡ Some t → IsFirst (labels_at s page (added t)) t.atom (Some (rank_by n o e))
      by None e is = cc
      by (Some u) e is = let same : u ≡ t = cc in subst (λ (z : Triple). IsFirst (labels_at s page (added z)) z.atom (Some (own_first n u e).0)) same (own_first n u e).1

  module _ (orders : List Order) (page_wants : List ℕ) (on_page : IsDealt wants drafts IsOnPage (PageTie nodes) page_wants)
      (dealt : (m : ℕ) (order : Order) → slice_get orders m ≡ Some order → IsDealt wants drafts (λ q. q ≡ Added m) AtomTie order.wants.items) (count : length orders ≡ length triples) where
    names_of : (k : ℕ) (order : Order) → slice_get orders k ≡ Some order → names_in drafts orders k ≡ named_all drafts order.wants.items
    names_of k order at = ap (λ o. named_all drafts (unwrap_or (option_map (λ (o : Order). o.wants.items) o) [])) at

    no_names : (k : ℕ) → slice_get orders k ≡ None → names_in drafts orders k ≡ []
    no_names k at = ap (λ o. named_all drafts (unwrap_or (option_map (λ (o : Order). o.wants.items) o) [])) at

    names_fall_at : (k f : ℕ) (order : Order) → slice_get orders k ≡ Some order → Contains (named_all drafts order.wants.items) f → rank f < rank k
    names_fall_at k f order at is =
        let i = flat_map-Contains (named_at drafts) order.wants.items f is in
        let d = named_is drafts i.0 f i.2 in
        let place = at_Contains order.wants.items i.0 i.1 in
        let w = (dealt k order at).each place.0 i.0 place.1 in
        let lt = slice_get_within orders k order at in
        let t = element_at triples k (omega (arith, count, lt)) in
        let named = draft_names i.0 f w.0 d.0 w.1 d.1 d.2 in
        let spot : spot_in nodes triples w.0.spot ≡ added t.0 = ap (spot_in nodes triples) w.2 ∙ ap (λ o. added (unwrap_or o no_triple)) t.1 in
        let need : Needed s page target (added t.0) w.0.atom = subst (λ p. Needed s page target p w.0.atom) spot (list.wanted w.0 (Contains-at wants i.0 w.0 w.1)).needed in
        let chosen : IsChosen s page (added t.0) w.0.atom d.0.round (by_spawn named.link named.spawn) = subst (λ p. IsChosen s page p w.0.atom d.0.round (by_spawn named.link named.spawn)) spot named.chosen in
        let at' : slice_get triples f ≡ Some (triple_by s page (added t.0) d.0.round named.link named.spawn) = subst (λ p. slice_get triples f ≡ Some (triple_by s page p d.0.round named.link named.spawn)) spot named.at in
        falls s page target t.0 w.0.atom d.0.round named.link named.spawn (rank k) (rank f) need chosen (rank_first k t.0 t.1) (rank_first f (triple_by s page (added t.0) d.0.round named.link named.spawn) at')

    names_fall : (k f : ℕ) → Contains (names_in drafts orders k) f → rank f < rank k
    names_fall k f is = by (slice_get orders k) refl
      where
        by : (o : Option Order) → slice_get orders k ≡ o → rank f < rank k
        by None at = absurd (Contains-none f (subst (λ l. Contains l f) (no_names k at) is))
        by (Some order) at = names_fall_at k f order at (subst (λ l. Contains l f) (names_of k order at) is)

    pub numbered_by : (order : List ℕ) → Tours (names_in drafts orders) (named_all drafts page_wants) order → IsNumbered (length triples) wants drafts orders page_wants order
    numbered_by order tours = record {
      distinct = distinct;
      inside = inside;
      closed = λ i n w d at at' named listed. by i n w d at at' named w.spot refl listed;
      walked = λ names are. walks (names_in drafts orders) order distinct names are [] (named_all drafts page_wants) order walk (λ i x is. is);
    }
      where
        walk : Post (names_in drafts orders) [] (named_all drafts page_wants) order
        walk = tour_post (names_in drafts orders) rank names_fall (named_all drafts page_wants) order tours

        distinct : AreDistinct order
        distinct = post_distinct (names_in drafts orders) [] (named_all drafts page_wants) order walk (λ i j x at at'. cc)

        inside : (n : ℕ) → Contains order n → n < length triples
        inside n is = post_each (names_in drafts orders) (λ k. k < length triples) (λ k f lt in'. all_below (wants_of orders k) f in') [] (named_all drafts page_wants) order walk (λ x in'. absurd (Contains-none x in')) (λ x in'. all_below page_wants x in') n is

        closed : ((t : ℕ) → Contains (named_all drafts page_wants) t → Contains order t) × ((x f : ℕ) → Contains order x → Contains (names_in drafts orders x) f → Contains order f)
        closed = post_closed (names_in drafts orders) [] (named_all drafts page_wants) order walk (λ x f in'. absurd (Contains-none x in'))

        by : (i n : ℕ) (w : Want) (d : Draft) → slice_get wants i ≡ Some w → slice_get drafts i ≡ Some d → d.triple ≡ Some n → (spot : Spot) → w.spot ≡ spot → IsListed order spot → Contains order n
        by i n w d at at' named (Page m) is listed =
            let there = on_page.all i w at (subst IsOnPage (sym is) tt) in
            closed.0 n (Contains-flat_map (named_at drafts) page_wants i n there (is_named drafts i n d at' named))
        by i n w d at at' named (Added m) is listed =
            let lt = inside m listed in
            let own = element_at orders m (omega (arith, count, lt)) in
            let there = (dealt m own.0 own.1).all i w at is in
            let names = Contains-flat_map (named_at drafts) own.0.wants.items i n there (is_named drafts i n d at' named) in
            closed.1 m n listed (subst (λ l. Contains l n) (sym (names_of m own.0 own.1)) names)

module _ (s : System) (page : LabelTree) (known : Pair → Type 0) (target limit : ℕ) (n : Needs) (o : Orders) (done : IsDone s page known target limit n) (dealt : AreDealt n o) where
  pub numbered : (order : List ℕ) → Tours (names_in n.drafts.items o.triples.items) (named_all n.drafts.items o.page.wants.items) order
      → IsNumbered (length (triples_in n.triples.keys)) n.wants.keys n.drafts.items o.triples.items o.page.wants.items order
  numbered order tours =
      let count : length o.triples.items ≡ length (triples_in n.triples.keys) = dealt.count ∙ sym (length-map n.triples.keys triple_of) in
      numbered_by s page n.target known (paths_in n.nodes.keys) (triples_in n.triples.keys) n.ties.items n.wants.keys n.drafts.items done.working.list done.working.own done.whole o.triples.items o.page.wants.items dealt.page dealt.each count order tours

-- One look leads from a worklist to the next.
use Rattle.std.proofs.Common.{◌≡◌, ℕ, ◌-◌, ◌<◌, true, List, [], ◌∷◌, ◌++◌, length, Contains, Option, Some, None, unwrap_or, slice_get, inl, inr, refl, sym, ap, ◌∙◌, subst, arith}
use Rattle.std.proofs.lemmas.Option.{slice_get_within}
use Rattle.std.proofs.lemmas.List.Elements.{Contains-append_right}
use Rattle.tp_base.proofs.ClassLemmas.{with_class-there}
use Rattle.tp_base.proofs.Lists.{Contains-at, at_Contains, element_at}
use Rattle.tree_sem.specs.Trees.{LabelTree}
use Rattle.tree_sem.specs.Paths.{parent_of}
use Rattle.tree_sem.proofs.PathLemmas.{IsSome-parent_of}
use Rattle.simple_core.specs.declared.system.System.{System}
use Rattle.simple_core.specs.Pairs.{Pair, Asked}
use Rattle.simple_core.specs.Labels.{visible_in}
use Rattle.proof_needs.specs.declared.needs.Choice.{Choice}
use Rattle.proof_needs.specs.declared.needs.Choice.TheVariants.{Start, Local, Up, Real, Spawn}
use Rattle.proof_needs.specs.declared.spots.Spot.{Spot}
use Rattle.proof_needs.specs.declared.spots.Spot.TheVariants.{Page, Added}
use Rattle.proof_needs.specs.declared.spots.Want.{Want}
use Rattle.proof_needs.specs.declared.needs.Tie.{Tie}
use Rattle.proof_needs.specs.declared.needs.Draft.{Draft}
use Rattle.proof_needs.specs.Choices.{by_local, by_up, by_real, by_spawn, from_up, from_down, needs_of, spawn_needs, spawn_kind}
use Rattle.proof_needs.specs.Following.{IsAtNode, IsUsed, Follows, IsEntered, Enters}
use Rattle.proof_maker.specs.Glances.{is_spawn, AsksAt}
use Rattle.proof_maker.specs.Needs.{labels_at, IsChosen, triple_by, Needed, by_rule, by_parent, by_child, by_spawner, Used, by_page, by_triple}
use Rattle.proof_needs.specs.Triples.{Triple, page_node, added}
use Rattle.proof_needs.specs.Triples.{Spot as Where}
use Rattle.proof_maker.specs.Reasons.{reason_of}
use Rattle.proof_needs.specs.Sets.{IsMore}
use Rattle.proof_needs.specs.Spots.{spot_in, IsSpot}
use Rattle.proof_needs.specs.Wants.{IsOfEach, want_of}
use Rattle.proof_needs.proofs.SetLemmas.{more_Contains}
use Rattle.proof_maker.specs.Worklist.{AreOwn, IsFollowed, IsTripleOf, IsDraft, IsWanted, IsWorklist}
use Rattle.proof_maker.proofs.ListLemmas.{same_more, written, same_spot, draft_more, pushed}
use Rattle.proof_maker.proofs.StepLemmas.{IsLive, rule_comes, parent_comes, child_comes, child_there, no_real, spawn_comes, below_known}
use Rattle.proof_maker.proofs.FollowLemmas.{entered, wanted_at, node_wanted, above_wanted, used_wanted}

-- each triple's own atom stays wanted
own_more : (triples : List Triple) (wants wants' : List Want) → IsMore wants wants' → AreOwn triples wants → AreOwn triples wants'
own_more triples wants wants' more own n t at = more_Contains wants wants' more (want_of (Added n) t.atom) (own n t at)

module _ (s : System) (page : LabelTree) (target : ℕ) (known : Pair → Type 0) (nodes : List (List ℕ)) (triples : List Triple) (ties : List Tie) (wants : List Want) (drafts : List Draft)
    (list : IsWorklist s page target known nodes triples ties wants drafts) where
  -- what a spot is
  spot_there : (u : Spot) → IsSpot nodes triples u → IsLive s page target known (spot_in nodes triples u)
  spot_there (Page n) lt = let x = element_at nodes n lt in rw x.1 (list.nodes_there x.0 (Contains-at nodes n x.0 x.1))
  spot_there (Added n) lt = let x = element_at triples n lt in rw x.1 (list.triples_known x.0 (Contains-at triples n x.0 x.1))

  spawn_used : (u : Spot) → IsSpot nodes triples u → (a r l c : ℕ) → Needed s page target (spot_in nodes triples u) a → IsChosen s page (spot_in nodes triples u) a r (by_spawn l c) → Used s page target (triple_by s page (spot_in nodes triples u) r l c)
  spawn_used (Page n) lt a r l c need choice = by_page (unwrap_or (slice_get nodes n) []) a r l c need choice
  spawn_used (Added n) lt a r l c need choice =
      let x = element_at triples n lt in
      let is : spot_in nodes triples (Added n) ≡ added x.0 = rw x.1 refl in
      subst (λ z. Used s page target (triple_by s page z r l c)) (sym is)
      (by_triple x.0 a r l c (list.triples_used x.0 (Contains-at triples n x.0 x.1)) (subst (λ z. Needed s page target z a) is need) (subst (λ z. IsChosen s page z a r (by_spawn l c)) is choice))

  -- the next want and the reason for it, where the triple of a spawn is entered
  module _ (w : Want) (wanted : Contains wants w) (r : ℕ) where
    is : IsWanted s page target nodes triples w
    is = list.wanted w wanted

    -- the lists behind, with the premises wanted
    record IsNext (nodes' : List (List ℕ)) (ties' : List Tie) (wants' : List Want) (c : Choice) (named : Option ℕ) : Type 0 where
      next : IsWorklist s page target known nodes' triples ties' wants' drafts
      nodes_more : IsMore nodes nodes'
      wants_more : IsMore wants wants'
      followed : IsFollowed s nodes' ties' wants' w.spot c named

    follow_local : (l : ℕ) (wants' : List Want) → IsChosen s page (spot_in nodes triples w.spot) w.atom r (by_local l) → Follows nodes nodes ties ties wants wants' s w.spot (Local l) None → IsNext nodes ties wants' (Local l) None
    follow_local l wants' choice f = record {
      next = wanted_at s page target known nodes triples ties wants drafts list (IsOfEach w.spot (needs_of s l)) wants' f.2 (λ x new.
          subst (IsWanted s page target nodes triples) (sym new.2) (record {
            spot = is.spot;
            needed = by_rule (spot_in nodes triples w.spot) w.atom r l new.0 is.needed choice new.1;
            comes = rule_comes s page target (spot_in nodes triples w.spot) w.atom r l new.0 choice new.1;
          }));
      nodes_more = same_more nodes;
      wants_more = f.2.more;
      followed = λ b in'. f.2.all (want_of w.spot b) (b, in', refl);
    }

    -- an atom at another node
    follow_node : (v : List ℕ) (from : ℕ) (nodes' : List (List ℕ)) (wants' : List Want) (c : Choice) → IsAtNode v from nodes nodes' wants wants' → IsWorklist s page target known nodes' triples ties wants' drafts → IsFollowed s nodes' ties wants' w.spot c None → IsNext nodes' ties wants' c None
    follow_node v from nodes' wants' c at next followed = record { next = next; nodes_more = at.of_nodes.more; wants_more = at.of_wants.more; followed = followed }

  follow_up : (u : Spot) (a r l : ℕ) (wanted : Contains wants (want_of u a)) (nodes' : List (List ℕ)) (ties' : List Tie) (wants' : List Want) → IsChosen s page (spot_in nodes triples u) a r (by_up l)
      → Follows nodes nodes' ties ties' wants wants' s u (Up l) None → IsNext (want_of u a) wanted r nodes' ties' wants' (Up l) None
  follow_up (Page n) a r l wanted nodes' ties' wants' choice f =
      let w = want_of (Page n) a in
      let is = list.wanted w wanted in
      let x = element_at nodes n is.spot in
      let same : spot_in nodes triples (Page n) ≡ page_node x.0 = rw x.1 refl in
      let choice' = subst (λ z. IsChosen s page z a r (by_up l)) same choice in
      let p = parent_comes s page target x.0 a r l choice' in
      let at = f.1 x.0 p.path x.1 p.above in
      let need = by_parent x.0 p.path a r l (subst (λ z. Needed s page target z a) same is.needed) choice' p.above in
      let there = IsSome-parent_of x.0 p.path page p.above (list.nodes_there x.0 (Contains-at nodes n x.0 x.1)) in
      subst (λ z. IsNext w wanted r nodes' z wants' (Up l) None) (sym f.0) (follow_node w wanted r p.path (from_up s l) nodes' wants' (Up l) at
      (node_wanted s page target known nodes triples ties wants drafts list p.path (from_up s l) nodes' wants' at there need p.comes) (λ v q at_v above.
      let one : x.0 ≡ v = let old = at.of_nodes.more n x.0 x.1 in cc in
      let two : p.path ≡ q = let above' = p.above in let e : parent_of x.0 ≡ parent_of v = ap parent_of one in cc in
      (at.number, at.at ∙ ap Some two, at.of_wants.all (want_of (Page at.number) (from_up s l)) refl)))
  follow_up (Added n) a r l wanted nodes' ties' wants' choice f =
      let w = want_of (Added n) a in
      let is = list.wanted w wanted in
      let t = element_at triples n is.spot in
      let tie = element_at ties n (let count = list.tie_count in let lt : n < length triples = is.spot in omega arith) in
      let same : spot_in nodes triples (Added n) ≡ added t.0 = rw t.1 refl in
      let above = f.1 tie.0 tie.1 in
      let next = above_wanted s page target known nodes triples ties wants drafts list n (from_up s l) t.0 tie.0 t.1 tie.1 ties' wants' above
      (a, r, l, subst (λ z. Needed s page target z a) same is.needed, subst (λ z. IsChosen s page z a r (by_up l)) same choice, refl) in
      let at_now : slice_get ties' n ≡ Some above.now = ap (λ z. slice_get z n) above.ties_is ∙ written ties n above.now (slice_get_within ties n tie.0 tie.1) in
      subst (λ z. IsNext w wanted r z ties' wants' (Up l) None) (sym f.0) (record {
        next = next;
        nodes_more = same_more nodes;
        wants_more = above.of_wants.more;
        followed = (above.now, at_now, subst (λ z. Contains z (from_up s l)) (sym above.above) (with_class-there (from_up s l) tie.0.above));
      })

  follow_real : (u : Spot) (a r l k : ℕ) (wanted : Contains wants (want_of u a)) (nodes' : List (List ℕ)) (ties' : List Tie) (wants' : List Want) → IsChosen s page (spot_in nodes triples u) a r (by_real l k)
      → Follows nodes nodes' ties ties' wants wants' s u (Real l k) None → IsNext (want_of u a) wanted r nodes' ties' wants' (Real l k) None
  follow_real (Page n) a r l k wanted nodes' ties' wants' choice f =
      let w = want_of (Page n) a in
      let is = list.wanted w wanted in
      let x = element_at nodes n is.spot in
      let same : spot_in nodes triples (Page n) ≡ page_node x.0 = rw x.1 refl in
      let choice' = subst (λ z. IsChosen s page z a r (by_real l k)) same choice in
      let at = f.1 x.0 x.1 in
      let need = by_child x.0 a r l k (subst (λ z. Needed s page target z a) same is.needed) choice' in
      subst (λ z. IsNext w wanted r nodes' z wants' (Real l k) None) (sym f.0) (follow_node w wanted r (x.0 ++ k ∷ []) (from_down s l) nodes' wants' (Real l k) at
      (node_wanted s page target known nodes triples ties wants drafts list (x.0 ++ k ∷ []) (from_down s l) nodes' wants' at (child_there s page target x.0 a r l k choice') need (child_comes s page target x.0 a r l k choice')) (λ v at_v.
      let one : x.0 ≡ v = let old = at.of_nodes.more n x.0 x.1 in cc in
      (at.number, at.at ∙ ap (λ z. Some (z ++ k ∷ [])) one, at.of_wants.all (want_of (Page at.number) (from_down s l)) refl)))
  follow_real (Added n) a r l k wanted nodes' ties' wants' choice f =
      let is = list.wanted (want_of (Added n) a) wanted in
      let t = element_at triples n is.spot in
      let same : spot_in nodes triples (Added n) ≡ added t.0 = rw t.1 refl in
      absurd (no_real s page target t.0 a r l k (subst (λ z. IsChosen s page z a r (by_real l k)) same choice))

  follow_spawn : (u : Spot) (a r l c n : ℕ) (wanted : Contains wants (want_of u a)) (ties' : List Tie) (wants' : List Want) → IsChosen s page (spot_in nodes triples u) a r (by_spawn l c)
      → slice_get triples n ≡ Some (triple_by s page (spot_in nodes triples u) r l c) → ((tie : Tie) → slice_get ties n ≡ Some tie → IsUsed n (from_down s l) (spawn_needs s c) u tie ties ties' wants wants')
      → IsNext (want_of u a) wanted r nodes ties' wants' (Spawn l c) (Some n) × Contains wants' (want_of (Added n) (from_down s l))
  follow_spawn u a r l c n wanted ties' wants' choice at f =
      let w = want_of u a in
      let is = list.wanted w wanted in
      let spot = spot_in nodes triples u in
      let t = triple_by s page spot r l c in
      let tie = element_at ties n (let count = list.tie_count in let lt = slice_get_within triples n t at in omega arith) in
      let used = f tie.0 tie.1 in
      let comes = spawn_comes s page target spot a r l c choice in
      let next = used_wanted s page target known nodes triples ties wants drafts list n (from_down s l) (spawn_needs s c) u t tie.0 at tie.1 ties' wants' used
      is.spot (a, r, l, c, is.needed, choice, refl) refl comes.child (by_spawner spot a r l c is.needed choice) comes.spawner in
      let at_now : slice_get ties' n ≡ Some used.now = ap (λ z. slice_get z n) used.ties_is ∙ written ties n used.now (slice_get_within ties n tie.0 tie.1) in (
        record {
          next = next;
          nodes_more = same_more nodes;
          wants_more = used.of_wants.more;
          followed = (used.of_wants.all (want_of u (spawn_needs s c)) (inl refl), (used.now, at_now, subst (λ z. Contains z u) (sym used.users) (Contains-append_right tie.0.users.items (u ∷ []) u (0, omega arith, refl))));
        },
        used.of_wants.all (want_of (Added n) (from_down s l)) (inr (inl refl)),
      )

module _ (s : System) (page : LabelTree) (target : ℕ) (known : Pair → Type 0) (nodes nodes' : List (List ℕ)) (triples triples' : List Triple) (ties ties₁ ties' : List Tie) (wants wants' : List Want) (drafts : List Draft)
    (list : IsWorklist s page target known nodes triples ties wants drafts) (own : AreOwn triples wants) (w : Want) (next : slice_get wants (length drafts) ≡ Some w) where
  wanted : Contains wants w
  wanted = Contains-at wants (length drafts) w next

  is_wanted : IsWanted s page target nodes triples w
  is_wanted = list.wanted w wanted

  spot : Where
  spot = spot_in nodes triples w.spot

  abbrev IsLooked : List Triple → List Tie → Draft → Type 0
  IsLooked triples' ties' d = IsWorklist s page target known nodes' triples' ties' wants' (drafts ++ d ∷ []) × AreOwn triples' wants'

  -- a reason that enters no triple
  plain : (r : ℕ) (c : Choice) (named : Option ℕ) → IsChosen s page (spot_in nodes triples w.spot) w.atom r (reason_of c) → IsTripleOf s page triples (spot_in nodes triples w.spot) r c None → (named ≡ None) × (triples' ≡ triples) × (ties₁ ≡ ties)
      → Follows nodes nodes' ties₁ ties' wants wants' s w.spot c named
      → (Follows nodes nodes' ties ties' wants wants' s w.spot c None → IsNext s page target known nodes triples ties wants drafts list w wanted r nodes' ties' wants' c None) → IsLooked triples' ties' (record { round = r; choice = c; triple = named })
  plain r c named choice triple e f follow =
      let f' = subst (λ z. Follows nodes nodes' z ties' wants wants' s w.spot c None) e.2 (subst (λ z. Follows nodes nodes' ties₁ ties' wants wants' s w.spot c z) e.0 f) in
      let n = follow f' in
      let draft = draft_more s page nodes nodes' triples triples n.nodes_more (same_more triples) w (record { round = r; choice = c; triple = None }) is_wanted.spot (record { chosen = choice; triple = triple }) in
      let done = pushed s page target known nodes' triples ties' wants' drafts w (record { round = r; choice = c; triple = None }) n.next (n.wants_more (length drafts) w next) draft n.followed in
      subst (λ z. IsLooked z ties' (record { round = r; choice = c; triple = named })) (sym e.1) (subst (λ z. IsLooked triples ties' (record { round = r; choice = c; triple = z })) (sym e.0) (done, own_more triples wants wants' n.wants_more own))

  -- a spawn
  spawned : (r l c n : ℕ) (below : List ℕ) → IsChosen s page (spot_in nodes triples w.spot) w.atom r (by_spawn l c) → ((q : Pair) → Asked s page q → known q) → AsksAt s known (spot_in nodes triples w.spot)
      → below ≡ visible_in s (labels_at s page (spot_in nodes triples w.spot) (r - 1)) → IsEntered (record { kind = spawn_kind s c; parent = below; atom = from_down s l }) triples triples' ties ties₁ n
      → Follows nodes nodes' ties₁ ties' wants wants' s w.spot (Spawn l c) (Some n) → IsLooked triples' ties' (record { round = r; choice = Spawn l c; triple = Some n })
  spawned r l c n below choice asked asks below_is e f =
      let t = triple_by s page (spot_in nodes triples w.spot) r l c in
      let e' : IsEntered t triples triples' ties ties₁ n = subst (λ z. IsEntered (record { kind = spawn_kind s c; parent = z; atom = from_down s l }) triples triples' ties ties₁ n) below_is e in
      let pair = below_known s page target known asked (spot_in nodes triples w.spot) (spot_there s page target known nodes triples ties wants drafts list w.spot is_wanted.spot) asks w.atom r l c choice in
      let used = spawn_used s page target known nodes triples ties wants drafts list w.spot is_wanted.spot w.atom r l c is_wanted.needed choice in
      let list' = entered s page target known nodes triples ties wants drafts list t triples' ties₁ n e' pair used in
      let same = sym (same_spot nodes nodes triples triples' (same_more nodes) e'.of_triples.more w.spot is_wanted.spot) in
      let choice' : IsChosen s page (spot_in nodes triples' w.spot) w.atom r (by_spawn l c) = subst (λ z. IsChosen s page z w.atom r (by_spawn l c)) same choice in
      let at : slice_get triples' n ≡ Some (triple_by s page (spot_in nodes triples' w.spot) r l c) = subst (λ z. slice_get triples' n ≡ Some (triple_by s page z r l c)) same e'.at in
      let g = follow_spawn s page target known nodes triples' ties₁ wants drafts list' w.spot w.atom r l c n wanted ties' wants' choice' at (λ tie at_tie. f.1 n tie refl at_tie) in
      let draft : IsDraft s page nodes triples' w (record { round = r; choice = Spawn l c; triple = Some n }) = record { chosen = choice'; triple = at } in
      let done = pushed s page target known nodes triples' ties' wants' drafts w (record { round = r; choice = Spawn l c; triple = Some n }) g.0.next (g.0.wants_more (length drafts) w next) draft g.0.followed in
      subst (λ z. IsWorklist s page target known z triples' ties' wants' (drafts ++ record { round = r; choice = Spawn l c; triple = Some n } ∷ []) × AreOwn triples' wants') (sym f.0) (done, own_next t e' g.0.wants_more g.1)
    where
      own_next : (t : Triple) → IsEntered t triples triples' ties ties₁ n → IsMore wants wants' → Contains wants' (want_of (Added n) t.atom) → AreOwn triples' wants'
      own_next t e more has m u at = elim (e.of_triples.within u (Contains-at triples' m u at)) [
        | inl old ↦
            let j = at_Contains triples u old in
            let one : j.0 ≡ m = e.of_triples.distinct list.triples_distinct j.0 m u (e.of_triples.more j.0 u j.1) at in
            more_Contains wants wants' more (want_of (Added m) u.atom) (own m u (subst (λ z. slice_get triples z ≡ Some u) one j.1))
        | inr same ↦
            let one : n ≡ m = e.of_triples.distinct list.triples_distinct n m t e.at (at ∙ ap Some same) in
            subst (λ (z : Triple). Contains wants' (want_of (Added m) z.atom)) (sym same) (subst (λ z. Contains wants' (want_of (Added z) t.atom)) one has)
      ]

  pub looked : (d : Draft) (below : List ℕ) → ((q : Pair) → Asked s page q → known q) → AsksAt s known (spot_in nodes triples w.spot) → IsChosen s page (spot_in nodes triples w.spot) w.atom d.round (reason_of d.choice)
      → (is_spawn d.choice ≡ true → below ≡ visible_in s (labels_at s page (spot_in nodes triples w.spot) (d.round - 1))) → Enters s below triples triples' ties ties₁ d.choice d.triple → Follows nodes nodes' ties₁ ties' wants wants' s w.spot d.choice d.triple
      → IsWorklist s page target known nodes' triples' ties' wants' (drafts ++ d ∷ []) × AreOwn triples' wants'
  looked d below asked asks choice below_is enters follows = by_choice d.choice d.triple choice below_is enters follows
    where
      by_choice : (c : Choice) (named : Option ℕ) → IsChosen s page (spot_in nodes triples w.spot) w.atom d.round (reason_of c) → (is_spawn c ≡ true → below ≡ visible_in s (labels_at s page (spot_in nodes triples w.spot) (d.round - 1)))
          → Enters s below triples triples' ties ties₁ c named → Follows nodes nodes' ties₁ ties' wants wants' s w.spot c named → IsLooked triples' ties' (record { round = d.round; choice = c; triple = named })
      by_choice Start named choice below_is e f = plain d.round Start named choice refl e f (λ f'. record {
        next = subst (λ z. IsWorklist s page target known z triples ties' wants' drafts) (sym f'.0) (subst (λ z. IsWorklist s page target known nodes triples z wants' drafts) (sym f'.1) (subst (λ z. IsWorklist s page target known nodes triples ties z drafts) (sym f'.2) list));
        nodes_more = subst (IsMore nodes) (sym f'.0) (same_more nodes);
        wants_more = subst (IsMore wants) (sym f'.2) (same_more wants);
        followed = tt;
      })
      by_choice (Local l) named choice below_is e f = plain d.round (Local l) named choice refl e f (λ f'.
          subst (λ z. IsNext s page target known nodes triples ties wants drafts list w wanted d.round z ties' wants' (Local l) None) (sym f'.0)
          (subst (λ z. IsNext s page target known nodes triples ties wants drafts list w wanted d.round nodes z wants' (Local l) None) (sym f'.1) (follow_local s page target known nodes triples ties wants drafts list w wanted d.round l wants' choice (refl, refl, f'.2))))
      by_choice (Up l) named choice below_is e f = plain d.round (Up l) named choice refl e f (follow_up s page target known nodes triples ties wants drafts list w.spot w.atom d.round l wanted nodes' ties' wants' choice)
      by_choice (Real l n) named choice below_is e f = plain d.round (Real l n) named choice refl e f (follow_real s page target known nodes triples ties wants drafts list w.spot w.atom d.round l n wanted nodes' ties' wants' choice)
      by_choice (Spawn l c) None choice below_is e f = absurd e
      by_choice (Spawn l c) (Some n) choice below_is e f = spawned d.round l c n below choice asked asks (below_is refl) e f

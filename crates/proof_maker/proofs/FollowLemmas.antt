-- What following a reason adds leads from a worklist to the next.
use Rattle.std.proofs.Common.{◌≡◌, ◌⊎◌, ℕ, suc, ◌<◌, List, [], ◌∷◌, length, Contains, Some, IsSome, slice_get, slice_set, inl, inr, refl, sym, ap, ◌∙◌, subst, arith}
use Rattle.std.proofs.lemmas.Bool.{cases_order}
use Rattle.std.proofs.lemmas.Option.{slice_get_within}
use Rattle.std.proofs.lemmas.List.Elements.{Contains-append_cases, Contains-append_left}
use Rattle.std.specs.List.Sorted.{IsStrictlyIncreasing}
use Rattle.tp_base.proofs.ClassLemmas.{with_class-keeps, Contains-with_class, IsStrictlyIncreasing-with_class}
use Rattle.tp_base.proofs.Lists.{element_at, Contains-only, push_cases, length-push}
use Rattle.tp_base.proofs.Rising.{Contains-none}
use Rattle.tree_sem.specs.Trees.{LabelTree, node_at}
use Rattle.simple_core.specs.declared.system.System.{System}
use Rattle.simple_core.specs.Pairs.{Pair}
use Rattle.proof_needs.specs.declared.spots.Spot.{Spot}
use Rattle.proof_needs.specs.declared.spots.Spot.TheVariants.{Page, Added}
use Rattle.proof_needs.specs.declared.spots.Want.{Want}
use Rattle.proof_needs.specs.declared.needs.Tie.{Tie}
use Rattle.proof_needs.specs.declared.needs.Draft.{Draft}
use Rattle.proof_maker.specs.Needs.{Needed, top, IsNeededAbove, Used}
use Rattle.proof_needs.specs.Triples.{Triple, page_node, added}
use Rattle.proof_needs.specs.Following.{IsAtNode, IsAbove, IsUsed, IsEntered}
use Rattle.proof_needs.specs.Sets.{AreDistinct, IsMore, IsWith}
use Rattle.proof_needs.specs.Spots.{spot_in, IsSpot}
use Rattle.proof_maker.specs.Worklist.{IsUserOf, IsComing, IsTie, IsWanted, IsWorklist}
use Rattle.proof_needs.specs.Wants.{want_of}
use Rattle.proof_needs.proofs.SetLemmas.{more_pushed, more_Contains}
use Rattle.proof_maker.proofs.ListLemmas.{same_more, written, not_written, written_long, AreTiesMore, same_ties, tie_more, grown}
use Rattle.proof_maker.proofs.StepLemmas.{owed}

-- the element at a place is one
one_at : {X : Type 0} (xs : List X) (i : ℕ) (x y : X) → slice_get xs i ≡ Some x → slice_get xs i ≡ Some y → x ≡ y
one_at xs i x y at at' = cc

module _ (s : System) (page : LabelTree) (target : ℕ) (known : Pair → Type 0) (nodes : List (List ℕ)) (triples : List Triple) (ties : List Tie) (wants : List Want) (drafts : List Draft)
    (list : IsWorklist s page target known nodes triples ties wants drafts) where
  abbrev IsNext : List (List ℕ) → List Triple → List Tie → List Want → Type 0
  IsNext nodes' triples' ties' wants' = IsWorklist s page target known nodes' triples' ties' wants' drafts

  IsOld : (n : ℕ) → n < length ties → (t : Triple) × (slice_get triples n ≡ Some t)
  IsOld n lt = element_at triples n (let count = list.tie_count in omega arith)

  -- a triple is entered
  pub entered : (t : Triple) (triples' : List Triple) (ties' : List Tie) (number : ℕ) → IsEntered t triples triples' ties ties' number → known (t.kind, t.parent) → Used s page target t → IsNext nodes triples' ties' wants
  entered t triples' ties' number is pair used =
      grown s page target known nodes nodes triples triples' ties ties' wants wants drafts list (record {
        nodes_more = same_more nodes;
        triples_more = is.of_triples.more;
        wants_more = same_more wants;
        ties_more = elim is.tie_cases [
          | inl same ↦ subst (AreTiesMore ties) (sym same.0) (same_ties ties)
          | inr new ↦ subst (AreTiesMore ties) (sym new.1) (λ n tie at. (tie, more_pushed ties new.0 n tie at, λ u is. is, λ b is. is))
        ];
        nodes_there = list.nodes_there;
        triples_known = λ u in'. elim (is.of_triples.within u in') [
          | inl old ↦ list.triples_known u old
          | inr same ↦ subst (λ (z : Triple). known (z.kind, z.parent)) (sym same) pair
        ];
        triples_used = λ u in'. elim (is.of_triples.within u in') [
          | inl old ↦ list.triples_used u old
          | inr same ↦ subst (Used s page target) (sym same) used
        ];
        nodes_distinct = list.nodes_distinct;
        triples_distinct = is.of_triples.distinct list.triples_distinct;
        wants_distinct = list.wants_distinct;
        wanted = λ w in'. inl in';
        tie_count = elim is.tie_cases [
          | inl same ↦ ap length same.0 ∙ list.tie_count ∙ sym same.1
          | inr new ↦ ap length new.1 ∙ length-push ties new.0 ∙ ap suc list.tie_count ∙ sym new.4
        ];
        each_tie = λ n u tie at at'. elim is.tie_cases [
          | inl same ↦ old n u tie at (subst (λ z. slice_get z n ≡ Some tie) same.0 at')
          | inr new ↦ elim (push_cases ties new.0 n tie (subst (λ z. slice_get z n ≡ Some tie) new.1 at')) [
            | inl before ↦ old n u tie at before
            | inr last ↦ subst (IsTie s page target nodes triples' wants u) last.1 (record {
              users = λ p in'. absurd (Contains-none p (subst (λ z. Contains z p) new.3 in'));
              above = λ b in'. absurd (Contains-none b (subst (λ z. Contains z b) new.2 in'));
              tied = λ p b in' in''. absurd (Contains-none p (subst (λ z. Contains z p) new.3 in'));
              rises = subst IsStrictlyIncreasing (sym new.2) (λ k lt. absurd (omega (arith, lt)));
            })
          ]
        ];
      })
    where
      old : (n : ℕ) (u : Triple) (tie : Tie) → slice_get triples' n ≡ Some u → slice_get ties n ≡ Some tie → IsTie s page target nodes triples' wants u tie
      old n u tie at at' =
          let o = IsOld n (slice_get_within ties n tie at') in
          let same = one_at triples' n o.0 u (is.of_triples.more n o.0 o.1) at in
          tie_more s page target nodes nodes triples triples' wants wants (same_more nodes) is.of_triples.more (λ w in'. in') u tie (subst (λ z. IsTie s page target nodes triples wants z tie) same (list.each_tie n o.0 tie o.1 at'))

  -- atoms are wanted
  pub wanted_at : (P : Want → Type 0) (wants' : List Want) → IsWith wants P wants' → ((w : Want) → P w → IsWanted s page target nodes triples w) → IsNext nodes triples ties wants'
  wanted_at P wants' is right =
      grown s page target known nodes nodes triples triples ties ties wants wants' drafts list (record {
        nodes_more = same_more nodes;
        triples_more = same_more triples;
        wants_more = is.more;
        ties_more = same_ties ties;
        nodes_there = list.nodes_there;
        triples_known = list.triples_known;
        triples_used = list.triples_used;
        nodes_distinct = list.nodes_distinct;
        triples_distinct = list.triples_distinct;
        wants_distinct = is.distinct list.wants_distinct;
        wanted = λ w in'. elim (is.within w in') [ inl old ↦ inl old | inr new ↦ inr (right w new) ];
        tie_count = list.tie_count;
        each_tie = λ n t tie at at'. tie_more s page target nodes nodes triples triples wants wants' (same_more nodes) (same_more triples) (more_Contains wants wants' is.more) t tie (list.each_tie n t tie at at');
      })

  -- an atom is wanted at a node
  pub node_wanted : (v : List ℕ) (from : ℕ) (nodes' : List (List ℕ)) (wants' : List Want) → IsAtNode v from nodes nodes' wants wants' → IsSome (node_at v page) → Needed s page target (page_node v) from → IsComing s page target (page_node v) from
      → IsNext nodes' triples ties wants'
  node_wanted v from nodes' wants' is there need comes =
      grown s page target known nodes nodes' triples triples ties ties wants wants' drafts list (record {
        nodes_more = is.of_nodes.more;
        triples_more = same_more triples;
        wants_more = is.of_wants.more;
        ties_more = same_ties ties;
        nodes_there = λ u in'. elim (is.of_nodes.within u in') [
          | inl old ↦ list.nodes_there u old
          | inr same ↦ subst (λ z. IsSome (node_at z page)) (sym same) there
        ];
        triples_known = list.triples_known;
        triples_used = list.triples_used;
        nodes_distinct = is.of_nodes.distinct list.nodes_distinct;
        triples_distinct = list.triples_distinct;
        wants_distinct = is.of_wants.distinct list.wants_distinct;
        wanted = λ w in'. elim (is.of_wants.within w in') [
          | inl old ↦ inl old
          | inr same ↦ inr (subst (IsWanted s page target nodes' triples) (sym same) here)
        ];
        tie_count = list.tie_count;
        each_tie = λ n t tie at at'. tie_more s page target nodes nodes' triples triples wants wants' is.of_nodes.more (same_more triples) (more_Contains wants wants' is.of_wants.more) t tie (list.each_tie n t tie at at');
      })
    where
      same_spot : spot_in nodes' triples (Page is.number) ≡ page_node v
      same_spot = rw is.at refl

      here : IsWanted s page target nodes' triples (want_of (Page is.number) from)
      here = record {
        spot = slice_get_within nodes' is.number v is.at;
        needed = subst (λ z. Needed s page target z from) (sym same_spot) need;
        comes = subst (λ z. IsComing s page target z from) (sym same_spot) comes;
      }

  -- a tie is written
  module _ (n : ℕ) (t : Triple) (tie now : Tie) (at_triple : slice_get triples n ≡ Some t) (at_tie : slice_get ties n ≡ Some tie) (ties' : List Tie) (ties_is : ties' ≡ slice_set ties n now) (wants' : List Want) (more : IsMore wants wants') (distinct : AreDistinct wants')
      (users_kept : (u : Spot) → Contains tie.users.items u → Contains now.users.items u) (above_kept : (b : ℕ) → Contains tie.above b → Contains now.above b) (its_tie : IsTie s page target nodes triples wants' t now)
      (right : (w : Want) → Contains wants' w → Contains wants w ⊎ IsWanted s page target nodes triples w) where
    at_now : slice_get ties' n ≡ Some now
    at_now = ap (λ z. slice_get z n) ties_is ∙ written ties n now (slice_get_within ties n tie at_tie)

    at_other : (m : ℕ) → (n ≡ m → ⊥) → slice_get ties' m ≡ slice_get ties m
    at_other m other = ap (λ z. slice_get z m) ties_is ∙ not_written ties n m now other

    kept : (w : Want) → Contains wants w → Contains wants' w
    kept = more_Contains wants wants' more

    other_tie : (m : ℕ) (u : Triple) (e : Tie) → (n ≡ m → ⊥) → slice_get triples m ≡ Some u → slice_get ties' m ≡ Some e → IsTie s page target nodes triples wants' u e
    other_tie m u e other at at' =
        tie_more s page target nodes nodes triples triples wants wants' (same_more nodes) (same_more triples) kept u e (list.each_tie m u e at (sym (at_other m other) ∙ at'))

    same_tie : (m : ℕ) (u : Triple) (e : Tie) → m ≡ n → slice_get triples m ≡ Some u → slice_get ties' m ≡ Some e → IsTie s page target nodes triples wants' u e
    same_tie m u e same at at' =
        let one : t ≡ u = one_at triples n t u at_triple (subst (λ z. slice_get triples z ≡ Some u) same at) in
        let two : now ≡ e = one_at ties' n now e at_now (subst (λ z. slice_get ties' z ≡ Some e) same at') in
        subst (IsTie s page target nodes triples wants' u) two (subst (λ z. IsTie s page target nodes triples wants' z now) one its_tie)

    ties_grow : AreTiesMore ties ties'
    ties_grow m e at = elim (cases_order m n) [
      | inl same ↦
          let two : tie ≡ e = one_at ties n tie e at_tie (subst (λ z. slice_get ties z ≡ Some e) same at) in
          (now, subst (λ z. slice_get ties' z ≡ Some now) (sym same) at_now, λ u in'. users_kept u (subst (λ (z : Tie). Contains z.users.items u) (sym two) in'), λ b in'. above_kept b (subst (λ (z : Tie). Contains z.above b) (sym two) in'))
      | inr (inl less) ↦ (e, at_other m (λ same. omega arith) ∙ at, λ u in'. in', λ b in'. in')
      | inr (inr other) ↦ (e, at_other m (λ same. omega arith) ∙ at, λ u in'. in', λ b in'. in')
    ]

    pub tie_written : IsNext nodes triples ties' wants'
    tie_written =
        grown s page target known nodes nodes triples triples ties ties' wants wants' drafts list (record {
          nodes_more = same_more nodes;
          triples_more = same_more triples;
          wants_more = more;
          ties_more = ties_grow;
          nodes_there = list.nodes_there;
          triples_known = list.triples_known;
          triples_used = list.triples_used;
          nodes_distinct = list.nodes_distinct;
          triples_distinct = list.triples_distinct;
          wants_distinct = distinct;
          wanted = right;
          tie_count = ap length ties_is ∙ written_long ties n now ∙ list.tie_count;
          each_tie = λ m u e at at'. elim (cases_order m n) [
            | inl same ↦ same_tie m u e same at at'
            | inr (inl less) ↦ other_tie m u e (λ same. omega arith) at at'
            | inr (inr other) ↦ other_tie m u e (λ same. omega arith) at at'
          ];
        })

  -- the added node n needs one atom more of its parent
  pub above_wanted : (n from : ℕ) (t : Triple) (tie : Tie) → slice_get triples n ≡ Some t → slice_get ties n ≡ Some tie → (ties' : List Tie) (wants' : List Want) → IsAbove n from tie ties ties' wants wants' → IsNeededAbove s page target (added t) from
      → IsNext nodes triples ties' wants'
  above_wanted n from t tie at at' ties' wants' is need =
      tie_written n t tie is.now at at' ties' is.ties_is wants' is.of_wants.more (is.of_wants.distinct list.wants_distinct)
      (λ u in'. subst (λ z. Contains z u) (sym is.users) in')
      (λ b in'. subst (λ z. Contains z b) (sym is.above) (with_class-keeps from tie.above b in'))
      (record {
        users = λ u in'. old.users u (subst (λ z. Contains z u) is.users in');
        above = λ b in'. elim ((Contains-with_class from tie.above b).0 (subst (λ z. Contains z b) is.above in')) [
          | inl same ↦ subst (IsNeededAbove s page target (added t)) (sym same) need
          | inr before ↦ old.above b before
        ];
        tied = λ u b in' in''. elim ((Contains-with_class from tie.above b).0 (subst (λ z. Contains z b) is.above in'')) [
          | inl same ↦ subst (λ z. Contains wants' (want_of u z)) (sym same) (is.of_wants.all (want_of u from) (u, subst (λ z. Contains z u) is.users in', refl))
          | inr before ↦ more_Contains wants wants' is.of_wants.more (want_of u b) (old.tied u b (subst (λ z. Contains z u) is.users in') before)
        ];
        rises = subst IsStrictlyIncreasing (sym is.above) (IsStrictlyIncreasing-with_class from tie.above old.rises);
      })
      (λ w in'. elim (is.of_wants.within w in') [
        | inl before ↦ inl before
        | inr new ↦ inr (subst (IsWanted s page target nodes triples) (sym new.2) (let user = old.users new.0 new.1 in let o = owed s page target (spot_in nodes triples new.0) t from user.1 need in record { spot = user.0; needed = o.needed; comes = o.comes }))
      ])
    where
      old : IsTie s page target nodes triples wants t tie
      old = list.each_tie n t tie at at'

  -- the spot has the added node n as a child
  pub used_wanted : (n from needs : ℕ) (spot : Spot) (t : Triple) (tie : Tie) → slice_get triples n ≡ Some t → slice_get ties n ≡ Some tie → (ties' : List Tie) (wants' : List Want) → IsUsed n from needs spot tie ties ties' wants wants'
      → IsSpot nodes triples spot → IsUserOf s page target (spot_in nodes triples spot) t → from ≡ t.atom → IsComing s page target (added t) from → Needed s page target (spot_in nodes triples spot) needs → IsComing s page target (spot_in nodes triples spot) needs
      → IsNext nodes triples ties' wants'
  used_wanted n from needs spot t tie at at' ties' wants' is is_spot user own comes need_spawner spawner_comes =
      tie_written n t tie is.now at at' ties' is.ties_is wants' is.of_wants.more (is.of_wants.distinct list.wants_distinct)
      (λ u in'. subst (λ z. Contains z u) (sym is.users) (Contains-append_left tie.users.items (spot ∷ []) u in'))
      (λ b in'. subst (λ z. Contains z b) (sym is.above) in')
      (record {
        users = λ u in'. elim (Contains-append_cases tie.users.items (spot ∷ []) u (subst (λ z. Contains z u) is.users in')) [
          | inl before ↦ old.users u before
          | inr last ↦ subst (λ z. IsSpot nodes triples z × IsUserOf s page target (spot_in nodes triples z) t) (Contains-only spot u last) (is_spot, user)
        ];
        above = λ b in'. old.above b (subst (λ z. Contains z b) is.above in');
        tied = λ u b in' in''. elim (Contains-append_cases tie.users.items (spot ∷ []) u (subst (λ z. Contains z u) is.users in')) [
          | inl before ↦ more_Contains wants wants' is.of_wants.more (want_of u b) (old.tied u b before (subst (λ z. Contains z b) is.above in''))
          | inr last ↦ subst (λ z. Contains wants' (want_of z b)) (Contains-only spot u last) (is.of_wants.all (want_of spot b) (inr (inr (b, subst (λ z. Contains z b) is.above in'', refl))))
        ];
        rises = subst IsStrictlyIncreasing (sym is.above) old.rises;
      })
      (λ w in'. elim (is.of_wants.within w in') [
        | inl before ↦ inl before
        | inr (inl same) ↦ inr (subst (IsWanted s page target nodes triples) (sym same) (record { spot = is_spot; needed = need_spawner; comes = spawner_comes }))
        | inr (inr (inl same)) ↦ inr (subst (IsWanted s page target nodes triples) (sym same) here)
        | inr (inr (inr new)) ↦ inr (subst (IsWanted s page target nodes triples) (sym new.2) (let o = owed s page target (spot_in nodes triples spot) t new.0 user (old.above new.0 new.1) in record { spot = is_spot; needed = o.needed; comes = o.comes }))
      ])
    where
      old : IsTie s page target nodes triples wants t tie
      old = list.each_tie n t tie at at'

      same_spot : spot_in nodes triples (Added n) ≡ added t
      same_spot = rw at refl

      here : IsWanted s page target nodes triples (want_of (Added n) from)
      here = record {
        spot = slice_get_within triples n t at;
        needed = subst (λ z. Needed s page target z from) (sym same_spot) (subst (Needed s page target (added t)) (sym own) (top t));
        comes = subst (λ z. IsComing s page target z from) (sym same_spot) comes;
      }

-- The orders of wants, from their ranks.
use Rattle.std.proofs.Common.{◌≡◌, ◌⊎◌, ℕ, zero, suc, ◌+◌, ◌<◌, Bool, true, false, cond, List, [], ◌∷◌, ◌++◌, length, map, filter, take, All, Some, option_map, unwrap_or, slice_get, inl, inr, refl, sym, ap, ◌∙◌, subst, arith}
use Rattle.std.proofs.lemmas.Bool.Decides.{Decides-eqb}
use Rattle.std.proofs.lemmas.List.{map-append, length-map}
use Rattle.std.proofs.lemmas.Option.{slice_get_within, get_or_from_slice_get}
use Rattle.tp_base.proofs.Rising.{All-from_Contains}
use Rattle.tp_base.proofs.Lists.{Contains-at, at_Contains, element_at, take_suc}
use Rattle.tree_sem.specs.Order.{Before}
use Rattle.proof_needs.specs.declared.spots.Spot.{Spot}
use Rattle.proof_needs.specs.declared.spots.Spot.TheVariants.{Page, Added}
use Rattle.proof_needs.specs.declared.spots.Want.{Want}
use Rattle.proof_needs.specs.declared.needs.Draft.{Draft}
use Rattle.proof_needs.specs.declared.needs.Needs.{Needs}
use Rattle.proof_needs.specs.declared.orders.Rank.{Rank}
use Rattle.proof_needs.specs.declared.orders.Order.{Order}
use Rattle.proof_needs.specs.declared.orders.Orders.{Orders}
use Rattle.proof_needs.specs.Dealing.{IsDealt, IsOnPage, node_of, path_at, PageTie, AtomTie}
use Rattle.proof_needs.specs.Names.{wants_of}
use Rattle.proof_needs.specs.Orders.{IsSortable, steps_in, IsRank, IsBefore, AreSorted, IsSpotOf, is_on_page, is_added, kept, IsWithWant, spot_at, AreFrom, AreDealt}
use Rattle.proof_needs.specs.Spots.{paths_in, triple_of, triples_in, IsSpot}

-- what a filter keeps
pub filter_at : (test : ℕ → Bool) (xs : List ℕ) (k i : ℕ) → slice_get (filter test xs) k ≡ Some i → (l : ℕ) × (slice_get xs l ≡ Some i) × (test i ≡ true)
filter_at test [] k i at = cc
filter_at test (x ∷ xs) zero i at =
    elim (test x) as (λ b. test x ≡ b → slice_get (cond b (x ∷ filter test xs) (filter test xs)) zero ≡ Some i → (l : ℕ) × (slice_get (x ∷ xs) l ≡ Some i) × (test i ≡ true)) [
      | true ↦ λ e at. let same : x ≡ i = cc in (0, at, ap test (sym same) ∙ e)
      | false ↦ λ e at. let r = filter_at test xs zero i at in (suc r.0, r.1, r.2)
    ] refl at
filter_at test (x ∷ xs) (suc k) i at =
    elim (test x) as (λ b. test x ≡ b → slice_get (cond b (x ∷ filter test xs) (filter test xs)) (suc k) ≡ Some i → (l : ℕ) × (slice_get (x ∷ xs) l ≡ Some i) × (test i ≡ true)) [
      | true ↦ λ e at. let r = filter_at test xs k i at in (suc r.0, r.1, r.2)
      | false ↦ λ e at. let r = filter_at test xs (suc k) i at in (suc r.0, r.1, r.2)
    ] refl at

pub filter_there : (test : ℕ → Bool) (xs : List ℕ) (l i : ℕ) → slice_get xs l ≡ Some i → test i ≡ true → (k : ℕ) × (slice_get (filter test xs) k ≡ Some i)
filter_there test [] l i at pass = cc
filter_there test (x ∷ xs) zero i at pass =
    let same : x ≡ i = cc in
    let passes : test x ≡ true = ap test same ∙ pass in
    (0, ap (λ b. slice_get (cond b (x ∷ filter test xs) (filter test xs)) 0) passes ∙ at)
filter_there test (x ∷ xs) (suc l) i at pass =
    let r = filter_there test xs l i at pass in
    elim (test x) as (λ b. (k : ℕ) × (slice_get (cond b (x ∷ filter test xs) (filter test xs)) k ≡ Some i)) [ true ↦ (suc r.0, r.1) | false ↦ r ]

-- two that are kept stood in the same order
pub filter_far : (test : ℕ → Bool) (xs : List ℕ) (k l i j : ℕ) → k < l → slice_get (filter test xs) k ≡ Some i → slice_get (filter test xs) l ≡ Some j
    → (m : ℕ) × (n : ℕ) × (m < n) × (slice_get xs m ≡ Some i) × (slice_get xs n ≡ Some j)
filter_far test [] k l i j lt at at' = cc
filter_far test (x ∷ xs) zero zero i j lt at at' = absurd (omega (arith, lt))
filter_far test (x ∷ xs) (suc k) zero i j lt at at' = absurd (omega (arith, lt))
filter_far test (x ∷ xs) zero (suc l) i j lt at at' =
    elim (test x) as (λ b. slice_get (cond b (x ∷ filter test xs) (filter test xs)) zero ≡ Some i → slice_get (cond b (x ∷ filter test xs) (filter test xs)) (suc l) ≡ Some j
    → (m : ℕ) × (n : ℕ) × (m < n) × (slice_get (x ∷ xs) m ≡ Some i) × (slice_get (x ∷ xs) n ≡ Some j)) [
      | true ↦ λ at at'. let r = filter_at test xs l j at' in (0, suc r.0, omega arith, at, r.1)
      | false ↦ λ at at'. let r = filter_far test xs zero (suc l) i j lt at at' in let less = r.2 in (suc r.0, suc r.1, omega (arith, less), r.3, r.4)
    ] at at'
filter_far test (x ∷ xs) (suc k) (suc l) i j lt at at' =
    elim (test x) as (λ b. slice_get (cond b (x ∷ filter test xs) (filter test xs)) (suc k) ≡ Some i → slice_get (cond b (x ∷ filter test xs) (filter test xs)) (suc l) ≡ Some j
    → (m : ℕ) × (n : ℕ) × (m < n) × (slice_get (x ∷ xs) m ≡ Some i) × (slice_get (x ∷ xs) n ≡ Some j)) [
      | true ↦ λ at at'. let r = filter_far test xs k l i j (omega (arith, lt)) at at' in let less = r.2 in (suc r.0, suc r.1, omega (arith, less), r.3, r.4)
      | false ↦ λ at at'. let r = filter_far test xs (suc k) (suc l) i j lt at at' in let less = r.2 in (suc r.0, suc r.1, omega (arith, less), r.3, r.4)
    ] at at'

pub filter_push : (test : ℕ → Bool) (xs : List ℕ) (x : ℕ) → filter test (xs ++ x ∷ []) ≡ kept (test x) x (filter test xs)
filter_push test [] x = elim (test x) as (λ b. cond b (x ∷ []) [] ≡ kept b x []) [ true ↦ refl | false ↦ refl ]
filter_push test (y ∷ xs) x =
    elim (test y) as (λ b. cond b (y ∷ filter test (xs ++ x ∷ [])) (filter test (xs ++ x ∷ [])) ≡ kept (test x) x (cond b (y ∷ filter test xs) (filter test xs))) [
      | true ↦ ap (λ ys. y ∷ ys) (filter_push test xs x) ∙ elim (test x) as (λ b. y ∷ kept b x (filter test xs) ≡ kept b x (y ∷ filter test xs)) [ true ↦ refl | false ↦ refl ]
      | false ↦ filter_push test xs x
    ]

map_at : (rs : List Rank) (k i : ℕ) → slice_get (map (λ (r : Rank). r.want) rs) k ≡ Some i → (r : Rank) × (slice_get rs k ≡ Some r) × (r.want ≡ i)
map_at [] k i at = cc
map_at (r ∷ rs) zero i at = (r, refl, let same : r.want ≡ i = cc in same)
map_at (r ∷ rs) (suc k) i at = map_at rs k i at

at_map : (rs : List Rank) (k : ℕ) (r : Rank) → slice_get rs k ≡ Some r → slice_get (map (λ (q : Rank). q.want) rs) k ≡ Some r.want
at_map [] k r at = cc
at_map (q ∷ rs) zero r at = let same : q ≡ r = cc in ap (λ (x : Rank). Some x.want) same
at_map (q ∷ rs) (suc k) r at = at_map rs k r at

module _ (n : Needs) where
  abbrev steps_to : Want → List ℕ
  steps_to w = steps_in (paths_in n.nodes.keys) w.spot

  -- in one round: by the node of the page, by atom, and by number
  abbrev pub IsLater : Want → Want → ℕ → ℕ → Type 0
  IsLater w x i j = Before (steps_to w) (steps_to x) ⊎ ((steps_to w ≡ steps_to x) × ((w.atom < x.atom) ⊎ ((w.atom ≡ x.atom) × (i < j))))

  record IsOf (i : ℕ) (r : Rank) (w : Want) (d : Draft) : Type 0 where
    place : r.want ≡ i
    round : r.round ≡ d.round
    path : r.path.items ≡ steps_to w
    atom : r.atom ≡ w.atom

  is_of : (i : ℕ) (r : Rank) (w : Want) (d : Draft) → IsRank n r.want r → r.want ≡ i → slice_get n.wants.keys i ≡ Some w → slice_get n.drafts.items i ≡ Some d → IsOf i r w d
  is_of i r w d rank place at drafted =
      let rank' : IsRank n i r = subst (λ m. IsRank n m r) place rank in
      let one : rank'.wanted ≡ w = let a = rank'.at in cc in
      let two : rank'.draft ≡ d = let a = rank'.drafted in cc in
      record {
        place = place;
        round = rank'.round ∙ ap (λ (x : Draft). x.round) two;
        path = rank'.path ∙ ap steps_to one;
        atom = rank'.atom ∙ ap (λ (x : Want). x.atom) one;
      }

  spot_is : (i : ℕ) (w : Want) → slice_get n.wants.keys i ≡ Some w → spot_at n.wants.keys i ≡ w.spot
  spot_is i w at = ap (λ o. unwrap_or (option_map (λ (x : Want). x.spot) o) (Page 0)) at

  module _ (rs : List Rank) (sorted : AreSorted n rs) where
    abbrev pub places : List ℕ
    places = map (λ (r : Rank). r.want) rs

    -- the wants whose spots pass a test, in their order
    pub dealt_by : (p : Spot → Bool) (P : Spot → Type 0) (Tie : Want → Want → Type 0) → ((q : Spot) → p q ≡ true → P q) → ((q : Spot) → P q → p q ≡ true)
        → ((i j : ℕ) (w x : Want) → slice_get n.wants.keys i ≡ Some w → slice_get n.wants.keys j ≡ Some x → P w.spot → P x.spot → IsLater w x i j → Tie w x)
        → IsDealt n.wants.keys n.drafts.items P Tie (filter (λ i. p (spot_at n.wants.keys i)) places)
    dealt_by p P Tie to from tie = record {
      each = λ k i at.
          let f = filter_at (λ i. p (spot_at n.wants.keys i)) places k i at in
          let r = map_at rs f.0 i f.1 in
          let rank : IsRank n i r.0 = subst (λ m. IsRank n m r.0) r.2 (sorted.each f.0 r.0 r.1) in
          (rank.wanted, rank.at, to rank.wanted.spot (ap p (sym (spot_is i rank.wanted rank.at)) ∙ f.2));
      all = λ i w at passes.
          let a = sorted.all i (slice_get_within n.wants.keys i w at) in
          let there : slice_get places a.0 ≡ Some i = at_map rs a.0 a.1 a.2 ∙ ap Some a.3 in
          let f = filter_there (λ i. p (spot_at n.wants.keys i)) places a.0 i there (ap p (spot_is i w at) ∙ from w.spot passes) in
          Contains-at (filter (λ i. p (spot_at n.wants.keys i)) places) f.0 i f.1;
      ordered = λ k l i j w x d e less at_k at_l at_w at_x at_d at_e.
          let f = filter_far (λ i. p (spot_at n.wants.keys i)) places k l i j less at_k at_l in
          let q = map_at rs f.0 i f.3 in
          let r = map_at rs f.1 j f.4 in
          let q_of = is_of i q.0 w d (sorted.each f.0 q.0 q.1) q.2 at_w at_d in
          let r_of = is_of j r.0 x e (sorted.each f.1 r.0 r.1) r.2 at_x at_e in
          let a = filter_at (λ i. p (spot_at n.wants.keys i)) places k i at_k in
          let b = filter_at (λ i. p (spot_at n.wants.keys i)) places l j at_l in
          let w_is = to w.spot (ap p (sym (spot_is i w at_w)) ∙ a.2) in
          let x_is = to x.spot (ap p (sym (spot_is j x at_x)) ∙ b.2) in
          by_before i j w x d e q.0 r.0 q_of r_of (tie i j w x at_w at_x w_is x_is) (sorted.ordered f.0 f.1 q.0 r.0 f.2 q.1 r.1);
    }
      where
        by_before : (i j : ℕ) (w x : Want) (d e : Draft) (q r : Rank) → IsOf i q w d → IsOf j r x e → (IsLater w x i j → Tie w x) → IsBefore q r → (d.round < e.round) ⊎ ((d.round ≡ e.round) × Tie w x)
        by_before i j w x d e q r q_of r_of tie (inl less) = let a = q_of.round in let b = r_of.round in inl (omega (arith, less, a, b))
        by_before i j w x d e q r q_of r_of tie (inr (same, inl before)) =
            inr (sym q_of.round ∙ same ∙ r_of.round, tie (inl (subst (λ v. Before v (steps_to x)) q_of.path (subst (λ v. Before q.path.items v) r_of.path before))))
        by_before i j w x d e q r q_of r_of tie (inr (same, inr (alike, inl less))) =
            let a = q_of.atom in let b = r_of.atom in inr (sym q_of.round ∙ same ∙ r_of.round, tie (inr (sym q_of.path ∙ alike ∙ r_of.path, inl (omega (arith, less, a, b)))))
        by_before i j w x d e q r q_of r_of tie (inr (same, inr (alike, inr (equal, less)))) =
            let a = q_of.place in let b = r_of.place in inr (sym q_of.round ∙ same ∙ r_of.round, tie (inr (sym q_of.path ∙ alike ∙ r_of.path, inr (sym q_of.atom ∙ equal ∙ r_of.atom, omega (arith, less, a, b)))))

  module _ (sortable : IsSortable n) where
    -- the same atom at the same spot is one want
    one_want : (i j : ℕ) (w x : Want) → slice_get n.wants.keys i ≡ Some w → slice_get n.wants.keys j ≡ Some x → w.spot ≡ x.spot → w.atom ≡ x.atom → i < j → ⊥
    one_want i j w x at_w at_x spots atoms less =
        let same : w ≡ x = λ k. record { spot = spots k; atom = atoms k } in
        let i_is = sortable.wants_distinct i j x (at_w ∙ ap Some same) at_x in
        omega (arith, i_is, less)

    page_steps : (q : Spot) → IsOnPage q → steps_in (paths_in n.nodes.keys) q ≡ unwrap_or (slice_get (paths_in n.nodes.keys) (node_of q)) []
    page_steps (Page m) on = refl
    page_steps (Added m) on = absurd on

    -- a node of the page has one number
    one_node : (q r : Spot) → IsOnPage q → IsOnPage r → IsSpot (paths_in n.nodes.keys) (triples_in n.triples.keys) q → IsSpot (paths_in n.nodes.keys) (triples_in n.triples.keys) r
        → steps_in (paths_in n.nodes.keys) q ≡ steps_in (paths_in n.nodes.keys) r → q ≡ r
    one_node (Page m) (Page l) on on' within within' same =
        let v = element_at (paths_in n.nodes.keys) m within in
        let u = element_at (paths_in n.nodes.keys) l within' in
        let v_is : unwrap_or (slice_get (paths_in n.nodes.keys) m) [] ≡ v.0 = ap (λ o. unwrap_or o []) v.1 in
        let u_is : unwrap_or (slice_get (paths_in n.nodes.keys) l) [] ≡ u.0 = ap (λ o. unwrap_or o []) u.1 in
        let alike : v.0 ≡ u.0 = sym v_is ∙ same ∙ u_is in
        ap Page (sortable.nodes_distinct m l u.0 (v.1 ∙ ap Some alike) u.1)
    one_node (Page m) (Added l) on on' within within' same = absurd on'
    one_node (Added m) r on on' within within' same = absurd on

    pub page_tie : (i j : ℕ) (w x : Want) → slice_get n.wants.keys i ≡ Some w → slice_get n.wants.keys j ≡ Some x → IsOnPage w.spot → IsOnPage x.spot → IsLater w x i j → PageTie (paths_in n.nodes.keys) w x
    page_tie i j w x at_w at_x on on' (inl before) = inl (subst (λ v. Before v (path_at (paths_in n.nodes.keys) x)) (page_steps w.spot on) (subst (λ v. Before (steps_to w) v) (page_steps x.spot on') before))
    page_tie i j w x at_w at_x on on' (inr (alike, inl less)) = inr (sym (page_steps w.spot on) ∙ alike ∙ page_steps x.spot on', less)
    page_tie i j w x at_w at_x on on' (inr (alike, inr (equal, less))) =
        let spots = one_node w.spot x.spot on on' (sortable.spots w (Contains-at n.wants.keys i w at_w)) (sortable.spots x (Contains-at n.wants.keys j x at_x)) alike in
        absurd (one_want i j w x at_w at_x spots equal less)

    pub atom_tie : (m i j : ℕ) (w x : Want) → slice_get n.wants.keys i ≡ Some w → slice_get n.wants.keys j ≡ Some x → w.spot ≡ Added m → x.spot ≡ Added m → IsLater w x i j → AtomTie w x
    atom_tie m i j w x at_w at_x on on' (inl before) =
        let never : Before [] [] = subst (λ q. Before [] (steps_in (paths_in n.nodes.keys) q)) on' (subst (λ q. Before (steps_in (paths_in n.nodes.keys) q) (steps_to x)) on before) in absurd never
    atom_tie m i j w x at_w at_x on on' (inr (alike, inl less)) = less
    atom_tie m i j w x at_w at_x on on' (inr (alike, inr (equal, less))) = absurd (one_want i j w x at_w at_x (on ∙ sym on') equal less)

    on_page : (q : Spot) → is_on_page q ≡ true → IsOnPage q
    on_page (Page m) e = tt
    on_page (Added m) e = cc

    is_page : (q : Spot) → IsOnPage q → is_on_page q ≡ true
    is_page (Page m) on = refl
    is_page (Added m) on = absurd on

    added_at : (m : ℕ) (q : Spot) → is_added m q ≡ true → q ≡ Added m
    added_at m (Page k) e = cc
    added_at m (Added k) e = ap Added ((Decides-eqb k m).0 e)

    is_at : (m : ℕ) (q : Spot) → q ≡ Added m → is_added m q ≡ true
    is_at m q same = subst (λ r. is_added m r ≡ true) (sym same) ((Decides-eqb m m).1 refl)

    pub dealt_is : (rs : List Rank) (o : Orders) → AreSorted n rs → AreFrom n.wants.keys (length n.triples.keys) (map (λ (r : Rank). r.want) rs) o → AreDealt n o
    dealt_is rs o sorted from = record {
      page = subst (IsDealt n.wants.keys n.drafts.items IsOnPage (PageTie (paths_in n.nodes.keys))) (sym from.page) (dealt_by rs sorted is_on_page IsOnPage (PageTie (paths_in n.nodes.keys)) on_page is_page page_tie);
      each = λ m order at.
          let is : wants_of o.triples.items m ≡ order.wants.items = ap (λ q. unwrap_or (option_map (λ (x : Order). x.wants.items) q) []) at in
          subst (IsDealt n.wants.keys n.drafts.items (λ q. q ≡ Added m) AtomTie) (sym (from.each m) ∙ is) (dealt_by rs sorted (is_added m) (λ q. q ≡ Added m) AtomTie (added_at m) (is_at m) (atom_tie m));
      count = from.count_is;
    }

  -- what dealing looks up
  pub ranks_within : (rs : List Rank) → AreSorted n rs → All (λ (r : Rank). r.want < length n.wants.keys) rs
  ranks_within rs sorted = All-from_Contains (λ (r : Rank). r.want < length n.wants.keys) rs (λ r is.
      let k = at_Contains rs r is in
      let rank = sorted.each k.0 r k.1 in
      slice_get_within n.wants.keys r.want rank.wanted rank.at)

  pub spots_within : IsSortable n → All (λ (w : Want). IsSpotOf (length n.triples.keys) w.spot) n.wants.keys
  spots_within sortable = All-from_Contains (λ (w : Want). IsSpotOf (length n.triples.keys) w.spot) n.wants.keys (λ w is. by_spot w.spot (sortable.spots w is))
    where
      by_spot : (q : Spot) → IsSpot (paths_in n.nodes.keys) (triples_in n.triples.keys) q → IsSpotOf (length n.triples.keys) q
      by_spot (Page m) within = tt
      by_spot (Added m) within = subst (λ k. m < k) (length-map n.triples.keys triple_of) within

-- one rank more is dealt
pub from_next : (wants : List Want) (count : ℕ) (rs : List Rank) (i : ℕ) (r : Rank) (o o' : Orders) → slice_get rs i ≡ Some r → AreFrom wants count (map (λ (q : Rank). q.want) (take i rs)) o
    → IsWithWant (spot_at wants r.want) r.want o o' → AreFrom wants count (map (λ (q : Rank). q.want) (take (suc i) rs)) o'
from_next wants count rs i r o o' at from with_one =
    let more : map (λ (q : Rank). q.want) (take (suc i) rs) ≡ map (λ (q : Rank). q.want) (take i rs) ++ r.want ∷ [] =
    ap (map (λ (q : Rank). q.want)) (take_suc rs i r at) ∙ map-append (λ (q : Rank). q.want) (take i rs) (r ∷ []) in
    subst (λ places. AreFrom wants count places o') (sym more) (record {
      page = with_one.page ∙ ap (kept (is_on_page (spot_at wants r.want)) r.want) from.page ∙ sym (filter_push (λ j. is_on_page (spot_at wants j)) (map (λ (q : Rank). q.want) (take i rs)) r.want);
      each = λ m. with_one.each m ∙ ap (kept (is_added m (spot_at wants r.want)) r.want) (from.each m) ∙ sym (filter_push (λ j. is_added m (spot_at wants j)) (map (λ (q : Rank). q.want) (take i rs)) r.want);
      count_is = with_one.count ∙ from.count_is;
    })

pub dealt_next : (wants ws : List Want) (count : ℕ) (rs : List Rank) (i : ℕ) (r : Rank) (w : Want) (o o' : Orders) → ws ≡ wants → slice_get rs i ≡ Some r → slice_get ws r.want ≡ Some w
    → AreFrom wants count (map (λ (q : Rank). q.want) (take i rs)) o → IsWithWant w.spot r.want o o' → AreFrom wants count (map (λ (q : Rank). q.want) (take (i + 1) rs)) o'
dealt_next wants ws count rs i r w o o' same at at_w from with_one =
    let spot : w.spot ≡ spot_at wants r.want = sym (ap (λ q. unwrap_or (option_map (λ (x : Want). x.spot) q) (Page 0)) (ap (λ xs. slice_get xs r.want) (sym same) ∙ at_w)) in
    subst (λ k. AreFrom wants count (map (λ (q : Rank). q.want) (take k rs)) o') {x = suc i} (omega arith) (from_next wants count rs i r o o' at from (subst (λ q. IsWithWant q r.want o o') spot with_one))

pub all_at : {X : Type 0} (P : X → Type 0) (xs : List X) (i : ℕ) (x : X) → All P xs → slice_get xs i ≡ Some x → P x
all_at P xs i x all at = subst P (get_or_from_slice_get xs i x x at) (all i x (slice_get_within xs i x at))

-- an order with no want more
pub none_more : (orders orders' : List Order) (o : Order) → orders' ≡ orders ++ o ∷ [] → o.wants.items ≡ [] → ((m : ℕ) → wants_of orders m ≡ []) → (m : ℕ) → wants_of orders' m ≡ []
none_more orders orders' o is none all m = subst (λ (z : List Order). wants_of z m ≡ []) (sym is) (go orders all m)
  where
    go : (os : List Order) → ((k : ℕ) → wants_of os k ≡ []) → (k : ℕ) → wants_of (os ++ o ∷ []) k ≡ []
    go [] all zero = none
    go [] all (suc k) = refl
    go (x ∷ os) all zero = all 0
    go (x ∷ os) all (suc k) = go os (λ j. all (suc j)) k

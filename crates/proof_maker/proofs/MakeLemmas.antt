-- What making a proof looks up and leaves.
use Rattle.std.proofs.Common.{◌≡◌, ℕ, zero, suc, ◌+◌, ◌<◌, ◌≤◌, ◌^◌, min, List, [], ◌∷◌, ◌++◌, length, get_or, take, All, Contains, Some, option_map, unwrap_or, slice_get, inl, inr, refl, sym, ap, ◌∙◌, subst, arith}
use Rattle.std.specs.List.{range_with_len}
use Rattle.std.proofs.lemmas.List.{length-map}
use Rattle.std.proofs.lemmas.List.FromFn.{length-range_with_len}
use Rattle.std.proofs.lemmas.Option.{slice_get_within, slice_get-get_or}
use Rattle.tp_base.proofs.Rising.{All-from_Contains}
use Rattle.tp_base.proofs.Lists.{Contains-at, element_at, push_cases, at_Contains}
use Rattle.tree_sem.specs.Trees.{LabelTree}
use Rattle.simple_core.specs.declared.system.System.{System}
use Rattle.simple_core.specs.Pairs.{Pair}
use Rattle.simple_core.proofs.Members.{Contains-range}
use Rattle.proof_check.specs.declared.proofs.Entry.{Entry}
use Rattle.proof_check.specs.declared.proofs.Proof.{Proof}
use Rattle.proof_check.specs.Kept.{kept_steps}
use Rattle.proof_check.specs.Unfolding.{items_count}
use Rattle.proof_check.specs.Validity.{MOST_STEPS}
use Rattle.proof_needs.specs.declared.spots.Spot.{Spot}
use Rattle.proof_needs.specs.declared.spots.Spot.TheVariants.{Page, Added}
use Rattle.proof_needs.specs.declared.needs.Needs.{Needs}
use Rattle.proof_needs.specs.declared.orders.Order.{Order}
use Rattle.proof_needs.specs.declared.orders.Orders.{Orders}
use Rattle.proof_needs.specs.Dealing.{IsOnPage, node_of}
use Rattle.proof_maker.specs.Making.{IsNumbered, AreToured, IsMakeable, IsNodeWant, IsMade, AreEntries, IsProofOf}
use Rattle.proof_needs.specs.Names.{wants_of}
use Rattle.proof_maker.specs.Needs.{IsCanonical}
use Rattle.proof_needs.specs.Orders.{AreDealt}
use Rattle.proof_needs.specs.Spots.{paths_in, triple_of, triples_in, IsSpot}
use Rattle.proof_maker.specs.Working.{IsDone}
use Rattle.proof_maker.proofs.CanonLemmas.{canonical}
use Rattle.proof_maker.proofs.FallLemmas.{named_below, numbered}
use Rattle.proof_needs.proofs.OrderLemmas.{all_at}
use Rattle.proof_maker.proofs.UsedLemmas.{no_longer}

-- one entry more
pub entries_next : (n : Needs) (order : List ℕ) (s : System) (orders : List Order) (i m : ℕ) (entries : List Entry) (entry : Entry) → slice_get order i ≡ Some m → AreEntries n order s orders i entries
    → IsMade n order (wants_of orders m) m entry → entry.steps ≡ min (items_count s (kept_steps entries) entry.items) MOST_STEPS → AreEntries n order s orders (i + 1) (entries ++ entry ∷ [])
entries_next n order s orders i m entries entry at are is steps = record {
  long = let long = are.long in let more = length-push entries entry in omega (arith, long, more);
  made = λ e k x at_k at_x. elim (push_cases entries entry e x at_x) [
    | inl old ↦ are.made e k x at_k old
    | inr (last, same) ↦
        let place : e ≡ i = last ∙ are.long in
        let one : m ≡ k = let a = ap (slice_get order) (sym place) in let b = at in cc in
        subst (λ z. IsMade n order (wants_of orders z) z x) one (subst (IsMade n order (wants_of orders m) m) same is)
  ];
  steps = λ e x at_x. elim (push_cases entries entry e x at_x) [
    | inl old ↦ are.steps e x old ∙ ap (λ xs. min (items_count s (kept_steps xs) x.items) MOST_STEPS) (sym (take-push entries entry e (let lt = slice_get_within entries e x old in omega (arith, lt))))
    | inr (last, same) ↦
        let whole : entries ≡ take e (entries ++ entry ∷ []) = sym (take-push entries entry e (omega (arith, last)) ∙ take_whole entries e (omega (arith, last))) in
        sym (ap (λ (z : Entry). z.steps) same) ∙ steps ∙ ap (λ xs. min (items_count s (kept_steps xs) entry.items) MOST_STEPS) whole
        ∙ ap (λ (z : Entry). min (items_count s (kept_steps (take e (entries ++ entry ∷ []))) z.items) MOST_STEPS) same
  ];
}
  where
    length-push : (xs : List Entry) (x : Entry) → length (xs ++ x ∷ []) ≡ length xs + 1
    length-push [] x = refl
    length-push (y ∷ xs) x = let rest = length-push xs x in omega (arith, rest)

    take-push : (xs : List Entry) (x : Entry) (e : ℕ) → e ≤ length xs → take e (xs ++ x ∷ []) ≡ take e xs
    take-push xs x zero le = refl
    take-push [] x (suc e) le = absurd (omega (arith, le))
    take-push (y ∷ xs) x (suc e) le = ap (λ ys. y ∷ ys) (take-push xs x e (omega (arith, le)))

    take_whole : (xs : List Entry) (e : ℕ) → length xs ≤ e → take e xs ≡ xs
    take_whole [] zero le = refl
    take_whole [] (suc e) le = refl
    take_whole (y ∷ xs) zero le = absurd (omega (arith, le))
    take_whole (y ∷ xs) (suc e) le = ap (λ ys. y ∷ ys) (take_whole xs e (omega (arith, le)))

pub entries_start : (n : Needs) (order : List ℕ) (s : System) (orders : List Order) → AreEntries n order s orders 0 []
entries_start n order s orders = record { long = refl; made = λ e m entry at at'. cc; steps = λ e entry at. cc }

-- by what the code has looked up
pub entries_more : (n : Needs) (order : List ℕ) (s : System) (orders : List Order) (i m : ℕ) (keys wants : List ℕ) (o : Order) (entries new : List Entry) (entry : Entry) → keys ≡ order → slice_get keys i ≡ Some m
    → All (λ k. k < length orders) order → wants ≡ (get_or orders m o).wants.items → AreEntries n order s orders i entries → IsMade n order wants m entry → entry.steps ≡ min (items_count s (kept_steps entries) entry.items) MOST_STEPS
    → new ≡ entries ++ entry ∷ [] → AreEntries n order s orders (i + 1) new
entries_more n order s orders i m keys wants o entries new entry same at within wants_are are is steps pushed =
    let at' : slice_get order i ≡ Some m = ap (λ xs. slice_get xs i) (sym same) ∙ at in
    let there = slice_get-get_or orders m o (all_at (λ k. k < length orders) order i m within at') in
    let wants_is : wants ≡ wants_of orders m = wants_are ∙ ap (λ q. unwrap_or (option_map (λ (x : Order). x.wants.items) q) []) (sym there) in
    subst (AreEntries n order s orders (i + 1)) (sym pushed) (entries_next n order s orders i m entries entry at' are (subst (λ ws. IsMade n order ws m entry) wants_is is) steps)

-- an order of triples is no longer than they are
pub order_short : (count : ℕ) (order : List ℕ) → ((i j x : ℕ) → slice_get order i ≡ Some x → slice_get order j ≡ Some x → i ≡ j) → ((x : ℕ) → Contains order x → x < count) → length order ≤ count
order_short count order distinct inside =
    let le = no_longer order (range_with_len 0 count) distinct (λ x is. Contains-range count x (inside x is)) in
    let long = length-range_with_len 0 count in
    omega (arith, le, long)

module _ (n : Needs) (makeable : IsMakeable n) (o : Orders) (dealt : AreDealt n o) where
  -- what the page's items look up
  pub page_nodes : All (IsNodeWant n) o.page.wants.items
  page_nodes = All-from_Contains (IsNodeWant n) o.page.wants.items (λ i is.
      let k = at_Contains o.page.wants.items i is in
      let w = dealt.page.each k.0 i k.1 in
      let v = node_there w.0.spot w.2 (makeable.sortable.spots w.0 (Contains-at n.wants.keys i w.0 w.1)) in
      (w.0, v.0, w.1, v.1))
    where
      node_there : (q : Spot) → IsOnPage q → IsSpot (paths_in n.nodes.keys) (triples_in n.triples.keys) q → (v : List ℕ) × (slice_get (paths_in n.nodes.keys) (node_of q) ≡ Some v)
      node_there (Page m) on within = element_at (paths_in n.nodes.keys) m within
      node_there (Added m) on within = absurd on

  module _ (order : List ℕ) (toured : AreToured n o order) where
    in_order : IsNumbered (length (triples_in n.triples.keys)) n.wants.keys n.drafts.items o.triples.items o.page.wants.items order
    in_order = makeable.numbered o order dealt toured

    triples_long : length (triples_in n.triples.keys) ≡ length n.triples.keys
    triples_long = length-map n.triples.keys triple_of

    below : (count : ℕ) → count ≡ length n.triples.keys → All (λ m. m < count) order
    below count same = All-from_Contains (λ m. m < count) order (λ m is. subst (λ k. m < k) (triples_long ∙ sym same) (in_order.inside m is))

    pub orders_within : All (λ m. m < length o.triples.items) order
    orders_within = below (length o.triples.items) dealt.count

    pub triples_within : All (λ m. m < length n.triples.keys) order
    triples_within = below (length n.triples.keys) refl

    pub ties_within : All (λ m. m < length n.ties.items) order
    ties_within = below (length n.ties.items) makeable.tie_count

    pub short : length order ≤ length n.triples.keys
    short = subst (λ k. length order ≤ k) triples_long (order_short (length (triples_in n.triples.keys)) order in_order.distinct in_order.inside)

    pub few : length order < 2 ^ 32
    few = let le = short in let lt = makeable.few in omega (arith, le, lt)

module _ (s : System) (page : LabelTree) (known : Pair → Type 0) (target limit : ℕ) (n : Needs) (done : IsDone s page known target limit n) where
  pub makeable : limit < 2 ^ 32 → IsMakeable n
  makeable fits =
      let list = done.working.list in
      let long = length-map n.triples.keys triple_of in
      record {
        sortable = record {
          whole = done.whole;
          wants_distinct = list.wants_distinct;
          nodes_distinct = list.nodes_distinct;
          spots = λ w is. (list.wanted w is).spot;
        };
        named = λ i m d at is.
            subst (λ k. m < k) long (named_below s page n.target known (paths_in n.nodes.keys) (triples_in n.triples.keys) n.ties.items n.wants.keys n.drafts.items list done.working.own done.whole i m d at is);
        tie_count = list.tie_count ∙ long;
        few = let le = done.few in omega (arith, le, fits);
        numbered = λ o order dealt toured. numbered s page known target limit n o done dealt order toured;
      }

  -- the proof that is made is the canonical one, and no longer than the limit
  module _ (p : Proof) (made : IsProofOf s n p) where
    pub canonical_is : IsCanonical s page target p
    canonical_is =
        subst (λ a. IsCanonical s page a p) done.target_is
        (canonical s page n.target known n done.working.list done.working.own done.whole p made (numbered s page known target limit n made.orders done made.dealt made.order made.toured))

    pub within_limit : limit < 2 ^ 32 → length p.entries ≤ limit
    within_limit fits =
        let le = short n (makeable fits) made.orders made.dealt made.order made.toured in
        let few = done.few in
        let long = made.entries.long in
        omega (arith, le, few, long)

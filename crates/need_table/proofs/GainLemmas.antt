-- What an entry asks and gets in a round, by what is new in it.
use Rattle.std.proofs.Common.{◌≡◌, ◌↔◌, ◌⊎◌, ℕ, zero, suc, ◌<◌, ◌≤◌, ◌+◌, ◌-◌, List, [], ◌∷◌, map, drop, length, not, get_or, Option, Some, None, slice_get, option_map, unwrap_or, IsSomeAnd, All, Contains, refl, sym, ap, ◌∙◌, inl, inr, arith, subst}
use Rattle.std.specs.Global.{Vec}
use Rattle.std.specs.List.{filter, flat_map}
use Rattle.std.specs.List.Sorted.{IsStrictlyIncreasing}
use Rattle.std.proofs.lemmas.Bool.{both_ways, cases_Bool, cases_lt}
use Rattle.std.proofs.lemmas.List.Elements.{All-head, All-tail, All-nil, All-cons}
use Rattle.std.proofs.lemmas.List.Sums.{fold-append}
use Rattle.std.proofs.lemmas.List.Kept.{IsStrictlyIncreasing-filter}
use Rattle.std.proofs.lemmas.Option.{get_or_from_slice_get}
use Rattle.tp_base.specs.Classes.{has_class, with_class, union_of}
use Rattle.tp_base.proofs.ClassLemmas.{same_members, has_class-Contains, Contains-has_class, Contains-union_of, IsStrictlyIncreasing-union_of, Contains-cut_to, IsStrictlyIncreasing-cut_to}
use Rattle.tp_base.proofs.Rising.{Contains-here, Contains-behind, Contains-none}
use Rattle.tp_base.proofs.Lists.{Contains-at, at_Contains, Contains-only}
use Rattle.tree_sem.proofs.NodeLemmas.{Contains-map, map-Contains}
use Rattle.simple_core.specs.declared.system.System.{System}
use Rattle.simple_core.specs.declared.rules.Link.{Link}
use Rattle.simple_core.specs.declared.rules.Local.{Local}
use Rattle.simple_core.specs.Labels.{set_of, given_by_rules, given_by_links, visible_in, labels_below}
use Rattle.simple_core.specs.Rounds.{grown, IsFirst}
use Rattle.simple_core.specs.Pairs.{Pair, Asks}
use Rattle.simple_core.proofs.Members.{Among, among_all, filter-Contains, Contains-filter, flat_map-Contains, Contains-flat_map}
use Rattle.simple_core.proofs.LabelLemmas.{IsByLink, given_by_rules-is, is-given_by_rules, given_by_links-is, is-given_by_links, kinds_at-is, is-kinds_at, kinds_at-more, before, local, up, down, next_label-gives, gives-next_label}
use Rattle.simple_core.proofs.RoundLemmas.{set_of-is, is-set_of, labels_below-is, is-labels_below, grown-rises, grown-later, grown-one_more}
use Rattle.simple_core.proofs.RestLemmas.{first_is, first_one}
use Rattle.rule_index.specs.Asking.{IsMore, AreMet, AreMetBy, AsksAnew}
use Rattle.rule_index.proofs.IndexLemmas.{union_of-same}
use Rattle.simple_core.specs.declared.summaries.First.{First}
use Rattle.need_table.specs.declared.entries.Entry.{Entry}
use Rattle.need_table.specs.Tables.{pair_of, atoms_within, atoms_from, fresh_of, labels, replaced, AreInOrder, IsPlaceFrom, IsDone, IsUpTo, IsHeard, IsAskedAt, IsTable}
use Rattle.need_table.specs.Agendas.{AreKnown}
use Rattle.need_table.specs.Turns.{given_at, given_above, IsAsked, IsGained}
use Rattle.need_table.proofs.OrderLemmas.{drop_at, atoms_within-is, is-atoms_within}
use Rattle.need_table.proofs.FillLemmas.{label_now, up_known}
use Rattle.need_table.proofs.ChildLemmas.{some_at}

-- the atoms from the place on at which the last round begins
pub fresh_is : (s : System) (e : Entry) (k place : ℕ) → IsUpTo s e → e.rounds ≡ Some k → IsPlaceFrom e.firsts.items k place → (a : ℕ) → Contains (atoms_from place e.firsts.items) a ↔ IsFirst (labels s (pair_of e)) a (Some k)
fresh_is s e k place so_far rounds found a =
    let firsts = e.firsts.items in
    let known = up_known s e k so_far rounds in
    let atom : First → ℕ = λ f. f.atom in (
      λ there.
          let f = map-Contains atom (drop place firsts) a there in
          let i = at_Contains (drop place firsts) f.0 f.1 in
          let at : slice_get firsts (place + i.0) ≡ Some f.0 = sym (drop_at firsts place i.0 (place + i.0) refl) ∙ i.1 in
          let listed = Contains-at firsts (place + i.0) f.0 at in
          let from = found.from (place + i.0) f.0 (omega arith) at in
          let to : f.0.round ≤ k = subst (λ o. IsDone o f.0.round) rounds (so_far.right f.0 listed).0 in
          let round : f.0.round ≡ k = omega arith in
          subst (λ z. IsFirst (labels s (pair_of e)) z (Some k)) (sym f.2) (subst (λ r. IsFirst (labels s (pair_of e)) f.0.atom (Some r)) round (known.first f.0 listed)),
      λ first.
          let f = known.whole k a (omega arith) first.0 in
          let one : Some f.0.round ≡ Some k = first_one (labels s (pair_of e)) a (Some f.0.round) (Some k) (subst (λ z. IsFirst (labels s (pair_of e)) z (Some f.0.round)) f.2 (known.first f.0 f.1)) first in
          let round : f.0.round ≡ k = cc in
          let i = at_Contains firsts f.0 f.1 in
          elim (cases_lt i.0 place) [
            | inl sooner ↦ let less = found.before i.0 f.0 sooner i.1 in absurd (omega arith)
            | inr behind ↦
                let at : slice_get (drop place firsts) (i.0 - place) ≡ Some f.0 = drop_at firsts place (i.0 - place) i.0 (omega arith) ∙ i.1 in
                subst (λ z. Contains (atoms_from place firsts) z) f.2 (Contains-map atom (drop place firsts) f.0 (Contains-at (drop place firsts) (i.0 - place) f.0 at))
          ],
    )

-- where all of a label is new, what rules give by it
pub met_whole : (rules : List Local) (own : List ℕ) → AreMet rules own own
met_whole rules own r listed needs = inr (some_need r.needs needs)
  where
    some_need : (xs : List ℕ) → All (Contains own) xs → (xs ≡ []) ⊎ ((a : ℕ) × Contains xs a × Contains own a)
    some_need [] all = inl refl
    some_need (x ∷ xs) all = inr (x, Contains-here x x xs refl, All-head (Contains own) x xs all)

module _ (s : System) (q : Pair) (k : ℕ) (fresh : List ℕ) (is_fresh : (a : ℕ) → Contains fresh a ↔ IsFirst (labels s q) a (Some k)) where
  -- an atom of the label is one of the round before, or a new one
  pub old_or_fresh : (m : ℕ) → k ≡ suc m → (a : ℕ) → Contains (labels s q k) a → Contains (labels s q m) a ⊎ Contains fresh a
  old_or_fresh m last a there = elim (cases_Bool (has_class a (labels s q m))) [
    | inl old ↦ inl (Contains-has_class a (labels s q m) old)
    | inr new ↦ inr ((is_fresh a).1 (there, λ n less in_n. both_ways (has_class a (labels s q m)) new (has_class-Contains a (labels s q m) (grown-later s q.0 q.1 n m (omega arith) a in_n))))
  ]

  -- each atom is one of the round before, or one is new
  needs_cases : (m : ℕ) → k ≡ suc m → (needs : List ℕ) → All (Contains (labels s q k)) needs → All (Contains (labels s q m)) needs ⊎ ((a : ℕ) × Contains needs a × Contains fresh a)
  needs_cases m last [] all = inl (All-nil (Contains (labels s q m)))
  needs_cases m last (x ∷ xs) all = elim (old_or_fresh m last x (All-head (Contains (labels s q k)) x xs all)) [
    | inr new ↦ inr (x, Contains-here x x xs refl, new)
    | inl old ↦ elim (needs_cases m last xs (All-tail (Contains (labels s q k)) x xs all)) [
      | inl rest ↦ inl (All-cons (Contains (labels s q m)) x xs old rest)
      | inr (a, among, new) ↦ inr (a, Contains-behind a x xs among, new)
    ]
  ]

  -- after round 0 what rules give without new atoms is there
  pub met_by : 0 < k → AreMetBy s.local (labels s q k) fresh
  met_by later r listed needs = by_round k refl
    where
      by_round : (n : ℕ) → k ≡ n → Contains (labels s q k) r.gives ⊎ ((a : ℕ) × Contains r.needs a × Contains fresh a)
      by_round zero last = absurd (omega arith)
      by_round (suc m) last = elim (needs_cases m last r.needs needs) [
        | inr new ↦ inr new
        | inl old ↦
            let own = labels s q m in
            inl (subst (λ z. Contains (labels s q z) r.gives) (sym last)
            (gives-next_label s q.1 own (labels_below s (grown s m) own) r.gives (local (record { rule = r; listed = listed; needs = old; gives = refl }))))
      ]

  -- where nothing new is looked at by what asks, the same is asked as before
  module _ (m : ℕ) (last : k ≡ suc m) (quiet : (a : ℕ) → Contains fresh a → AsksAnew s a → ⊥) where
    earlier_among : Among (labels s q m) (labels s q k)
    earlier_among = subst (λ z. Among (labels s q m) (labels s q z)) (sym last) (grown-one_more s q.0 q.1 m)

    same_seen : visible_in s (labels s q k) ≡ visible_in s (labels s q m)
    same_seen =
        let late = labels s q k in
        let soon = labels s q m in
        same_members (visible_in s late) (visible_in s soon) (IsStrictlyIncreasing-cut_to s.visible late (grown-rises s k q.0 q.1)) (IsStrictlyIncreasing-cut_to s.visible soon (grown-rises s m q.0 q.1))
        (among_all (visible_in s late) (visible_in s soon) (λ a there.
        let both = (Contains-cut_to s.visible late a).0 there in
        elim (old_or_fresh m last a both.1) [
          | inl old ↦ (Contains-cut_to s.visible soon a).1 (both.0, old)
          | inr new ↦ absurd (quiet a new (inl both.0))
        ]))
        (among_all (visible_in s soon) (visible_in s late) (λ a there.
        let both = (Contains-cut_to s.visible soon a).0 there in
        (Contains-cut_to s.visible late a).1 (both.0, earlier_among a both.1)))

    pub asked_before : (r : Pair) → Asks s (labels s q k) r → Asks s (labels s q m) r
    asked_before r asks =
        let by = kinds_at-is s (labels s q k) r.0 asks.0 in (
          elim (old_or_fresh m last by.spawn.needs by.needs) [
            | inl old ↦ is-kinds_at s (labels s q m) r.0 (record { spawn = by.spawn; listed = by.listed; needs = old; kind = by.kind })
            | inr new ↦ absurd (quiet by.spawn.needs new (inr (by.spawn, by.listed, refl)))
          ],
          asks.1 ∙ same_seen,
        )

    pub asked_still : (r : Pair) → Asks s (labels s q m) r → Asks s (labels s q k) r
    asked_still r asks = (kinds_at-more s (labels s q m) (labels s q k) earlier_among r.0 asks.0, asks.1 ∙ sym same_seen)

-- what an entry asks where it asks the same as before
pub asked_same : (s : System) (pairs : ℕ) (entries : List Entry) (e : Entry) (k : ℕ) (own fresh children : List ℕ) → IsTable s pairs entries → Contains entries e → e.rounds ≡ Some k → 0 < k
    → own ≡ labels s (pair_of e) k → ((a : ℕ) → Contains fresh a ↔ IsFirst (labels s (pair_of e)) a (Some k)) → ((a : ℕ) → Contains fresh a → AsksAnew s a → ⊥) → children ≡ e.children.items
    → IsAsked s entries (pair_of e) k own fresh k children
asked_same s pairs entries e k own fresh children table there rounds some is_own is_fresh quiet same =
    let p = before_one k some in
    let m = p.0 in
    let q = pair_of e in
    let rounds' : e.rounds ≡ Some (suc m) = rounds ∙ ap Some p.1 in
    record {
      label = is_own;
      new = is_fresh;
      since = inr (m, p.1, refl, asked_before s q k fresh is_fresh m p.1 quiet);
      heard = λ r asks. subst (λ (z : List ℕ). IsHeard entries z r) (sym same)
          (table.heard e there m r rounds' (asked_before s q k fresh is_fresh m p.1 quiet r (subst (λ (z : List ℕ). Asks s z r) is_own asks)));
      only = λ j child. asked_more (slice_get entries j) (λ c asks. subst (λ (z : List ℕ). Asks s z (pair_of c)) (sym is_own) (asked_still s q k fresh is_fresh m p.1 quiet (pair_of c) asks))
          (table.only e there m j rounds' (subst (λ (z : List ℕ). Contains z j) same child));
    }
  where
    before_one : (n : ℕ) → 0 < n → (m : ℕ) × (n ≡ suc m)
    before_one zero less = absurd (omega arith)
    before_one (suc m) less = (m, refl)

    asked_more : {P Q : Entry → Type 0} (o : Option Entry) → ((c : Entry) → P c → Q c) → IsSomeAnd o P → IsSomeAnd o Q
    asked_more None more h = absurd h
    asked_more (Some c) more h = more c h

-- the firsts of the entry at a place are in order
pub order_at : (s : System) (pairs : ℕ) (entries : List Entry) (i k : ℕ) (x : Entry) (firsts : List First) → IsTable s pairs entries → IsSomeAnd (slice_get entries i) (λ e. e.rounds ≡ Some k) → x ≡ get_or entries i x
    → firsts ≡ x.firsts.items → AreInOrder firsts
order_at s pairs entries i k x firsts table rounds read is =
    let e = some_at (λ (e : Entry). e.rounds ≡ Some k) (slice_get entries i) rounds in
    let here : x ≡ e.0 = read ∙ get_or_from_slice_get entries i e.0 x e.1 in
    subst AreInOrder (sym (is ∙ ap (λ (z : Entry). z.firsts.items) here)) (table.up_to e.0 (Contains-at entries i e.0 e.1)).order

-- what is asked by the entry at a place
module _ (s : System) (pairs : ℕ) (entries : List Entry) (i k : ℕ) (x : Entry) (table : IsTable s pairs entries) (rounds : IsSomeAnd (slice_get entries i) (λ e. e.rounds ≡ Some k)) (read : x ≡ get_or entries i x) where
  -- the entry, and its label
  read_at : (e : Entry) × (slice_get entries i ≡ Some e) × (x ≡ e) × (e.rounds ≡ Some k) × (e.label ≡ labels s (pair_of e) k)
  read_at =
      let e = some_at (λ (e : Entry). e.rounds ≡ Some k) (slice_get entries i) rounds in
      (e.0, e.1, read ∙ get_or_from_slice_get entries i e.0 x e.1, e.2, label_now s e.0 k (table.up_to e.0 (Contains-at entries i e.0 e.1)) e.2)

  pub own_at : (own : List ℕ) → own ≡ x.label → IsSomeAnd (slice_get entries i) (λ e. own ≡ labels s (pair_of e) k)
  own_at own is =
      let e = read_at in
      subst (λ o. IsSomeAnd o (λ e. own ≡ labels s (pair_of e) k)) (sym e.1) (is ∙ ap (λ (z : Entry). z.label) e.2 ∙ e.4)

  module _ (place : ℕ) (found : IsPlaceFrom x.firsts.items k place) where
    new_at : (e : Entry) → slice_get entries i ≡ Some e → x ≡ e → e.rounds ≡ Some k → (a : ℕ) → Contains (atoms_from place e.firsts.items) a ↔ IsFirst (labels s (pair_of e)) a (Some k)
    new_at e at here rounds_e a = fresh_is s e k place (table.up_to e (Contains-at entries i e at)) rounds_e (subst (λ (z : Entry). IsPlaceFrom z.firsts.items k place) here found) a

    pub same_at : (shown : List First) → shown ≡ drop place x.firsts.items → 0 < k → ((f : First) → Contains shown f → AsksAnew s f.atom → ⊥)
        → IsSomeAnd (slice_get entries i) (λ e. IsAsked s entries (pair_of e) k e.label (atoms_from place e.firsts.items) k e.children.items)
    same_at shown is some quiet =
        let e = read_at in
        let those : shown ≡ drop place e.0.firsts.items = is ∙ ap (λ (z : Entry). drop place z.firsts.items) e.2 in
        subst (λ o. IsSomeAnd o (λ e. IsAsked s entries (pair_of e) k e.label (atoms_from place e.firsts.items) k e.children.items)) (sym e.1)
        (asked_same s pairs entries e.0 k e.0.label (atoms_from place e.0.firsts.items) e.0.children.items table (Contains-at entries i e.0 e.1) e.3 some e.4 (new_at e.0 e.1 e.2 e.3)
        (λ a there asks.
        let f = map-Contains (λ (f : First). f.atom) (drop place e.0.firsts.items) a there in
        quiet f.0 (subst (λ (z : List First). Contains z f.0) (sym those) f.1) (subst (AsksAnew s) f.2 asks)) refl)

    pub anew_at : (new : List Entry) (own children : List ℕ) → own ≡ x.label → ((r : Pair) → Asks s own r → IsHeard new children r) → ((j : ℕ) → Contains children j → IsAskedAt s new own j)
        → IsSomeAnd (slice_get entries i) (λ e. IsAsked s new (pair_of e) k e.label (atoms_from place e.firsts.items) 0 children)
    anew_at new own children is heard only =
        let e = read_at in
        let own_e : own ≡ e.0.label = is ∙ ap (λ (z : Entry). z.label) e.2 in
        subst (λ o. IsSomeAnd o (λ e. IsAsked s new (pair_of e) k e.label (atoms_from place e.firsts.items) 0 children)) (sym e.1) (record {
          label = e.4;
          new = new_at e.0 e.1 e.2 e.3;
          since = inl refl;
          heard = λ r asks. heard r (subst (λ (z : List ℕ). Asks s z r) (sym own_e) asks);
          only = λ j child. subst (λ (z : List ℕ). IsAskedAt s new z j) own_e (only j child);
        })

-- the round is the first one, or another
first_round : (k : ℕ) → (k ≡ 0) ⊎ ((m : ℕ) × (k ≡ suc m))
first_round zero = inl refl
first_round (suc m) = inr (m, refl)

-- what a link gives by an atom of a child
module _ (s : System) (entries : List Entry) (q : Pair) (k : ℕ) (own fresh : List ℕ) (from : ℕ) (children : List ℕ) (asked : IsAsked s entries q k own fresh from children) (known : AreKnown s k entries) where
  child_right : (j a : ℕ) → Contains children j → Contains (given_at s entries from k j) a → Contains (labels s q (suc k)) a
  child_right j a child there =
      let c = some_at (λ (c : Entry). Asks s own (pair_of c)) (slice_get entries j) (asked.only j child) in
      let given : Contains (given_by_links s.down (set_of (atoms_within from k c.0.firsts.items))) a =
      subst (λ (o : Option Entry). Contains (unwrap_or (option_map (λ (e : Entry). given_by_links s.down (set_of (atoms_within from k e.firsts.items))) o) []) a) c.1 there in
      let by = given_by_links-is s.down (set_of (atoms_within from k c.0.firsts.items)) a given in
      let f = atoms_within-is from k c.0.firsts.items by.link.from (set_of-is (atoms_within from k c.0.firsts.items) by.link.from by.from) in
      let first = (known c.0 (Contains-at entries j c.0 c.1)).first f.0 f.1 in
      let label = grown s k c.0.kind c.0.parent in
      let has : Contains label by.link.from = subst (λ z. Contains label z) f.4 (grown-later s c.0.kind c.0.parent f.0.round k f.3 f.0.atom first.0) in
      let asks : Asks s (labels s q k) (pair_of c.0) = subst (λ (z : List ℕ). Asks s z (pair_of c.0)) asked.label c.2 in
      let below : Contains (labels_below s (grown s k) (labels s q k)) label =
      subst (λ (p : List ℕ). Contains (labels_below s (grown s k) (labels s q k)) (grown s k c.0.kind p)) (sym asks.1) (is-labels_below s (grown s k) (labels s q k) c.0.kind asks.0) in
      gives-next_label s q.1 (labels s q k) (labels_below s (grown s k) (labels s q k)) a (down label below (record { link = by.link; listed = by.listed; from = has; to = by.to }))

  -- the atom by which a child gives something stands at one of the places, and counts, or it gave that before
  child_whole : (r : Pair) (a : ℕ) → Asks s own r → IsByLink s.down (labels s r k) a → Contains own a ⊎ Contains (flat_map (given_at s entries from k) children) a
  child_whole r a asks by =
      let heard = asked.heard r asks in
      let c = some_at (λ (c : Entry). pair_of c ≡ r) (slice_get entries heard.0) heard.2 in
      let known_c = known c.0 (Contains-at entries heard.0 c.0 c.1) in
      let label = labels s (pair_of c.0) in
      let in_c : Contains (label k) by.link.from = subst (λ (z : Pair). Contains (labels s z k) by.link.from) (sym c.2) by.from in
      let f = known_c.whole k by.link.from (omega arith) in_c in
      let first = known_c.first f.0 f.1 in
      let to : f.0.round ≤ k = (first_is label (grown-one_more s c.0.kind c.0.parent) f.0.atom f.0.round first k).0 (subst (λ z. Contains (label k) z) (sym f.2) in_c) in
      let counts : from ≤ f.0.round → Contains (flat_map (given_at s entries from k) children) a = λ late.
      let atoms = atoms_within from k c.0.firsts.items in
      let in_atoms : Contains (set_of atoms) by.link.from = is-set_of atoms by.link.from (subst (λ z. Contains atoms z) f.2 (is-atoms_within from k c.0.firsts.items f.0 f.1 late to)) in
      let given : Contains (given_by_links s.down (set_of atoms)) a = is-given_by_links s.down (set_of atoms) a (record { link = by.link; listed = by.listed; from = in_atoms; to = by.to }) in
      Contains-flat_map (given_at s entries from k) children heard.0 a heard.1
      (subst (λ (o : Option Entry). Contains (unwrap_or (option_map (λ (e : Entry). given_by_links s.down (set_of (atoms_within from k e.firsts.items))) o) []) a) (sym c.1) given) in
      elim asked.since [
        | inl all ↦ inr (counts (omega arith))
        | inr (m, last, from_k, same) ↦ elim (cases_lt f.0.round k) [
          | inr now ↦ inr (counts (omega arith))
          | inl soon ↦
              let own_m = labels s q m in
              let asks_m : Asks s own_m r = same r (subst (λ (z : List ℕ). Asks s z r) asked.label asks) in
              let in_m : Contains (label m) by.link.from = subst (λ z. Contains (label m) z) f.2 (grown-later s c.0.kind c.0.parent f.0.round m (omega arith) f.0.atom first.0) in
              let in_r : Contains (grown s m r.0 r.1) by.link.from = subst (λ (z : Pair). Contains (labels s z m) by.link.from) c.2 in_m in
              let below : Contains (labels_below s (grown s m) own_m) (grown s m r.0 r.1) =
              subst (λ (p : List ℕ). Contains (labels_below s (grown s m) own_m) (grown s m r.0 p)) (sym asks_m.1) (is-labels_below s (grown s m) own_m r.0 asks_m.0) in
              let next : Contains (labels s q (suc m)) a =
              gives-next_label s q.1 own_m (labels_below s (grown s m) own_m) a (down (grown s m r.0 r.1) below (record { link = by.link; listed = by.listed; from = in_r; to = by.to })) in
              inl (subst (λ (z : List ℕ). Contains z a) (sym asked.label) (subst (λ z. Contains (labels s q z) a) (sym last) next))
        ]
      ]

  above_right : (a : ℕ) → Contains (given_above s k q.1) a → Contains (labels s q (suc k)) a
  above_right a there = elim (first_round k) [
    | inl start ↦
        let given : Contains (given_by_links s.up q.1) a = subst (λ z. Contains (given_above s z q.1) a) start there in
        gives-next_label s q.1 (labels s q k) (labels_below s (grown s k) (labels s q k)) a (up (given_by_links-is s.up q.1 a given))
    | inr (m, last) ↦ absurd (Contains-none a (subst (λ z. Contains (given_above s z q.1) a) last there))
  ]

  above_whole : (a : ℕ) → IsByLink s.up q.1 a → Contains own a ⊎ Contains (given_above s k q.1) a
  above_whole a by = elim (first_round k) [
    | inl start ↦ inr (subst (λ z. Contains (given_above s z q.1) a) (sym start) (is-given_by_links s.up q.1 a by))
    | inr (m, last) ↦ inl (subst (λ (z : List ℕ). Contains z a) (sym asked.label) (subst (λ z. Contains (labels s q z) a) (sym last)
        (gives-next_label s q.1 (labels s q m) (labels_below s (grown s m) (labels s q m)) a (up by))))
  ]

  pub gains : (n1 n2 n3 : List ℕ) → IsMore own (given_by_rules s.local own) [] n1 → n2 ≡ union_of n1 (given_above s k q.1) → n3 ≡ union_of n2 (flat_map (given_at s entries from k) children) → IsGained s q k own n3
  gains n1 n2 n3 first second third =
      let ups = given_above s k q.1 in
      let downs = flat_map (given_at s entries from k) children in
      let below = labels_below s (grown s k) (labels s q k) in
      let in_1 : (a : ℕ) → Contains n1 a → Contains n3 a = λ a there.
      subst (λ (z : List ℕ). Contains z a) (sym third) ((Contains-union_of n2 downs a).1 (inl (subst (λ (z : List ℕ). Contains z a) (sym second) ((Contains-union_of n1 ups a).1 (inl there))))) in
      let in_2 : (a : ℕ) → Contains ups a → Contains n3 a = λ a there.
      subst (λ (z : List ℕ). Contains z a) (sym third) ((Contains-union_of n2 downs a).1 (inl (subst (λ (z : List ℕ). Contains z a) (sym second) ((Contains-union_of n1 ups a).1 (inr there))))) in
      let in_3 : (a : ℕ) → Contains downs a → Contains n3 a = λ a there. subst (λ (z : List ℕ). Contains z a) (sym third) ((Contains-union_of n2 downs a).1 (inr there)) in
      record {
        rises = subst IsStrictlyIncreasing (sym third) (IsStrictlyIncreasing-union_of n2 downs (subst IsStrictlyIncreasing (sym second) (IsStrictlyIncreasing-union_of n1 ups (first.rises (λ k within. absurd (omega arith))))));
        right = λ a there. elim ((Contains-union_of n2 downs a).0 (subst (λ (z : List ℕ). Contains z a) third there)) [
          | inr of_child ↦
              let j = flat_map-Contains (given_at s entries from k) children a of_child in
              child_right j.0 a j.1 j.2
          | inl other ↦ elim ((Contains-union_of n1 ups a).0 (subst (λ (z : List ℕ). Contains z a) second other)) [
            | inr above ↦ above_right a above
            | inl by_rules ↦ elim (first.right a by_rules) [
              | inl none ↦ absurd (Contains-none a none)
              | inr given ↦
                  gives-next_label s q.1 (labels s q k) below a (local (given_by_rules-is s.local (labels s q k) a (subst (λ (z : List ℕ). Contains (given_by_rules s.local z) a) asked.label given)))
            ]
          ]
        ];
        whole = λ a there. elim (next_label-gives s q.1 (labels s q k) below a there) [
          | before old ↦ inl (subst (λ (z : List ℕ). Contains z a) (sym asked.label) old)
          | local by ↦ elim (first.whole a (subst (λ (z : List ℕ). Contains (given_by_rules s.local z) a) (sym asked.label) (is-given_by_rules s.local (labels s q k) a by))) [
            | inl old ↦ inl old
            | inr new ↦ inr (in_1 a new)
          ]
          | up by ↦ elim (above_whole a by) [ inl old ↦ inl old | inr new ↦ inr (in_2 a new) ]
          | down label in_below by ↦
              let j = labels_below-is s (grown s k) (labels s q k) label in_below in
              let r : Pair = (j.0, visible_in s (labels s q k)) in
              let asks : Asks s own r = subst (λ (z : List ℕ). Asks s z r) (sym asked.label) (j.1, refl) in
              elim (child_whole r a asks (subst (λ (z : List ℕ). IsByLink s.down z a) j.2 by)) [ inl old ↦ inl old | inr new ↦ inr (in_3 a new) ]
        ];
      }

-- what the entry that stands at a place gives, and none
pub given_here : (s : System) (entries : List Entry) (from to j : ℕ) (e : Entry) → slice_get entries j ≡ Some e → given_at s entries from to j ≡ given_by_links s.down (set_of (atoms_within from to e.firsts.items))
given_here s entries from to j e at = ap (λ (o : Option Entry). unwrap_or (option_map (λ (e : Entry). given_by_links s.down (set_of (atoms_within from to e.firsts.items))) o) []) at

pub given_none : (s : System) (entries : List Entry) (from to j : ℕ) → slice_get entries j ≡ None → given_at s entries from to j ≡ []
given_none s entries from to j at = ap (λ (o : Option Entry). unwrap_or (option_map (λ (e : Entry). given_by_links s.down (set_of (atoms_within from to e.firsts.items))) o) []) at

-- one after another
pub union_next : {X : Type 0} (f : X → List ℕ) (next next' : List ℕ) (rest : List X) (j : X) (others : List X) → rest ≡ j ∷ others → next' ≡ union_of next (f j) → union_of next' (flat_map f others) ≡ union_of next (flat_map f rest)
union_next f next next' rest j others split given =
    ap (λ z. union_of z (flat_map f others)) given ∙ sym (fold-append (λ (xs : List ℕ) (y : ℕ). with_class y xs) next (f j) (flat_map f others)) ∙ ap (λ z. union_of next (flat_map f z)) (sym split)

pub union_end : {X : Type 0} (f : X → List ℕ) (next start : List ℕ) (rest all : List X) → length rest ≡ 0 → union_of next (flat_map f rest) ≡ union_of start (flat_map f all) → next ≡ union_of start (flat_map f all)
union_end f next start [] all none same = same
union_end f next start (j ∷ rest) all none same = absurd (omega arith)

-- what atoms give one by one is what they give as a set
pub firsts_linked : (links : List Link) (firsts : List First) (start : List ℕ) → IsStrictlyIncreasing start
    → union_of start (flat_map (λ (f : First). given_by_links links (f.atom ∷ [])) firsts) ≡ union_of start (given_by_links links (set_of (map (λ f. f.atom) firsts)))
firsts_linked links firsts start rises =
    let atom : First → ℕ = λ f. f.atom in
    let give : First → List ℕ = λ f. given_by_links links (f.atom ∷ []) in
    let label = set_of (map atom firsts) in
    union_of-same start (flat_map give firsts) (given_by_links links label) rises
    (λ y there.
    let of = flat_map-Contains give firsts y there in
    let by = given_by_links-is links (of.0.atom ∷ []) y of.2 in
    let from = subst (Contains label) (Contains-only of.0.atom by.link.from by.from) (is-set_of (map atom firsts) of.0.atom (Contains-map atom firsts of.0 of.1)) in
    is-given_by_links links label y (record { link = by.link; listed = by.listed; from = from; to = by.to }))
    (λ y there.
    let by = given_by_links-is links label y there in
    let f = map-Contains atom firsts by.link.from (set_of-is (map atom firsts) by.link.from by.from) in
    Contains-flat_map give firsts f.0 y f.1 (is-given_by_links links (f.0.atom ∷ []) y (record { link = by.link; listed = by.listed; from = Contains-here by.link.from f.0.atom [] f.2; to = by.to })))

-- what is new is the same, whatever of the old stands beside it
pub fresh_same : (own given next : List ℕ) (round : ℕ) → IsStrictlyIncreasing given → IsStrictlyIncreasing next → ((a : ℕ) → Contains given a → Contains next a)
    → ((a : ℕ) → Contains next a → Contains own a ⊎ Contains given a) → fresh_of own round given ≡ fresh_of own round next
fresh_same own given next round up_given up_next right whole =
    let p = λ (a : ℕ). not (has_class a own) in
    let mark : ℕ → First = λ a. record { atom = a; round = round } in
    ap (map mark) (same_members (filter p given) (filter p next) (IsStrictlyIncreasing-filter p given up_given) (IsStrictlyIncreasing-filter p next up_next)
    (among_all (filter p given) (filter p next) (λ a there. let of = filter-Contains p given a there in Contains-filter p next a (right a of.0) of.1))
    (among_all (filter p next) (filter p given) (λ a there.
    let of = filter-Contains p next a there in
    elim (whole a of.0) [
      | inl old ↦ absurd (both_ways (p a) (ap not (has_class-Contains a own old)) of.1)
      | inr new ↦ Contains-filter p given a new of.1
    ])))

-- what is gathered, one after another, for the entry at a place
module _ (s : System) (entries : List Entry) (i k : ℕ) (x : Entry) (fresh : List ℕ) (from : ℕ) (anew : Option (Vec ℕ)) (read : x ≡ get_or entries i x)
    (asked : IsSomeAnd (slice_get entries i) (λ e. IsAsked s entries (pair_of e) k e.label fresh from (replaced anew e.children.items))) where
  pub met_at : 0 < k → AreMetBy s.local x.label fresh
  met_at later =
      let e = some_at (λ (e : Entry). IsAsked s entries (pair_of e) k e.label fresh from (replaced anew e.children.items)) (slice_get entries i) asked in
      let here : x ≡ e.0 = read ∙ get_or_from_slice_get entries i e.0 x e.1 in
      subst (λ (z : Entry). AreMetBy s.local z.label fresh) (sym here) (subst (λ (z : List ℕ). AreMetBy s.local z fresh) (sym e.2.label) (met_by s (pair_of e.0) k fresh e.2.new later))

  -- what is new is in the label
  pub fresh_at : (a : ℕ) → Contains fresh a → Contains x.label a
  fresh_at a there =
      let e = some_at (λ (e : Entry). IsAsked s entries (pair_of e) k e.label fresh from (replaced anew e.children.items)) (slice_get entries i) asked in
      let here : x ≡ e.0 = read ∙ get_or_from_slice_get entries i e.0 x e.1 in
      subst (λ (z : Entry). Contains z.label a) (sym here) (subst (λ (z : List ℕ). Contains z a) (sym e.2.label) ((e.2.new a).0 there).0)

  pub gained_at : (shown : List Entry) (places n0 n1 n2 n3 : List ℕ) → AreKnown s k entries → shown ≡ entries → places ≡ replaced anew x.children.items → n0 ≡ [] → IsMore x.label (given_by_rules s.local x.label) n0 n1
      → n2 ≡ union_of n1 (given_above s k x.parent) → n3 ≡ union_of n2 (flat_map (given_at s shown from k) places) → IsSomeAnd (slice_get entries i) (λ e. IsGained s (pair_of e) k e.label n3)
  gained_at shown places n0 n1 n2 n3 known same_entries same_places none first second third =
      let e = some_at (λ (e : Entry). IsAsked s entries (pair_of e) k e.label fresh from (replaced anew e.children.items)) (slice_get entries i) asked in
      let here : x ≡ e.0 = read ∙ get_or_from_slice_get entries i e.0 x e.1 in
      subst (λ o. IsSomeAnd o (λ e. IsGained s (pair_of e) k e.label n3)) (sym e.1)
      (gains s entries (pair_of e.0) k e.0.label fresh from (replaced anew e.0.children.items) e.2 known n1 n2 n3
      (subst (λ (z : Entry). IsMore z.label (given_by_rules s.local z.label) [] n1) here (subst (λ (z : List ℕ). IsMore x.label (given_by_rules s.local x.label) z n1) none first))
      (second ∙ ap (λ (z : Entry). union_of n1 (given_above s k z.parent)) here)
      (third ∙ ap (λ (z : List Entry). union_of n2 (flat_map (given_at s z from k) places)) same_entries ∙ ap (λ (z : List ℕ). union_of n2 (flat_map (given_at s entries from k) z)) (same_places ∙ ap (λ (z : Entry). replaced anew z.children.items) here)))

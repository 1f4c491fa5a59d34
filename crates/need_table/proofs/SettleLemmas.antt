-- From a table that is worked out to one at rest.
use Rattle.std.proofs.Common.{◌≡◌, ◌≢◌, ℕ, suc, eqb, ◌+◌, ◌<◌, ◌≤◌, List, [], ◌∷◌, map, length, set, take, get_or, Option, Some, None, slice_get, IsSomeAnd, IfSome, Contains, refl, sym, ap, ◌∙◌, inl, inr, arith, subst}
use Rattle.std.specs.List.{filter}
use Rattle.std.proofs.lemmas.Bool.{both_ways, eq-eqb, eqb-true, cases_Bool, cases_order}
use Rattle.std.proofs.lemmas.List.{length-map}
use Rattle.std.proofs.lemmas.Option.{get_or_from_slice_get, slice_get_within}
use Rattle.tp_base.specs.Classes.{has_class}
use Rattle.tp_base.proofs.ClassLemmas.{same_members, has_class-Contains, Contains-has_class}
use Rattle.tp_base.proofs.Rising.{Contains-here, Contains-behind, Contains-cons, Contains-none}
use Rattle.tp_base.proofs.Lists.{Contains-at, at_Contains, at_map, element_at}
use Rattle.tree_sem.proofs.NodeLemmas.{Contains-map, map-Contains}
use Rattle.simple_core.specs.Firsts.{AreFirsts}
use Rattle.simple_core.specs.Labels.{set_of}
use Rattle.simple_core.specs.Rounds.{grown, IsRest, IsFirst}
use Rattle.simple_core.proofs.Members.{among_all, filter-Contains, Contains-filter}
use Rattle.simple_core.proofs.RoundLemmas.{set_of-is, is-set_of, set_of-rises, grown-rises, grown-later}
use Rattle.simple_core.specs.declared.system.System.{System}
use Rattle.simple_core.specs.Pairs.{Pair, Asks, AreDifferent}
use Rattle.simple_core.specs.declared.summaries.First.{First}
use Rattle.need_table.specs.declared.entries.Entry.{Entry}
use Rattle.need_table.specs.declared.agenda.Agenda.{Agenda}
use Rattle.need_table.specs.Rows.{row_in}
use Rattle.need_table.specs.Agendas.{IsGoing}
use Rattle.need_table.specs.Tables.{pair_of, labels, round_in, IsDone, IsUpTo, IsTable, IsMore, IsKept, AllRest, AreInOrder, IsRested, AreRested}
use Rattle.need_table.proofs.FillLemmas.{later_at, set-length, set-here, set-other}
use Rattle.need_table.proofs.ChildLemmas.{some_at, and_at}
use Rattle.need_table.proofs.PlaceLemmas.{pairs_rested}
use Rattle.need_table.proofs.BoundLemmas.{rounds_few}
use Rattle.need_table.proofs.GoingLemmas.{rested, table_rested}

-- the entries before a place are at rest, and the others as they were
pub record AreRestedTo (old now : List Entry) (i : ℕ) : Type 0 where
  pub done : (j : ℕ) (e : Entry) → j < i → slice_get old j ≡ Some e → IsSomeAnd (slice_get now j) (IsRested e)
  pub left : (j : ℕ) → i ≤ j → slice_get now j ≡ slice_get old j
  pub same : length now ≡ length old

-- those below the first are at rest
pub rest_start : (old : List Entry) (first : ℕ) → ((j : ℕ) (e : Entry) → j < first → slice_get old j ≡ Some e → e.rounds ≡ None) → AreRestedTo old old first
rest_start old first resting = record {
  done = λ j e less at. subst (λ o. IsSomeAnd o (IsRested e)) (sym at) (record { pair = refl; label = refl; firsts = refl; rounds = resting j e less at; forgets = λ some. absurd (some (resting j e less at)); at_rest = λ _. refl });
  left = λ j from. refl;
  same = refl;
}

pub rest_step : (old now : List Entry) (i : ℕ) (x x' : Entry) → AreRestedTo old now i → i < length old → x ≡ get_or now i x → IsRested x x' → AreRestedTo old (set now i x') (i + 1)
rest_step old now i x x' so_far less read rested_x = record {
  done = λ j e below at. elim (cases_order j i) [
    | inl here ↦
        let there : slice_get now i ≡ Some e = so_far.left i (omega arith) ∙ ap (slice_get old) (sym here) ∙ at in
        let is : x ≡ e = read ∙ get_or_from_slice_get now i e x there in
        subst (λ o. IsSomeAnd o (IsRested e)) (sym (ap (slice_get (set now i x')) here ∙ set-here now i e x' there)) (subst (λ (z : Entry). IsRested z x') is rested_x)
    | inr (inl before) ↦ subst (λ o. IsSomeAnd o (IsRested e)) (sym (set-other now i j x' (λ is. omega (arith, is, before)))) (so_far.done j e before at)
    | inr (inr behind) ↦ absurd (omega (arith, below, behind))
  ];
  left = λ j from. set-other now i j x' (λ is. omega (arith, is, from)) ∙ so_far.left j (omega (arith, from));
  same = set-length now i x' ∙ so_far.same;
}

pub rested_all : (old now : List Entry) (i : ℕ) → length old ≤ i → AreRestedTo old now i → AreRested old now
rested_all old now i le so_far = record {
  each = λ j e at. let within = slice_get_within old j e at in so_far.done j e (omega (arith, within, le)) at;
  same = so_far.same;
}

more_rested : (old new : List Entry) → AreRested old new → IsMore old new
more_rested old new all = record {
  kept = λ i x at.
      let y = some_at (IsRested x) (slice_get new i) (all.each i x at) in
      subst (λ o. IsSomeAnd o (IsKept x)) (sym y.1) (record {
        pair = y.2.pair;
        rounds = λ k done. subst (λ o. IsDone o k) (sym y.2.rounds) tt;
        at_rest = y.2.at_rest;
      });
  longer = let same = all.same in omega (arith, same);
}

-- what an entry at rest was
was_rested : (old new : List Entry) → AreRested old new → (x : Entry) → Contains new x → (e : Entry) × Contains old e × IsRested e x
was_rested old new all x there =
    let at = at_Contains new x there in
    let same = all.same in
    let within = slice_get_within new at.0 x at.1 in
    let e = element_at old at.0 (omega (arith, within, same)) in
    (e.0, Contains-at old at.0 e.0 e.1, and_at (IsRested e.0) (slice_get new at.0) x at.1 (all.each at.0 e.0 e.1))

up_rested : (s : System) (e x : Entry) → IsRested e x → IsUpTo s (rested e) → IsUpTo s x
up_rested s e x is up = record {
  right = λ f there.
      let first = up.right f (subst (λ (z : List First). Contains z f) is.firsts there) in
      (subst (λ o. IsDone o f.round) (sym is.rounds) tt, subst (λ z. IsFirst (labels s z) f.atom (Some f.round)) (sym is.pair) first.1);
  whole = λ k a done there.
      let f = up.whole k a tt (subst (λ z. Contains (labels s z k) a) is.pair there) in
      (f.0, subst (λ (z : List First). Contains z f.0) (sym is.firsts) f.1, f.2);
  order = subst AreInOrder (sym is.firsts) up.order;
  all = is.label ∙ up.all ∙ ap (λ (z : List First). set_of (map (λ (f : First). f.atom) z)) (sym is.firsts);
}

-- the table at rest
pub record IsSettled (s : System) (pairs : ℕ) (old new : List Entry) : Type 0 where
  pub table : IsTable s pairs new
  pub at_rest : AllRest new
  pub same : map pair_of new ≡ map pair_of old
  pub more : IsMore old new

pub settled : (s : System) (pairs : ℕ) (entries new : List Entry) (g : Agenda) → IsGoing s pairs entries g → ((q : ℕ) → row_in g.due q ≡ []) → AreRested entries new → IsSettled s pairs entries new
settled s pairs entries new g go nothing is =
    let all = table_rested s pairs entries g go nothing in
    let table = all.0 in
    let pairs_same = pairs_rested entries new is in
    let same : map pair_of new ≡ map pair_of (map rested entries) = pairs_same ∙ sym all.2 in
    let rest : AllRest new = λ x there. let e = was_rested entries new is x there in e.2.rounds in
    record {
      table = record {
        sound = table.sound;
        up_to = λ x there. let e = was_rested entries new is x there in up_rested s e.0 x e.2 (table.up_to (rested e.0) (Contains-map rested entries e.0 e.1));
        asked = λ x there k r done asks.
            let e = was_rested entries new is x there in
            subst (λ (z : List Pair). Contains z r) (sym same) (table.asked (rested e.0) (Contains-map rested entries e.0 e.1) k r tt (subst (λ z. Asks s (labels s z k) r) e.2.pair asks));
        heard = λ x there k r at asks. let never : None ≡ Some (suc k) = sym (rest x there) ∙ at in cc;
        only = λ x there k j at child. let never : None ≡ Some (suc k) = sym (rest x there) ∙ at in absurd (cc);
        different = subst AreDifferent (sym same) table.different;
        few = let few = table.few in let long = is.same in omega (arith, few, long, length-map entries rested);
      };
      at_rest = rest;
      same = pairs_same;
      more = more_rested entries new is;
    }

-- the entries that were there before, where all were at rest
pub old_ones : (old new : List Entry) → AllRest old → IsMore old new → take (length old) new ≡ old
old_ones old new rest more = go old new (λ i e at. let y = later_at old new i e more at in y.1 ∙ ap Some (y.2.at_rest (rest e (Contains-at old i e at))))
  where
    go : (old new : List Entry) → ((i : ℕ) (e : Entry) → slice_get old i ≡ Some e → slice_get new i ≡ Some e) → take (length old) new ≡ old
    go [] new each = refl
    go (x ∷ xs) [] each = let never : None ≡ Some x = each 0 x refl in cc
    go (x ∷ xs) (y ∷ ys) each =
        let both : Some y ≡ Some x = each 0 x refl in
        let first : y ≡ x = cc in
        let rest = go xs ys (λ i e at. each (suc i) e at) in
        λ i. first i ∷ rest i

-- the last round of some
last_round : List First → ℕ
last_round [] = 0
last_round (f ∷ fs) = f.round + last_round fs

last_is : (fs : List First) (f : First) → Contains fs f → f.round ≤ last_round fs
unfolding last_round
last_is [] f there = absurd (Contains-none f there)
last_is (g ∷ fs) f there = elim ((Contains-cons f g fs).0 there) [
  | inl here ↦ let same : f.round ≡ g.round = ap (λ (z : First). z.round) here in omega arith
  | inr behind ↦ let rest = last_is fs f behind in omega arith
]

-- the atoms of an entry at rest
rest_atoms : (s : System) (e : Entry) → IsUpTo s e → e.rounds ≡ None → IsRest s e.kind e.parent (set_of (map (λ f. f.atom) e.firsts.items))
rest_atoms s e up none =
    let atoms = map (λ (f : First). f.atom) e.firsts.items in
    let k = last_round e.firsts.items in
    let label = grown s k e.kind e.parent in
    let all : (m a : ℕ) → Contains (grown s m e.kind e.parent) a → Contains (set_of atoms) a = λ m a there.
    let f = up.whole m a (subst (λ o. IsDone o m) (sym none) tt) there in
    is-set_of atoms a (subst (λ z. Contains atoms z) f.2 (Contains-map (λ (f : First). f.atom) e.firsts.items f.0 f.1)) in
    record {
      reached = (
        k,
        same_members (set_of atoms) label (set_of-rises atoms) (grown-rises s k e.kind e.parent)
            (among_all (set_of atoms) label (λ a there.
            let f = map-Contains (λ (f : First). f.atom) e.firsts.items a (set_of-is atoms a there) in
            let first = (up.right f.0 f.1).1 in
            subst (λ z. Contains label z) (sym f.2) (grown-later s e.kind e.parent f.0.round k (last_is e.firsts.items f.0 f.1) f.0.atom first.0)))
            (among_all label (set_of atoms) (λ a there. all k a there)),
      );
      whole = λ m. among_all (grown s m e.kind e.parent) (set_of atoms) (λ a there. all m a there);
    }

-- and its label
pub rest_label : (s : System) (e : Entry) → IsUpTo s e → e.rounds ≡ None → IsRest s e.kind e.parent e.label
rest_label s e up none = subst (λ (z : List ℕ). IsRest s e.kind e.parent z) (sym up.all) (rest_atoms s e up none)

pub label_at_rest : (s : System) (pairs : ℕ) (entries : List Entry) (i : ℕ) (q : Pair) (x : Entry) → IsTable s pairs entries → AllRest entries → IsSomeAnd (slice_get entries i) (λ e. pair_of e ≡ q)
    → x ≡ get_or entries i x → IsRest s q.0 q.1 x.label
label_at_rest s pairs entries i q x table rest at read =
    let e = some_at (λ e. pair_of e ≡ q) (slice_get entries i) at in
    let here : x ≡ e.0 = read ∙ get_or_from_slice_get entries i e.0 x e.1 in
    let there = Contains-at entries i e.0 e.1 in
    subst (λ (z : Entry). IsRest s q.0 q.1 z.label) (sym here)
    (subst (λ (z : Pair). IsRest s z.0 z.1 e.0.label) e.2 (rest_label s e.0 (table.up_to e.0 there) (rest e.0 there)))

-- the round that stands with an atom is its first
round_in-some : (fs : List First) (a r : ℕ) → round_in fs a ≡ Some r → (f : First) × Contains fs f × (f.atom ≡ a) × (f.round ≡ r)
round_in-some [] a r is = cc
round_in-some (f ∷ fs) a r is = elim (cases_Bool (eqb f.atom a)) [
  | inl same ↦ let here : Some f.round ≡ Some r = rw same at is in (f, Contains-here f f fs refl, eqb-true f.atom a same, cc)
  | inr other ↦ let rest = round_in-some fs a r (rw other at is) in (rest.0, Contains-behind rest.0 f fs rest.1, rest.2, rest.3)
]

round_in-none : (fs : List First) (a : ℕ) → round_in fs a ≡ None → (f : First) → Contains fs f → f.atom ≢ a
round_in-none [] a is f there = absurd (Contains-none f there)
round_in-none (g ∷ fs) a is f there = elim (cases_Bool (eqb g.atom a)) [
  | inl same ↦ let never : Some g.round ≡ None = rw same at is in cc
  | inr other ↦ elim ((Contains-cons f g fs).0 there) [
    | inl here ↦ λ e. both_ways (eqb g.atom a) other (eq-eqb g.atom a (ap (λ (z : First). z.atom) (sym here) ∙ e))
    | inr behind ↦ round_in-none fs a (rw other at is) f behind
  ]
]

-- none stands with an atom that the label doesn't have
pub round_absent : (label : List ℕ) (fs : List First) (a : ℕ) → label ≡ set_of (map (λ f. f.atom) fs) → (Contains label a → ⊥) → None ≡ round_in fs a
round_absent label fs a is absent = elim (round_in fs a) as (λ o. round_in fs a ≡ o → None ≡ o) [
  | None ↦ λ _. refl
  | Some r ↦ λ found.
      let f = round_in-some fs a r found in
      let there : Contains (map (λ (f : First). f.atom) fs) a = subst (λ z. Contains (map (λ (f : First). f.atom) fs) z) f.2 (Contains-map (λ (f : First). f.atom) fs f.0 f.1) in
      absurd (absent (subst (λ (z : List ℕ). Contains z a) (sym is) (is-set_of (map (λ (f : First). f.atom) fs) a there)))
] refl

-- the label of an entry has the atoms of its firsts
pub label_of_firsts : (s : System) (pairs : ℕ) (entries : List Entry) (i : ℕ) (q : Pair) (x : Entry) → IsTable s pairs entries → slice_get (map pair_of entries) i ≡ Some q → x ≡ get_or entries i x
    → x.label ≡ set_of (map (λ f. f.atom) x.firsts.items)
label_of_firsts s pairs entries i q x table at read =
    let e = at_map pair_of entries i q at in
    let here : x ≡ e.0 = read ∙ get_or_from_slice_get entries i e.0 x e.1 in
    subst (λ (z : Entry). z.label ≡ set_of (map (λ f. f.atom) z.firsts.items)) (sym here) (table.up_to e.0 (Contains-at entries i e.0 e.1)).all

pub first_in_rest : (s : System) (e : Entry) (a : ℕ) (r : Option ℕ) → IsUpTo s e → e.rounds ≡ None → round_in e.firsts.items a ≡ r → IsFirst (labels s (pair_of e)) a r
first_in_rest s e a None up none is = λ k there.
    let f = up.whole k a (subst (λ o. IsDone o k) (sym none) tt) there in
    round_in-none e.firsts.items a is f.0 f.1 f.2
first_in_rest s e a (Some r) up none is =
    let f = round_in-some e.firsts.items a r is in
    let first = (up.right f.0 f.1).1 in
    subst (λ z. IsFirst (labels s (pair_of e)) a (Some z)) f.3 (subst (λ z. IsFirst (labels s (pair_of e)) z (Some f.0.round)) f.2 first)

pub round_bound : (s : System) (pairs : ℕ) (entries : List Entry) (e : Entry) (a : ℕ) (r : Option ℕ) → IsTable s pairs entries → AllRest entries → pairs < 4294967296 → Contains entries e → round_in e.firsts.items a ≡ r → IfSome r (λ k. k < 4611686018427387904)
round_bound s pairs entries e a None table rest fits there is = tt
round_bound s pairs entries e a (Some r) table rest fits there is =
    let f = round_in-some e.firsts.items a r is in
    let few = rounds_few s pairs entries table f.0.round (λ x in_entries. subst (λ o. IsDone o f.0.round) (sym (rest x in_entries)) tt) e f.0 there f.1 (omega arith) in
    let room = table.few in
    let same = f.3 in
    omega arith

pub first_known : (s : System) (pairs : ℕ) (entries : List Entry) (i : ℕ) (q : Pair) (x : Entry) (a : ℕ) (r : Option ℕ) → IsTable s pairs entries → AllRest entries
    → slice_get (map pair_of entries) i ≡ Some q → x ≡ get_or entries i x → r ≡ round_in x.firsts.items a → IsFirst (labels s q) a r × (pairs < 4294967296 → IfSome r (λ k. k < 4611686018427387904))
first_known s pairs entries i q x a r table rest at read is =
    let e = at_map pair_of entries i q at in
    let here : x ≡ e.0 = read ∙ get_or_from_slice_get entries i e.0 x e.1 in
    let there = Contains-at entries i e.0 e.1 in
    let round : round_in e.0.firsts.items a ≡ r = sym (is ∙ ap (λ (z : Entry). round_in z.firsts.items a) here) in (
      subst (λ (z : Pair). IsFirst (labels s z) a r) e.2 (first_in_rest s e.0 a r (table.up_to e.0 there) (rest e.0 there) round),
      λ fits. round_bound s pairs entries e.0 a r table rest fits there round,
    )

-- the visible ones among the firsts of an entry at rest
visible_in_rest : (s : System) (e : Entry) → IsUpTo s e → e.rounds ≡ None → AreFirsts s.visible (labels s (pair_of e)) (filter (λ f. has_class f.atom s.visible) e.firsts.items)
visible_in_rest s e up none =
    let is_visible = λ (f : First). has_class f.atom s.visible in
    record {
      right = λ f there.
          let both = filter-Contains is_visible e.firsts.items f there in
          (Contains-has_class f.atom s.visible both.1, (up.right f both.0).1);
      whole = λ a k visible there.
          let f = up.whole k a (subst (λ o. IsDone o k) (sym none) tt) there in
          (f.0, Contains-filter is_visible e.firsts.items f.0 f.1 (has_class-Contains f.0.atom s.visible (subst (Contains s.visible) (sym f.2) visible)), f.2);
    }

pub visible_known : (s : System) (pairs : ℕ) (entries : List Entry) (i : ℕ) (q : Pair) (x : Entry) (kept : List First) → IsTable s pairs entries → AllRest entries
    → slice_get (map pair_of entries) i ≡ Some q → x ≡ get_or entries i x → kept ≡ filter (λ f. has_class f.atom s.visible) x.firsts.items → AreFirsts s.visible (labels s q) kept
visible_known s pairs entries i q x kept table rest at read is =
    let e = at_map pair_of entries i q at in
    let here : x ≡ e.0 = read ∙ get_or_from_slice_get entries i e.0 x e.1 in
    let there = Contains-at entries i e.0 e.1 in
    let is_visible = λ (f : First). has_class f.atom s.visible in
    let same : kept ≡ filter is_visible e.0.firsts.items = is ∙ ap (λ (z : Entry). filter is_visible z.firsts.items) here in
    subst (λ (z : List First). AreFirsts s.visible (labels s q) z) (sym same)
    (subst (λ (z : Pair). AreFirsts s.visible (labels s z) (filter is_visible e.0.firsts.items)) e.2 (visible_in_rest s e.0 (table.up_to e.0 there) (rest e.0 there)))

-- the table after a refusal
pub as_before : (old new cut : List Entry) (n : ℕ) → AllRest old → IsMore old new → n ≡ length old → cut ≡ take n new → cut ≡ old
as_before old new cut n rest more count is = is ∙ ap (λ k. take k new) count ∙ old_ones old new rest more

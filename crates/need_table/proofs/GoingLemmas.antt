-- A table with an agenda: what is known of labels, what stays so when an entry has one round more, and the table at rest in the end.
use Rattle.std.proofs.Common.{◌≡◌, ◌≢◌, ◌⊎◌, ℕ, zero, suc, ◌-◌, ◌<◌, ◌≤◌, List, [], ◌∷◌, ◌++◌, map, set, length, Option, Some, None, slice_get, IsSomeAnd, Contains, refl, sym, ap, ◌∙◌, inl, inr, arith, subst, length-append}
use Rattle.std.proofs.lemmas.Bool.{cases_lt, cases_order}
use Rattle.std.proofs.lemmas.List.{length-map, append-nil}
use Rattle.std.proofs.lemmas.List.Elements.{Contains-append_cases}
use Rattle.std.proofs.lemmas.Option.{slice_get_within}
use Rattle.tp_base.proofs.ClassLemmas.{same_members}
use Rattle.tp_base.proofs.Rising.{Contains-cons, Contains-none}
use Rattle.tp_base.proofs.Lists.{Contains-at, at_Contains}
use Rattle.tree_sem.proofs.NodeLemmas.{map-Contains}
use Rattle.simple_core.specs.declared.system.System.{System}
use Rattle.simple_core.specs.Labels.{labels_below, next_label}
use Rattle.simple_core.specs.Rounds.{grown}
use Rattle.simple_core.specs.Pairs.{Pair, Asks, AreDifferent}
use Rattle.simple_core.proofs.Members.{among_all}
use Rattle.simple_core.proofs.RoundLemmas.{grown-rises, grown-later, grown-one_more}
use Rattle.simple_core.proofs.RestLemmas.{labels_below-alike, first_is}
use Rattle.simple_core.specs.declared.summaries.First.{First}
use Rattle.need_table.specs.declared.entries.Entry.{Entry}
use Rattle.need_table.specs.declared.agenda.Agenda.{Agenda}
use Rattle.need_table.specs.Rows.{row_in, IsRicher, IsEmptyBelow, IsDue}
use Rattle.need_table.specs.Agendas.{IsBehind, AreKnown, Hears, IsGoing, IsAppended}
use Rattle.need_table.specs.Tables.{pair_of, labels, raised, IsDone, IsHeard, IsAskedAt, IsUpTo, IsTable, IsMore, AllRest}
use Rattle.need_table.proofs.OrderLemmas.{appended_at}
use Rattle.need_table.proofs.FillLemmas.{set-alike, set-length, set-here, set-other, set-Contains, place_set, heard_set, more_set}
use Rattle.need_table.proofs.ChildLemmas.{some_at}
use Rattle.need_table.proofs.RowLemmas.{due_later}

module _ (s : System) (pairs : ℕ) (entries : List Entry) (g : Agenda) (go : IsGoing s pairs entries g) (k : ℕ) (early : IsEmptyBelow k g.due) where
  not_early : (q i : ℕ) → q < k → Contains (row_in g.due q) i → ⊥
  not_early q i less there = Contains-none i (subst (λ (z : List ℕ). Contains z i) (early q less) there)

  -- an entry or what it asks has the same label in the round m as in the last one that the entry knows, if nothing made it due
  unchanged : (i n m : ℕ) (e : Entry) → slice_get entries i ≡ Some e → e.rounds ≡ Some (suc n) → n ≤ m → m < k → (j : ℕ) (c : Entry) → Hears i e j → slice_get entries j ≡ Some c
      → ((a : ℕ) → Contains (labels s (pair_of c) m) a → (f : First) × Contains c.firsts.items f × (f.atom ≡ a)) → labels s (pair_of c) m ≡ labels s (pair_of c) n
  unchanged i n m e at rounds from less j c hears at_c whole =
      let late = grown s m c.kind c.parent in
      let soon = grown s n c.kind c.parent in
      same_members late soon (grown-rises s m c.kind c.parent) (grown-rises s n c.kind c.parent)
      (among_all late soon (λ a there.
      let f = whole a there in
      let first = ((go.table.up_to c (Contains-at entries j c at_c)).right f.0 f.1).1 in
      let le = (first_is (labels s (pair_of c)) (grown-one_more s c.kind c.parent) f.0.atom f.0.round first m).0 (subst (λ z. Contains (labels s (pair_of c) m) z) (sym f.2) there) in
      elim (cases_lt n f.0.round) [
        | inr old ↦ subst (λ z. Contains soon z) f.2 (grown-later s c.kind c.parent f.0.round n old f.0.atom first.0)
        | inl new ↦
            let due = go.dues i (suc n) j e c f.0 at rounds hears at_c f.1 new in
            let to = due.2 in
            absurd (not_early due.0 i (omega arith) due.3)
      ]))
      (among_all soon late (grown-later s c.kind c.parent n m from))

  -- no round was worked out, and a later one is not due
  not_start : (i : ℕ) (e : Entry) → slice_get entries i ≡ Some e → e.rounds ≡ Some 0 → 0 < k → ⊥
  not_start i e at rounds less = not_early 0 i less (go.starting i e at rounds)

  whole_at : (m : ℕ) → m ≤ k → (i : ℕ) (e : Entry) → slice_get entries i ≡ Some e → (a : ℕ) → Contains (labels s (pair_of e) m) a → (f : First) × Contains e.firsts.items f × (f.atom ≡ a)
  whole_at zero le i e at a there = (go.table.up_to e (Contains-at entries i e at)).whole zero a (start_done e.rounds) there
    where
      start_done : (o : Option ℕ) → IsDone o 0
      start_done None = tt
      start_done (Some n) = omega arith
  whole_at (suc m) le i e at a there =
      let up = go.table.up_to e (Contains-at entries i e at) in
      elim e.rounds as (λ o. e.rounds ≡ o → (f : First) × Contains e.firsts.items f × (f.atom ≡ a)) [
        | None ↦ λ is. up.whole (suc m) a (subst (λ o. IsDone o (suc m)) (sym is) tt) there
        | Some zero ↦ λ is. absurd (not_start i e at is (omega arith))
        | Some (suc n) ↦ λ is. elim (cases_lt n m) [
          | inr done ↦ up.whole (suc m) a (subst (λ o. IsDone o (suc m)) (sym is) (omega arith)) there
          | inl less ↦
              let q = pair_of e in
              let own = labels s q n in
              let same : labels s q m ≡ own = unchanged i n m e at is (omega arith) (omega arith) i e (inl refl) at (whole_at m (omega arith) i e at) in
              let below : labels_below s (grown s m) own ≡ labels_below s (grown s n) own = labels_below-alike s (grown s m) (grown s n) own (λ r asks.
              let heard = go.table.heard e (Contains-at entries i e at) n r is asks in
              let c = some_at (λ c. pair_of c ≡ r) (slice_get entries heard.0) heard.2 in
              subst (λ (z : Pair). labels s z m ≡ labels s z n) c.2
              (unchanged i n m e at is (omega arith) (omega arith) heard.0 c.0 (inr heard.1) c.1 (whole_at m (omega arith) heard.0 c.0 c.1))) in
              let one : next_label s q.1 (labels s q m) (labels_below s (grown s m) (labels s q m)) ≡ next_label s q.1 own (labels_below s (grown s m) own) =
              ap (λ (z : List ℕ). next_label s q.1 z (labels_below s (grown s m) z)) same in
              let next : labels s q (suc m) ≡ labels s q (suc n) = one ∙ ap (λ (z : List (List ℕ)). next_label s q.1 own z) below in
              up.whole (suc n) a (subst (λ o. IsDone o (suc n)) (sym is) (omega arith)) (subst (λ (z : List ℕ). Contains z a) next there)
        ]
      ] refl

  -- the labels are known up to the round k
  pub known : AreKnown s k entries
  known e there =
      let at = at_Contains entries e there in
      record {
        first = λ f in_e. ((go.table.up_to e there).right f in_e).1;
        whole = λ m a le in_m. whole_at m le at.0 e at.1 a in_m;
      }

  -- the label of a round that is known already stays up to the round before k
  still : (i n m : ℕ) (e : Entry) → slice_get entries i ≡ Some e → e.rounds ≡ Some (suc n) → n ≤ m → m < k → labels s (pair_of e) m ≡ labels s (pair_of e) n
  still i n m e at rounds from less = unchanged i n m e at rounds from less i e (inl refl) at (whole_at m (omega arith) i e at)

  -- what an entry asks in a round before k stands at one of the places that it knows, or was asked before
  asked_early : (i n m : ℕ) (e : Entry) (r : Pair) → slice_get entries i ≡ Some e → e.rounds ≡ Some n → m < k → Asks s (labels s (pair_of e) m) r → Contains (map pair_of entries) r
  asked_early i zero m e r at rounds less asks = absurd (not_start i e at rounds (omega arith))
  asked_early i (suc n) m e r at rounds less asks = elim (cases_lt m n) [
    | inl soon ↦ go.table.asked e (Contains-at entries i e at) m r (subst (λ o. IsDone o (suc m)) (sym rounds) (omega arith)) asks
    | inr late ↦
        let same = still i n m e at rounds late less in
        go.table.asked e (Contains-at entries i e at) n r (subst (λ o. IsDone o (suc n)) (sym rounds) (omega arith)) (subst (λ (z : List ℕ). Asks s z r) same asks)
  ]

  heard_early : (i n m : ℕ) (e : Entry) (r : Pair) → slice_get entries i ≡ Some e → e.rounds ≡ Some n → n ≤ suc m → m < k → Asks s (labels s (pair_of e) m) r → IsHeard entries e.children.items r
  heard_early i zero m e r at rounds from less asks = absurd (not_start i e at rounds (omega arith))
  heard_early i (suc n) m e r at rounds from less asks =
      let same = still i n m e at rounds (omega arith) less in
      go.table.heard e (Contains-at entries i e at) n r rounds (subst (λ (z : List ℕ). Asks s z r) same asks)

  -- and nothing else stands there
  only_early : (i n m j : ℕ) (e : Entry) → slice_get entries i ≡ Some e → e.rounds ≡ Some n → n ≤ suc m → m < k → Contains e.children.items j → IsAskedAt s entries (labels s (pair_of e) m) j
  only_early i zero m j e at rounds from less child = absurd (not_start i e at rounds (omega arith))
  only_early i (suc n) m j e at rounds from less child =
      let same = still i n m e at rounds (omega arith) less in
      subst (λ (z : List ℕ). IsAskedAt s entries z j) (sym same) (go.table.only e (Contains-at entries i e at) n j rounds child)

-- an entry in another's place, as it is read
set_cases : (entries : List Entry) (i : ℕ) (e e' : Entry) (j : ℕ) (x : Entry) → slice_get entries i ≡ Some e → slice_get (set entries i e') j ≡ Some x → ((j ≡ i) × (x ≡ e')) ⊎ ((j ≢ i) × (slice_get entries j ≡ Some x))
set_cases entries i e e' j x at at_j = elim (cases_order j i) [
  | inl same ↦
      let both : Some x ≡ Some e' = sym at_j ∙ ap (slice_get (set entries i e')) same ∙ set-here entries i e e' at in
      inl (same, cc)
  | inr (inl less) ↦ let other : j ≢ i = λ e. omega arith in inr (other, sym (set-other entries i j e' other) ∙ at_j)
  | inr (inr more) ↦ let other : j ≢ i = λ e. omega arith in inr (other, sym (set-other entries i j e' other) ∙ at_j)
]

-- an entry that is not at rest stands from the first on
from_first : (s : System) (pairs : ℕ) (entries : List Entry) (g : Agenda) → IsGoing s pairs entries g → (i n : ℕ) (e : Entry) → slice_get entries i ≡ Some e → e.rounds ≡ Some n → g.first ≤ i
from_first s pairs entries g go i n e at rounds = elim (cases_lt i g.first) [
  | inl below ↦ let never : None ≡ Some n = sym (go.resting i e below at) ∙ rounds in cc
  | inr from ↦ from
]

-- nothing new for an entry up to the round k
module _ (s : System) (pairs : ℕ) (entries : List Entry) (g : Agenda) (go : IsGoing s pairs entries g) (k : ℕ) (early : IsEmptyBelow k g.due) (i n : ℕ) (e : Entry) (at : slice_get entries i ≡ Some e) (rounds : e.rounds ≡ Some n) (le : n ≤ k) where
  raised_up : IsUpTo s (raised k e)
  raised_up =
      let up = go.table.up_to e (Contains-at entries i e at) in
      record {
        right = λ f there. let was = up.right f there in let old : f.round ≤ n = subst (λ o. IsDone o f.round) rounds was.0 in (omega arith, was.1);
        whole = λ m a done there. whole_at s pairs entries g go k early m done i e at a there;
        order = up.order;
        all = up.all;
      }

  raised_table : IsTable s pairs (set entries i (raised k e))
  raised_table =
      let table = go.table in
      let e' = raised k e in
      let same = set-alike pair_of entries i e e' at refl in
      record {
        sound = table.sound;
        up_to = λ x there. elim (set-Contains entries i e' x there) [
          | inl new ↦ subst (λ (z : Entry). IsUpTo s z) (sym new) raised_up
          | inr old ↦ table.up_to x old
        ];
        asked = λ x there m r done asks. subst (λ (z : List Pair). Contains z r) (sym same) (elim (set-Contains entries i e' x there) [
          | inr old ↦ table.asked x old m r done asks
          | inl new ↦
              let done' : suc m ≤ k = subst (λ o. IsDone o (suc m)) (ap (λ (z : Entry). z.rounds) new) done in
              asked_early s pairs entries g go k early i n m e r at rounds (omega arith) (subst (λ (z : Entry). Asks s (labels s (pair_of z) m) r) new asks)
        ]);
        heard = λ x there m r at_m asks. elim (set-Contains entries i e' x there) [
          | inr old ↦ heard_set entries i e e' x.children.items r at refl (table.heard x old m r at_m asks)
          | inl new ↦
              let last : k ≡ suc m = let both : Some k ≡ Some (suc m) = sym (ap (λ (z : Entry). z.rounds) new) ∙ at_m in cc in
              let heard = heard_early s pairs entries g go k early i n m e r at rounds (omega arith) (omega arith) (subst (λ (z : Entry). Asks s (labels s (pair_of z) m) r) new asks) in
              subst (λ (z : Entry). IsHeard (set entries i e') z.children.items r) (sym new) (heard_set entries i e e' e.children.items r at refl heard)
        ];
        only = λ x there m j at_m child. elim (set-Contains entries i e' x there) [
          | inr old ↦ place_set (Asks s (labels s (pair_of x) m)) entries i e e' j at refl (table.only x old m j at_m child)
          | inl new ↦
              let last : k ≡ suc m = let both : Some k ≡ Some (suc m) = sym (ap (λ (z : Entry). z.rounds) new) ∙ at_m in cc in
              let only = only_early s pairs entries g go k early i n m j e at rounds (omega arith) (omega arith) (subst (λ (z : Entry). Contains z.children.items j) new child) in
              subst (λ (z : Entry). IsAskedAt s (set entries i e') (labels s (pair_of z) m) j) (sym new) (place_set (Asks s (labels s (pair_of e) m)) entries i e e' j at refl only)
        ];
        different = subst AreDifferent (sym same) table.different;
        few = let few = table.few in omega (arith, set-length entries i e');
      }

  -- what is read at a place has the same atoms as before
  firsts_before : (j : ℕ) (c : Entry) → slice_get (set entries i (raised k e)) j ≡ Some c → (c' : Entry) × (slice_get entries j ≡ Some c') × (c'.firsts.items ≡ c.firsts.items)
  firsts_before j c at_j = elim (set_cases entries i e (raised k e) j c at at_j) [
    | inl (here, is) ↦ (e, ap (slice_get entries) here ∙ at, ap (λ (z : Entry). z.firsts.items) (sym is))
    | inr (other, old) ↦ (c, old, refl)
  ]

  pub going_raised : IsGoing s pairs (set entries i (raised k e)) g
  going_raised = record {
    table = raised_table;
    within = let le = go.within in omega (arith, set-length entries i (raised k e));
    resting = λ j x less at_j. elim (set_cases entries i e (raised k e) j x at at_j) [
      | inl (here, is) ↦ let le = from_first s pairs entries g go i n e at rounds in absurd (omega arith)
      | inr (other, old) ↦ go.resting j x less old
    ];
    starting = λ j x at_j start. elim (set_cases entries i e (raised k e) j x at at_j) [
      | inl (here, is) ↦
          let none : k ≡ 0 = let both : Some k ≡ Some 0 = sym (ap (λ (z : Entry). z.rounds) is) ∙ start in cc in
          let zero : n ≡ 0 = omega arith in
          subst (λ z. Contains (row_in g.due 0) z) (sym here) (go.starting i e at (rounds ∙ ap Some zero))
      | inr (other, old) ↦ go.starting j x old start
    ];
    dues = λ a m j x c f at_a rounds_a hears at_j there from.
        let c' = firsts_before j c at_j in
        let there' : Contains c'.0.firsts.items f = subst (λ (z : List First). Contains z f) (sym c'.2) there in
        elim (set_cases entries i e (raised k e) a x at at_a) [
          | inl (here, is) ↦
              let last : k ≡ m = let both : Some k ≡ Some m = sym (ap (λ (z : Entry). z.rounds) is) ∙ rounds_a in cc in
              let hears' : Hears i e j = subst (λ (z : Entry). Hears i z j) is (subst (λ z. Hears z x j) here hears) in
              let due = go.dues i n j e c'.0 f at rounds hears' c'.1 there' (omega arith) in
              let later : k ≤ due.0 = elim (cases_lt due.0 k) [
                | inl soon ↦ absurd (not_early s pairs entries g go k early due.0 i soon due.3)
                | inr late ↦ late
              ] in
              (due.0, omega arith, due.2, subst (λ z. Contains (row_in g.due due.0) z) (sym here) due.3)
          | inr (other, old) ↦ go.dues a m j x c'.0 f old rounds_a hears c'.1 there' from
        ];
    asking = λ a j x at_a some child. elim (set_cases entries i e (raised k e) a x at at_a) [
      | inl (here, is) ↦
          let was = go.asking i j e at (λ none. let never : Some n ≡ None = sym rounds ∙ none in cc) (subst (λ (z : Entry). Contains z.children.items j) is child) in
          (let less = was.0 in omega (arith, set-length entries i (raised k e)), λ le. subst (λ z. Contains (row_in g.askers (j - g.first)) z) (sym here) (was.1 le))
      | inr (other, old) ↦ let was = go.asking a j x old some child in (let less = was.0 in omega (arith, set-length entries i (raised k e)), was.1)
    ];
  }

  pub more_raised : IsMore entries (set entries i (raised k e))
  more_raised = more_set entries i e (raised k e) at (record {
    pair = refl;
    rounds = λ m done. let old : m ≤ n = subst (λ o. IsDone o m) rounds done in omega arith;
    at_rest = λ none. let never : Some n ≡ None = sym rounds ∙ none in cc;
  })

-- one round more for an entry, of which those know whom it concerns
module _ (s : System) (pairs : ℕ) (entries : List Entry) (g g' : Agenda) (go : IsGoing s pairs entries g) (i k : ℕ) (e e' : Entry) (firsts : List First) (at : slice_get entries i ≡ Some e) (rounds : e.rounds ≡ Some k)
    (rounds' : e'.rounds ≡ Some (suc k)) (firsts' : e'.firsts.items ≡ e.firsts.items ++ firsts) (fresh : (f : First) → Contains firsts f → f.round ≡ suc k) (first : g'.first ≡ g.first) (more : IsRicher g.due g'.due)
    (askers : IsRicher g.askers g'.askers) (own : (f : First) → Contains firsts f → Contains (row_in g'.due (suc k)) i)
    (woken : (f : First) → Contains firsts f → (a : ℕ) → Contains (row_in g'.askers (i - g'.first)) a → Contains (row_in g'.due (suc k)) a)
    (listened : (j : ℕ) → Contains e'.children.items j → g'.first ≤ j → Contains (row_in g'.askers (j - g'.first)) i) (inside : (j : ℕ) → Contains e'.children.items j → j < length entries)
    (table : IsTable s pairs (set entries i e'))
    (children : (j : ℕ) (c : Entry) (f : First) → Contains e'.children.items j → slice_get (set entries i e') j ≡ Some c → Contains c.firsts.items f → suc k ≤ f.round → IsDue g'.due i (suc k) f.round) where
  -- an atom of the entry is an old one, or one of the new round
  atom_cases : (f : First) → Contains e'.firsts.items f → (Contains e.firsts.items f × (f.round ≤ k)) ⊎ (Contains firsts f × (f.round ≡ suc k))
  atom_cases f there = elim (Contains-append_cases e.firsts.items firsts f (subst (λ (z : List First). Contains z f) firsts' there)) [
    | inl old ↦ let done = ((go.table.up_to e (Contains-at entries i e at)).right f old).0 in inl (old, subst (λ o. IsDone o f.round) rounds done)
    | inr new ↦ inr (new, fresh f new)
  ]

  heard_new : (a n j : ℕ) (x c : Entry) (f : First) → slice_get entries a ≡ Some x → x.rounds ≡ Some n → Hears a x j → slice_get (set entries i e') j ≡ Some c → Contains c.firsts.items f → n ≤ f.round → a ≢ i → IsDue g'.due a n f.round
  heard_new a n j x c f at_a rounds_a hears at_j there from other_a = elim (set_cases entries i e e' j c at at_j) [
    | inr (other, old) ↦ due_later g.due g'.due a n f.round more (go.dues a n j x c f at_a rounds_a hears old there from)
    | inl (here, is) ↦
        let hears' : Hears a x i = subst (λ z. Hears a x z) here hears in
        elim (atom_cases f (subst (λ (z : Entry). Contains z.firsts.items f) is there)) [
          | inl old ↦ due_later g.due g'.due a n f.round more (go.dues a n i x e f at_a rounds_a hears' at old.0 from)
          | inr new ↦ elim hears' [
            | inl same ↦ absurd (other_a (sym same))
            | inr child ↦
                let asks = go.asking a i x at_a (λ none. let never : Some n ≡ None = sym rounds_a ∙ none in cc) child in
                let knows : Contains (row_in g'.askers (i - g.first)) a = askers (i - g.first) a (asks.1 (from_first s pairs entries g go i k e at rounds)) in
                let is_new = new.1 in
                (suc k, omega arith, omega arith, woken f new.0 a (subst (λ z. Contains (row_in g'.askers (i - z)) a) (sym first) knows))
          ]
        ]
  ]

  pub going_set : IsGoing s pairs (set entries i e') g'
  going_set = record {
    table = table;
    within = let le = go.within in omega (arith, set-length entries i e', first);
    resting = λ j x less at_j. elim (set_cases entries i e e' j x at at_j) [
      | inl (here, is) ↦ let le = from_first s pairs entries g go i k e at rounds in absurd (omega (arith, first))
      | inr (other, old) ↦ go.resting j x (omega (arith, first)) old
    ];
    starting = λ j x at_j start. elim (set_cases entries i e e' j x at at_j) [
      | inl (here, is) ↦ let never : Some (suc k) ≡ Some 0 = sym rounds' ∙ sym (ap (λ (z : Entry). z.rounds) is) ∙ start in cc
      | inr (other, old) ↦ more 0 j (go.starting j x old start)
    ];
    dues = λ a n j x c f at_a rounds_a hears at_j there from. elim (set_cases entries i e e' a x at at_a) [
      | inr (other, old) ↦ heard_new a n j x c f old rounds_a hears at_j there from other
      | inl (here, is) ↦
          let last : suc k ≡ n = let both : Some (suc k) ≡ Some n = sym rounds' ∙ sym (ap (λ (z : Entry). z.rounds) is) ∙ rounds_a in cc in
          let due : IsDue g'.due i (suc k) f.round = elim (subst (λ (z : Entry). Hears i z j) is (subst (λ z. Hears z x j) here hears)) [
            | inr child ↦ children j c f child at_j there (omega arith)
            | inl own_place ↦ elim (set_cases entries i e e' j c at at_j) [
              | inr (other, old) ↦ absurd (other own_place)
              | inl (here', is') ↦ elim (atom_cases f (subst (λ (z : Entry). Contains z.firsts.items f) is' there)) [
                | inl old ↦ let le = old.1 in absurd (omega arith)
                | inr new ↦ let is_new = new.1 in (suc k, omega arith, omega arith, own f new.0)
              ]
            ]
          ] in
          subst (λ z. IsDue g'.due a z f.round) last (subst (λ z. IsDue g'.due z (suc k) f.round) (sym here) due)
    ];
    asking = λ a j x at_a some child. elim (set_cases entries i e e' a x at at_a) [
      | inl (here, is) ↦
          let child' : Contains e'.children.items j = subst (λ (z : Entry). Contains z.children.items j) is child in
          (let less = inside j child' in omega (arith, set-length entries i e'), λ le. subst (λ z. Contains (row_in g'.askers (j - g'.first)) z) (sym here) (listened j child' le))
      | inr (other, old) ↦
          let was = go.asking a j x old some child in (
            let less = was.0 in omega (arith, set-length entries i e'),
            λ le. subst (λ z. Contains (row_in g'.askers (j - z)) a) (sym first) (askers (j - g.first) a (was.1 (omega (arith, first)))),
          )
    ];
  }

-- new entries behind all, which are due in round 0
pub going_pushed : (s : System) (pairs : ℕ) (entries new : List Entry) (g g' : Agenda) → IsGoing s pairs entries g → IsTable s pairs new → IsAppended entries new → g'.first ≡ g.first → g'.askers ≡ g.askers
    → IsRicher g.due g'.due → ((j : ℕ) → length entries ≤ j → j < length new → Contains (row_in g'.due 0) j) → IsGoing s pairs new g'
going_pushed s pairs entries new g g' go table (extra, is, start) first askers more started =
    let cases : (j : ℕ) (x : Entry) → slice_get new j ≡ Some x → (slice_get entries j ≡ Some x) ⊎ ((length entries ≤ j) × Contains extra x) = λ j x at. appended_at entries extra j x (subst (λ (z : List Entry). slice_get z j ≡ Some x) is at) in
    let longer : length entries ≤ length new = omega (arith, ap length is, length-append entries extra) in
    record {
      table = table;
      within = let le = go.within in omega (arith, first);
      resting = λ j x less at. elim (cases j x at) [
        | inl old ↦ go.resting j x (omega (arith, first)) old
        | inr late ↦ let le = go.within in let le' = late.0 in absurd (omega (arith, first))
      ];
      starting = λ j x at rounds. elim (cases j x at) [
        | inl old ↦ more 0 j (go.starting j x old rounds)
        | inr late ↦ started j late.0 (slice_get_within new j x at)
      ];
      dues = λ a n j x c f at_a rounds_a hears at_j there from. elim (cases a x at_a) [
        | inr late ↦
            let zero : n ≡ 0 = let both : Some n ≡ Some 0 = sym rounds_a ∙ (start x late.1).0 in cc in
            (0, omega arith, omega arith, started a late.0 (slice_get_within new a x at_a))
        | inl old ↦ elim (cases j c at_j) [
          | inl old' ↦ due_later g.due g'.due a n f.round more (go.dues a n j x c f old rounds_a hears old' there from)
          | inr late ↦ let le = late.0 in elim hears [
            | inl same ↦ let less = slice_get_within entries a x old in absurd (omega arith)
            | inr child ↦ let less = (go.asking a j x old (λ none. let never : Some n ≡ None = sym rounds_a ∙ none in cc) child).0 in absurd (omega arith)
          ]
        ]
      ];
      asking = λ a j x at_a some child. elim (cases a x at_a) [
        | inr late ↦ absurd (Contains-none j (subst (λ (z : List ℕ). Contains z j) (start x late.1).1 child))
        | inl old ↦
            let was = go.asking a j x old some child in (
              let less = was.0 in omega arith,
              λ le. subst (λ (z : List (List ℕ)). Contains (row_in z (j - g'.first)) a) (sym askers) (subst (λ z. Contains (row_in g.askers (j - z)) a) (sym first) (was.1 (omega (arith, first)))),
            )
      ];
    }

-- a table at rest, with nothing to do
pub going_start : (s : System) (pairs : ℕ) (entries : List Entry) (g : Agenda) → IsTable s pairs entries → AllRest entries → g.first ≡ length entries → IsGoing s pairs entries g
going_start s pairs entries g table rest first =
    let never : (i n : ℕ) (e : Entry) → slice_get entries i ≡ Some e → e.rounds ≡ Some n → ⊥ = λ i n e at rounds. let both : None ≡ Some n = sym (rest e (Contains-at entries i e at)) ∙ rounds in cc in
    record {
      table = table;
      within = omega (arith, first);
      resting = λ j e less at. rest e (Contains-at entries j e at);
      starting = λ i e at rounds. absurd (never i 0 e at rounds);
      dues = λ i n j e c f at rounds hears at_j there from. absurd (never i n e at rounds);
      asking = λ i j e at some child. absurd (some (rest e (Contains-at entries i e at)));
    }

-- the entry, at rest
abbrev pub rested : Entry → Entry
rested e = record e { rounds = None }

-- all at rest, when nothing is due
pub table_rested : (s : System) (pairs : ℕ) (entries : List Entry) (g : Agenda) → IsGoing s pairs entries g → ((q : ℕ) → row_in g.due q ≡ [])
    → IsTable s pairs (map rested entries) × AllRest (map rested entries) × (map pair_of (map rested entries) ≡ map pair_of entries)
table_rested s pairs entries g go nothing =
    let table = go.table in
    let same = pairs_same entries in (
      record {
        sound = table.sound;
        up_to = λ x there.
            let e = map-Contains rested entries x there in
            subst (λ (z : Entry). IsUpTo s z) (sym e.2) (rested_up e.0 e.1);
        asked = λ x there m r d asks.
            let e = map-Contains rested entries x there in
            subst (λ (z : List Pair). Contains z r) (sym same) (asked_later e.0 e.1 m r (subst (λ (z : Entry). Asks s (labels s (pair_of z) m) r) e.2 asks));
        heard = λ x there m r at_m asks.
            let e = map-Contains rested entries x there in
            let never : None ≡ Some (suc m) = sym (ap (λ (z : Entry). z.rounds) e.2) ∙ at_m in cc;
        only = λ x there m j at_m child.
            let e = map-Contains rested entries x there in
            let never : None ≡ Some (suc m) = sym (ap (λ (z : Entry). z.rounds) e.2) ∙ at_m in absurd (cc);
        different = subst AreDifferent (sym same) table.different;
        few = let few = table.few in omega (arith, length-map entries rested);
      },
      (λ x there. let e = map-Contains rested entries x there in ap (λ (z : Entry). z.rounds) e.2),
      same,
    )
  where
    pairs_same : (es : List Entry) → map pair_of (map rested es) ≡ map pair_of es
    pairs_same [] = refl
    pairs_same (e ∷ es) = ap (λ z. pair_of e ∷ z) (pairs_same es)

    rested_up : (e : Entry) → Contains entries e → IsUpTo s (rested e)
    rested_up e there =
        let up = go.table.up_to e there in
        let at = at_Contains entries e there in
        record {
          right = λ f in_e. (tt, (up.right f in_e).1);
          whole = λ m a d in_m. whole_at s pairs entries g go m (λ q less. nothing q) m (omega arith) at.0 e at.1 a in_m;
          order = up.order;
          all = up.all;
        }

    asked_later : (e : Entry) → Contains entries e → (m : ℕ) (r : Pair) → Asks s (labels s (pair_of e) m) r → Contains (map pair_of entries) r
    asked_later e there m r asks =
        let at = at_Contains entries e there in
        elim e.rounds as (λ o. e.rounds ≡ o → Contains (map pair_of entries) r) [
          | None ↦ λ is. go.table.asked e there m r (subst (λ o. IsDone o (suc m)) (sym is) tt) asks
          | Some n ↦ λ is. asked_early s pairs entries g go (suc m) (λ q less. nothing q) at.0 n m e r at.1 is (omega arith) asks
        ] refl

-- the last place of a row is gone, that of an entry which has that round
pub going_popped : (s : System) (pairs : ℕ) (entries : List Entry) (g g' : Agenda) (i k : ℕ) (xs : List ℕ) → IsGoing s pairs entries g → row_in g.due k ≡ xs ++ i ∷ [] → row_in g'.due k ≡ xs
    → ((q : ℕ) → q ≢ k → row_in g'.due q ≡ row_in g.due q) → g'.first ≡ g.first → g'.askers ≡ g.askers → ((e : Entry) → slice_get entries i ≡ Some e → IsDone e.rounds (suc k)) → IsGoing s pairs entries g'
going_popped s pairs entries g g' i k xs go was now others first askers done =
    let other : (q a : ℕ) → q ≢ k → Contains (row_in g.due q) a → Contains (row_in g'.due q) a = λ q a differ there. subst (λ (z : List ℕ). Contains z a) (sym (others q differ)) there in
    let cases : (q a : ℕ) → Contains (row_in g.due q) a → Contains (row_in g'.due q) a ⊎ ((q ≡ k) × (a ≡ i)) = λ q a there. elim (cases_order q k) [
      | inl same ↦ elim (Contains-append_cases xs (i ∷ []) a (subst (λ (z : List ℕ). Contains z a) (ap (row_in g.due) same ∙ was) there)) [
        | inl early ↦ inl (subst (λ (z : List ℕ). Contains z a) (sym (ap (row_in g'.due) same ∙ now)) early)
        | inr last ↦ elim ((Contains-cons a i []).0 last) [ inl here ↦ inr (same, here) | inr none ↦ absurd (Contains-none a none) ]
      ]
      | inr (inl less) ↦ inl (other q a (λ e. omega arith) there)
      | inr (inr more) ↦ inl (other q a (λ e. omega arith) there)
    ] in
    record {
      table = go.table;
      within = let le = go.within in omega (arith, first);
      resting = λ j e less at. go.resting j e (omega (arith, first)) at;
      starting = λ j e at rounds. elim (cases 0 j (go.starting j e at rounds)) [
        | inl there ↦ there
        | inr (same, here) ↦ let le : suc k ≤ 0 = subst (λ o. IsDone o (suc k)) rounds (done e (subst (λ z. slice_get entries z ≡ Some e) here at)) in absurd (omega arith)
      ];
      dues = λ a n j e c f at rounds hears at_j there from.
          let due = go.dues a n j e c f at rounds hears at_j there from in
          elim (cases due.0 a due.3) [
            | inl kept ↦ (due.0, due.1, due.2, kept)
            | inr (same, here) ↦
                let le : suc k ≤ n = subst (λ o. IsDone o (suc k)) rounds (done e (subst (λ z. slice_get entries z ≡ Some e) here at)) in
                let le' = due.1 in
                absurd (omega arith)
          ];
      asking = λ a j e at some child.
          let was = go.asking a j e at some child in
          (was.0, λ le. subst (λ (z : List (List ℕ)). Contains (row_in z (j - g'.first)) a) (sym askers) (subst (λ z. Contains (row_in g.askers (j - z)) a) (sym first) (was.1 (omega (arith, first)))));
    }

-- an entry that stood below the round k is noted in it
pub record IsRaised (s : System) (pairs : ℕ) (old new : List Entry) (g : Agenda) (i k : ℕ) : Type 0 where
  pub going : IsGoing s pairs new g
  pub more : IsMore old new
  pub rounds : IsSomeAnd (slice_get new i) (λ e. e.rounds ≡ Some k)
  pub same : map pair_of new ≡ map pair_of old
  pub count : length new ≡ length old

pub raised_all : (s : System) (pairs : ℕ) (old new : List Entry) (g : Agenda) (i k : ℕ) → IsGoing s pairs old g → IsEmptyBelow k g.due → IsSomeAnd (slice_get old i) (λ e. IsBehind e.rounds k)
    → ((e : Entry) → slice_get old i ≡ Some e → new ≡ set old i (raised k e)) → IsRaised s pairs old new g i k
raised_all s pairs old new g i k go early behind is =
    let e = some_at (λ e. IsBehind e.rounds k) (slice_get old i) behind in
    let n = behind_at e.0.rounds k e.2 in
    subst (λ (z : List Entry). IsRaised s pairs old z g i k) (sym (is e.0 e.1)) (record {
      going = going_raised s pairs old g go k early i n.0 e.0 e.1 n.1 n.2;
      more = more_raised s pairs old g go k early i n.0 e.0 e.1 n.1 n.2;
      rounds = subst (λ o. IsSomeAnd o (λ x. x.rounds ≡ Some k)) (sym (set-here old i e.0 (raised k e.0) e.1)) refl;
      same = set-alike pair_of old i e.0 (raised k e.0) e.1 refl;
      count = set-length old i (raised k e.0);
    })
  where
    behind_at : (o : Option ℕ) (k : ℕ) → IsBehind o k → (n : ℕ) × (o ≡ Some n) × (n ≤ k)
    behind_at None k h = absurd h
    behind_at (Some n) k h = (n, refl, h)

-- no entry more
pub appended_same : (old new : List Entry) → IsAppended old new → length new ≡ length old → new ≡ old
appended_same old new ([], is, start) same = is ∙ append-nil old
appended_same old new (x ∷ xs, is, start) same = absurd (omega (arith, ap length is, length-append old (x ∷ xs)))

-- What looks write of their nodes, one after another, and what is still to come behind them.
use Rattle.std.proofs.Common.{◌≡◌, ◌≢◌, ◌⊎◌, ℕ, ◌<◌, ◌≤◌, ◌^◌, Bool, true, false, if◌then◌else◌, ◌==◌, List, [], ◌∷◌, ◌++◌, length, get_or, set, Option, Some, None, IfSome, IsTrue, IsFalse, Contains, refl, sym, ap, ◌∙◌, inl, inr, arith, subst}
use Rattle.std.proofs.lemmas.Bool.{cases_Bool, both_ways, cases_order, eqb-true, eq-eqb}
use Rattle.std.proofs.lemmas.List.{get_or-set_same, get_or-set_other}
use Rattle.std.proofs.lemmas.List.Elements.{Contains-append_left, Contains-append_right, Contains-append_cases}
use Rattle.std.proofs.Math.ListN.{length-set}
use Rattle.tp_base.specs.Classes.{has_class}
use Rattle.tp_base.proofs.ClassLemmas.{has_class-Contains, Contains-has_class}
use Rattle.tp_base.proofs.Rising.{Contains-none, Contains-here, Contains-behind, Contains-cons}
use Rattle.tree_sem.specs.Trees.{LabelTree}
use Rattle.closed_page.specs.Labelled.{AreKidsAll, IsHeard}
use Rattle.closed_page.proofs.CallLemmas.{kids_none}
use Rattle.class_adding.specs.declared.looking.Look.{Look}
use Rattle.class_adding.specs.declared.work.Work.{Work}
use Rattle.class_adding.specs.Filling.{wake_at}
use Rattle.class_adding.specs.Work.{nodes_in, IsLessOf, IsSeen, IsWritten, IsAwaited, AreAwaited, AreUntil, IsNext, IsWorking, IsStart}

pub is_due : (i : ℕ) (due : List ℕ) → Contains due i ⊎ (Contains due i → ⊥)
is_due i due = elim (cases_Bool (has_class i due)) [
  | inl is ↦ inl (Contains-has_class i due is)
  | inr none ↦ inr (λ there. both_ways (has_class i due) none (has_class-Contains i due there))
]

same_or_not : (i j : ℕ) → (i ≡ j) ⊎ (i ≢ j)
same_or_not i j = elim (cases_order i j) [
  | inl same ↦ inl same
  | inr (inl less) ↦ inr (λ e. omega (arith, less, e))
  | inr (inr more) ↦ inr (λ e. omega (arith, more, e))
]

-- ---- a loop over looks

-- what was done for one of the looks, while the others are left
pub done_next : (P P' : Look → Type 0) (looks rest : List Look) (l : Look) (others : List Look) → rest ≡ l ∷ others → ((m : Look) → Contains looks m → Contains rest m ⊎ P m) → ((m : Look) → P m → P' m) → P' l
    → (m : Look) → Contains looks m → Contains others m ⊎ P' m
done_next P P' looks rest l others split f more now m there = elim (f m there) [
  | inr old ↦ inr (more m old)
  | inl left ↦ elim ((Contains-cons m l others).0 (subst (λ (z : List Look). Contains z m) split left)) [
    | inl is ↦ inr (subst P' (sym is) now)
    | inr later ↦ inl later
  ]
]

pub done_all : (P : Look → Type 0) (looks rest : List Look) → length rest ≡ 0 → ((m : Look) → Contains looks m → Contains rest m ⊎ P m) → (m : Look) → Contains looks m → P m
done_all P looks (l ∷ rest) none f m there = absurd (omega arith)
done_all P looks [] none f m there = elim (f m there) [ inl left ↦ absurd (Contains-none m left) | inr is ↦ is ]

-- those that are left are among them
pub left_next : (looks rest : List Look) (l : Look) (others : List Look) → rest ≡ l ∷ others → ((m : Look) → Contains rest m → Contains looks m) → (m : Look) → Contains others m → Contains looks m
left_next looks rest l others split f m there = f m (subst (λ (z : List Look). Contains z m) (sym split) (Contains-behind m l others there))

pub left_first : (looks rest : List Look) (l : Look) (others : List Look) → rest ≡ l ∷ others → ((m : Look) → Contains rest m → Contains looks m) → Contains looks l
left_first looks rest l others split f = f l (subst (λ (z : List Look). Contains z l) (sym split) (Contains-here l l others refl))

-- ---- written at each node

-- while some looks are left
pub record IsWriting {X : Type 0} (value : Look → X) (none : X) (looks rest : List Look) (old new : List X) : Type 0 where
  pub count : length new ≡ length old
  pub left : (m : Look) → Contains rest m → Contains looks m
  pub each : (i : ℕ) → ((get_or new i none ≡ get_or old i none) × ((l : Look) → Contains looks l → l.number ≡ i → Contains rest l))
      ⊎ ((l : Look) × Contains looks l × (l.number ≡ i) × (get_or new i none ≡ value l))

pub writing_start : {X : Type 0} (value : Look → X) (none : X) (looks : List Look) (old : List X) → IsWriting value none looks looks old old
writing_start value none looks old = record { count = refl; left = λ m there. there; each = λ i. inl (refl, λ l there at. there) }

pub writing_next : {X : Type 0} (value : Look → X) (none : X) (looks rest : List Look) (old new new' : List X) (l : Look) (others : List Look) → rest ≡ l ∷ others → l.number < length old → new' ≡ set new l.number (value l)
    → IsWriting value none looks rest old new → IsWriting value none looks others old new'
writing_next {X} value none looks rest old new new' l others split less is f =
    let count : length new ≡ length old = f.count in
    let listed : Contains looks l = left_first looks rest l others split f.left in
    record {
      count = ap length is ∙ length-set new l.number (value l) ∙ count;
      left = left_next looks rest l others split f.left;
      each = λ i. elim (same_or_not i l.number) [
        | inl here ↦
            let at : get_or new' l.number none ≡ value l = ap (λ z. get_or z l.number none) is ∙ get_or-set_same new l.number (value l) none (omega (arith, less, count)) in
            inr (l, listed, sym here, ap (λ n. get_or new' n none) here ∙ at)
        | inr other ↦
            let same : get_or new' i none ≡ get_or new i none = ap (λ z. get_or z i none) is ∙ get_or-set_other new l.number i (value l) none other in
            elim (f.each i) [
              | inr written ↦ inr (written.0, written.1, written.2, same ∙ written.3)
              | inl kept ↦ inl (
                same ∙ kept.0,
                λ m there at. elim ((Contains-cons m l others).0 (subst (λ (z : List Look). Contains z m) split (kept.1 m there at))) [
                  | inl first ↦ absurd (other (sym at ∙ ap (λ (z : Look). z.number) first))
                  | inr later ↦ later
                ],
              )
            ]
      ];
    }

pub writing_all : {X : Type 0} (value : Look → X) (none : X) (looks rest : List Look) (old new : List X) → length rest ≡ 0 → IsWriting value none looks rest old new → IsWritten value none looks old new
writing_all value none looks (l ∷ rest) old new empty f = absurd (omega arith)
writing_all value none looks [] old new empty f = record {
  count = f.count;
  each = λ i. elim (f.each i) [
    | inr written ↦ inr written
    | inl kept ↦ inl (kept.0, λ l there at. Contains-none l (kept.1 l there at))
  ];
}

-- ---- waiting

pub awaited_some : (old new : List (ℕ × List ℕ)) (number round : ℕ) → ((r : ℕ) → nodes_in new r ≡ (if round == r then nodes_in old round ++ number ∷ [] else nodes_in old r)) → IsAwaited old new number (Some round)
awaited_some old new number round put = record {
  kept = λ r i there. elim (cases_Bool (round == r)) [
    | inl here ↦
        let same : round ≡ r = eqb-true round r here in
        subst (λ (z : List ℕ). Contains z i) (sym (rw here at (put r))) (Contains-append_left (nodes_in old round) (number ∷ []) i (subst (λ z. Contains (nodes_in old z) i) (sym same) there))
    | inr other ↦ subst (λ (z : List ℕ). Contains z i) (sym (rw other at (put r))) there
  ];
  right = λ r i there. elim (cases_Bool (round == r)) [
    | inl here ↦
        let same : round ≡ r = eqb-true round r here in
        elim (Contains-append_cases (nodes_in old round) (number ∷ []) i (subst (λ (z : List ℕ). Contains z i) (rw here at (put r)) there)) [
          | inl before ↦ inl (subst (λ z. Contains (nodes_in old z) i) same before)
          | inr now ↦ elim ((Contains-cons i number []).0 now) [ inl is ↦ inr is | inr none ↦ absurd (Contains-none i none) ]
        ]
    | inr other ↦ inl (subst (λ (z : List ℕ). Contains z i) (rw other at (put r)) there)
  ];
  there =
      let here : (round == round) ≡ true = eq-eqb round round refl in
      subst (λ (z : List ℕ). Contains z number) (sym (rw here at (put round))) (Contains-append_right (nodes_in old round) (number ∷ []) number (Contains-here number number [] refl));
}

-- while some looks are left
pub record AreWaiting (old new : List (ℕ × List ℕ)) (looks rest : List Look) : Type 0 where
  pub left : (m : Look) → Contains rest m → Contains looks m
  pub kept : (r i : ℕ) → Contains (nodes_in old r) i → Contains (nodes_in new r) i
  pub right : (r i : ℕ) → Contains (nodes_in new r) i → Contains (nodes_in old r) i ⊎ IsSeen looks i
  pub done : (l : Look) → Contains looks l → Contains rest l ⊎ IfSome l.wake (λ r. Contains (nodes_in new r) l.number)

pub waiting_start : (old : List (ℕ × List ℕ)) (looks : List Look) → AreWaiting old old looks looks
waiting_start old looks = record { left = λ m there. there; kept = λ r i there. there; right = λ r i there. inl there; done = λ m there. inl there }

still_awaited : (old new : List (ℕ × List ℕ)) (c : ℕ) (wake : Option ℕ) → ((r i : ℕ) → Contains (nodes_in old r) i → Contains (nodes_in new r) i) → IfSome wake (λ r. Contains (nodes_in old r) c) → IfSome wake (λ r. Contains (nodes_in new r) c)
still_awaited old new c None kept h = tt
still_awaited old new c (Some r) kept h = kept r c h

pub waiting_next : (old new new' : List (ℕ × List ℕ)) (looks rest : List Look) (l : Look) (others : List Look) → rest ≡ l ∷ others → AreWaiting old new looks rest → IsAwaited new new' l.number l.wake → AreWaiting old new' looks others
waiting_next old new new' looks rest l others split f now = record {
  left = left_next looks rest l others split f.left;
  kept = λ r i there. now.kept r i (f.kept r i there);
  right = λ r i there. elim (now.right r i there) [
    | inl before ↦ f.right r i before
    | inr is ↦ inr (l, left_first looks rest l others split f.left, sym is)
  ];
  done = done_next (λ m. IfSome m.wake (λ r. Contains (nodes_in new r) m.number)) (λ m. IfSome m.wake (λ r. Contains (nodes_in new' r) m.number)) looks rest l others split f.done
      (λ m h. still_awaited new new' m.number m.wake now.kept h) now.there;
}

pub waiting_all : (old new : List (ℕ × List ℕ)) (looks rest : List Look) → length rest ≡ 0 → AreWaiting old new looks rest → AreAwaited old new looks
waiting_all old new looks rest none f = record {
  kept = f.kept;
  right = f.right;
  there = done_all (λ m. IfSome m.wake (λ r. Contains (nodes_in new r) m.number)) looks rest none f.done;
}

-- the last round
pub until_more : (wake : Option ℕ) (m n : ℕ) → m ≤ n → IfSome wake (λ r. r ≤ m) → IfSome wake (λ r. r ≤ n)
until_more None m n le h = tt
until_more (Some r) m n le h = let early : r ≤ m = h in omega (arith, early, le)

-- ---- callers

pub kids_less : (nodes old new : List (List ℕ)) → IsLessOf old new → AreKidsAll nodes old → AreKidsAll nodes new
kids_less nodes old new less h = λ i c there. h i c (less i c there)

-- ---- between two rounds

none_at : (wakes : List (Option ℕ)) (i : ℕ) (P : ℕ → Type 0) → wake_at wakes i ≡ None → IfSome (wake_at wakes i) P
none_at wakes i P is = subst (λ (z : Option ℕ). IfSome z P) (sym is) tt

pub working_start : (t : LabelTree) (nodes : List (List ℕ)) (w : Work) → IsStart t nodes w → IsWorking nodes w
working_start t nodes w b = record {
  long = b.fresh.count;
  times = b.times;
  within = λ i there. (b.due i).0 there;
  quiet = λ i less. inr ((b.due i).1 less);
  only = kids_none nodes w.callers b.none_called;
  heard = λ later. let first = b.start in cc;
  awaited = λ i. none_at w.wakes.items i (λ r. Contains (nodes_in w.awaited r) i) (b.none i);
  numbers = λ r i there. absurd (Contains-none i (subst (λ (z : List (ℕ × List ℕ)). Contains (nodes_in z r) i) b.awaited there));
  until = λ i. none_at w.wakes.items i (λ r. r ≤ w.latest) (b.none i);
  bound = omega (arith, b.first);
  none = b.empty;
}

pub cases_true : (b : Bool) → IsTrue b ⊎ IsFalse b
cases_true true = inl refl
cases_true false = inr refl

module _ (nodes : List (List ℕ)) (w : Work) (looks : List Look) (latest k : ℕ) (w' : Work) (f : IsWorking nodes w) (same : (l : Look) → Contains looks l → IsFalse l.grew → l.news ≡ [])
    (covers : (i : ℕ) → Contains w.due.items i → IsSeen looks i) (next : IsNext nodes w looks latest k w') where
  undue : (i : ℕ) → i < length nodes → ((l : Look) → Contains looks l → l.number ≡ i → ⊥) → get_or w.fresh.items i [] ≡ []
  undue i less none = elim (f.quiet i less) [ inl is ↦ is | inr there ↦ let l = covers i there in absurd (none l.0 l.1 l.2) ]

  -- a fresh atom was found by a look
  pub look_of : (i a : ℕ) → i < length nodes → Contains (get_or w'.fresh.items i []) a → (l : Look) × Contains looks l × (l.number ≡ i) × IsTrue l.grew × Contains l.news a
  look_of i a less there = elim (next.fresh.each i) [
    | inl kept ↦ absurd (Contains-none a (subst (λ (z : List ℕ). Contains z a) (kept.0 ∙ undue i less kept.1) there))
    | inr l ↦
        let new : Contains l.0.news a = subst (λ (z : List ℕ). Contains z a) l.3 there in
        let grew : IsTrue l.0.grew = elim (cases_true l.0.grew) [ inl is ↦ is | inr still ↦ absurd (Contains-none a (subst (λ (z : List ℕ). Contains z a) (same l.0 l.1 still) new)) ] in
        (l.0, l.1, l.2, grew, new)
  ]

  pub working_next : ((l : Look) → Contains looks l → l.number < length nodes) → w.latest ≤ latest → AreUntil looks latest → latest < 2 ^ 62 → IsWorking nodes w'
  working_next numbers before until bound = record {
    long = next.fresh.count ∙ f.long;
    times = next.wakes.count ∙ f.times;
    within = next.within;
    quiet = λ i less. elim (next.fresh.each i) [
      | inl kept ↦ inl (kept.0 ∙ undue i less kept.1)
      | inr l ↦ elim (cases_true l.0.grew) [
        | inl grew ↦ inr (subst (Contains w'.due.items) l.2 (next.near l.0 l.1 grew).itself)
        | inr still ↦ inl (l.3 ∙ same l.0 l.1 still)
      ]
    ];
    only = next.only;
    heard = λ later c a less there. let l = look_of c a less there in subst (λ z. IsHeard nodes w'.callers z) l.2 (next.heard l.0 l.1 l.3);
    awaited = λ i. elim (next.wakes.each i) [
      | inl kept ↦
          let old = still_awaited w.awaited w'.awaited i (wake_at w.wakes.items i) next.awaited.kept (f.awaited i) in
          subst (λ (z : Option ℕ). IfSome z (λ r. Contains (nodes_in w'.awaited r) i)) (sym kept.0) old
      | inr l ↦
          let here : IfSome l.0.wake (λ r. Contains (nodes_in w'.awaited r) i) = subst (λ z. IfSome l.0.wake (λ r. Contains (nodes_in w'.awaited r) z)) l.2 (next.awaited.there l.0 l.1) in
          subst (λ (z : Option ℕ). IfSome z (λ r. Contains (nodes_in w'.awaited r) i)) (sym l.3) here
    ];
    numbers = λ r i there. elim (next.awaited.right r i there) [
      | inl old ↦ f.numbers r i old
      | inr l ↦ subst (λ z. z < length nodes) l.2 (numbers l.0 l.1)
    ];
    until = λ i.
        let upto : IfSome (wake_at w'.wakes.items i) (λ r. r ≤ latest) = elim (next.wakes.each i) [
          | inl kept ↦ subst (λ (z : Option ℕ). IfSome z (λ r. r ≤ latest)) (sym kept.0) (until_more (wake_at w.wakes.items i) w.latest latest before (f.until i))
          | inr l ↦ subst (λ (z : Option ℕ). IfSome z (λ r. r ≤ latest)) (sym l.3) (until l.0 l.1)
        ] in
        subst (λ n. IfSome (wake_at w'.wakes.items i) (λ r. r ≤ n)) (sym next.until) upto;
    bound = omega (arith, next.until, bound);
    none = next.none ∙ f.none;
  }

-- What the table says, and what it says after one step of filling it.
use Rattle.std.proofs.Common.{◌≡◌, ◌≢◌, ◌⊎◌, ℕ, zero, suc, ◌<◌, ◌≤◌, false, not, List, [], ◌∷◌, ◌++◌, map, length, set, Option, Some, None, slice_get, IsSomeAnd, Result, Ok, Err, OnOk, OnErr, Contains, refl, sym, ap, ◌∙◌, inl, inr, arith, subst, length-append}
use Rattle.std.specs.List.{filter}
use Rattle.std.proofs.lemmas.Bool.{cases_Bool, cases_lt, cases_order, both_ways}
use Rattle.std.proofs.lemmas.List.{map-append, length-map, append_assoc, append-nil}
use Rattle.std.proofs.lemmas.List.Elements.{Contains-append_left, Contains-append_right, Contains-append_cases}
use Rattle.tp_base.specs.Classes.{has_class, union_of}
use Rattle.tp_base.proofs.ClassLemmas.{same_members, has_class-Contains, Contains-has_class, Contains-union_of, IsStrictlyIncreasing-union_of}
use Rattle.tp_base.proofs.Rising.{All-from_Contains, Contains-here, Contains-behind, Contains-cons, Contains-none}
use Rattle.tp_base.proofs.Lists.{Contains-at, at_Contains, slice_get-push}
use Rattle.tree_sem.proofs.NodeLemmas.{Contains-map, map-Contains}
use Rattle.simple_core.specs.declared.system.System.{System}
use Rattle.simple_core.specs.Systems.{kind_label}
use Rattle.simple_core.specs.Labels.{set_of}
use Rattle.simple_core.specs.Rounds.{grown, IsFirst}
use Rattle.simple_core.specs.Pairs.{Pair, Asks, Needed, AreDifferent, HasMore}
use Rattle.simple_core.proofs.Members.{Among, among_all, filter-Contains, Contains-filter}
use Rattle.simple_core.proofs.RoundLemmas.{set_of-is, is-set_of, set_of-rises, grown-rises, grown-later}
use Rattle.simple_core.proofs.PairLemmas.{different_push, one_more}
use Rattle.simple_core.specs.declared.summaries.First.{First}
use Rattle.need_table.specs.declared.entries.Entry.{Entry}
use Rattle.need_table.specs.Tables.{pair_of, fresh_of, labels, AreInOrder, IsDone, IsHeard, IsAskedAt, IsUpTo, IsTable, IsKept, IsMore, NotedAt, IsUntouched, AreNeeded}
use Rattle.need_table.specs.Agendas.{IsKnown, IsAppended}
use Rattle.need_table.proofs.OrderLemmas.{order_one, order_more}

-- the label of the last round
pub label_now : (s : System) (e : Entry) (k : ℕ) → IsUpTo s e → e.rounds ≡ Some k → e.label ≡ labels s (pair_of e) k
label_now s e k up rounds =
    let atoms = map (λ (f : First). f.atom) e.firsts.items in
    let label = grown s k e.kind e.parent in
    up.all ∙ same_members (set_of atoms) label (set_of-rises atoms) (grown-rises s k e.kind e.parent)
    (among_all (set_of atoms) label (λ a there.
    let f = map-Contains (λ (f : First). f.atom) e.firsts.items a (set_of-is atoms a there) in
    let right = up.right f.0 f.1 in
    let le : f.0.round ≤ k = subst (λ o. IsDone o f.0.round) rounds right.0 in
    subst (λ z. Contains label z) (sym f.2) (grown-later s e.kind e.parent f.0.round k le f.0.atom right.1.0)))
    (among_all label (set_of atoms) (λ a there.
    let f = up.whole k a (subst (λ o. IsDone o k) (sym rounds) (omega arith)) there in
    is-set_of atoms a (subst (λ z. Contains atoms z) f.2 (Contains-map (λ (f : First). f.atom) e.firsts.items f.0 f.1))))

-- the set of all atoms, with those of more firsts
all_more : (xs ys : List First) (old new : List ℕ) → old ≡ set_of (map (λ f. f.atom) xs) → new ≡ union_of old (set_of (map (λ f. f.atom) ys)) → new ≡ set_of (map (λ f. f.atom) (xs ++ ys))
all_more xs ys old new was is =
    let some = map (λ (f : First). f.atom) xs in
    let more = map (λ (f : First). f.atom) ys in
    let both = union_of (set_of some) (set_of more) in
    is ∙ ap (λ z. union_of z (set_of more)) was
    ∙ same_members both (set_of (some ++ more)) (IsStrictlyIncreasing-union_of (set_of some) (set_of more) (set_of-rises some)) (set_of-rises (some ++ more))
    (among_all both (set_of (some ++ more)) (λ a there. is-set_of (some ++ more) a (elim ((Contains-union_of (set_of some) (set_of more) a).0 there) [
      | inl old ↦ Contains-append_left some more a (set_of-is some a old)
      | inr new ↦ Contains-append_right some more a (set_of-is more a new)
    ])))
    (among_all (set_of (some ++ more)) both (λ a there. (Contains-union_of (set_of some) (set_of more) a).1 (elim (Contains-append_cases some more a (set_of-is (some ++ more) a there)) [
      | inl old ↦ inl (is-set_of some a old)
      | inr new ↦ inr (is-set_of more a new)
    ])))
    ∙ ap set_of (sym (map-append (λ (f : First). f.atom) xs ys))

-- the rounds that were worked out are known
pub up_known : (s : System) (e : Entry) (k : ℕ) → IsUpTo s e → e.rounds ≡ Some k → IsKnown s k e
up_known s e k up rounds = record {
  first = λ f there. (up.right f there).1;
  whole = λ m a le in_m. up.whole m a (subst (λ o. IsDone o m) (sym rounds) le) in_m;
}

pub fresh_of-is : (own : List ℕ) (round : ℕ) (next : List ℕ) (f : First) → Contains (fresh_of own round next) f → Contains next f.atom × (Contains own f.atom → ⊥) × (f.round ≡ round)
fresh_of-is own round next f there =
    let of = map-Contains (λ (a : ℕ). let g : First = record { atom = a; round = round } in g) (filter (λ a. not (has_class a own)) next) f there in
    let kept = filter-Contains (λ a. not (has_class a own)) next of.0 of.1 in (
      subst (λ (g : First). Contains next g.atom) (sym of.2) kept.0,
      subst (λ (g : First). Contains own g.atom → ⊥) (sym of.2) (λ old. both_ways (not (has_class of.0 own)) (ap not (has_class-Contains of.0 own old)) kept.1),
      ap (λ (g : First). g.round) of.2,
    )

pub is-fresh_of : (own : List ℕ) (round : ℕ) (next : List ℕ) (a : ℕ) → Contains next a → has_class a own ≡ false → Contains (fresh_of own round next) (record { atom = a; round = round })
is-fresh_of own round next a there new =
    Contains-map (λ (a : ℕ). let g : First = record { atom = a; round = round } in g) (filter (λ a. not (has_class a own)) next) a (Contains-filter (λ a. not (has_class a own)) next a there (ap not new))

-- a new pair, in round 0
pub first_up : (s : System) (e : Entry) → e.rounds ≡ Some 0 → e.firsts.items ≡ fresh_of [] 0 (kind_label s e.kind) → e.label ≡ set_of (map (λ f. f.atom) e.firsts.items) → IsUpTo s e
first_up s e at firsts all = record {
  right = λ f there.
      let of = fresh_of-is [] 0 (kind_label s e.kind) f (subst (λ (z : List First). Contains z f) firsts there) in (
        subst (λ o. IsDone o f.round) (sym at) (omega (arith, of.2)),
        subst (λ r. IsFirst (labels s (pair_of e)) f.atom (Some r)) (sym of.2) (is-set_of (kind_label s e.kind) f.atom of.0, λ m less. absurd (omega arith)),
      );
  whole = λ k a done there.
      let le : k ≤ 0 = subst (λ o. IsDone o k) at done in
      let none : k ≡ 0 = omega arith in
      let start : Contains (grown s 0 e.kind e.parent) a = subst (λ z. Contains (grown s z e.kind e.parent) a) none there in
      (record { atom = a; round = 0 }, subst (λ (z : List First). Contains z (record { atom = a; round = 0 })) (sym firsts) (is-fresh_of [] 0 (kind_label s e.kind) a (set_of-is (kind_label s e.kind) a start) refl), refl);
  order = subst AreInOrder (sym firsts) (order_one (fresh_of [] 0 (kind_label s e.kind)) 0 (λ f there. (fresh_of-is [] 0 (kind_label s e.kind) f there).2));
  all = all;
}

-- one round more
pub next_up : (s : System) (e e' : Entry) (k : ℕ) → IsUpTo s e → e.rounds ≡ Some k → pair_of e' ≡ pair_of e → e'.rounds ≡ Some (suc k)
    → e'.firsts.items ≡ e.firsts.items ++ fresh_of (labels s (pair_of e) k) (suc k) (labels s (pair_of e) (suc k))
    → e'.label ≡ union_of e.label (set_of (map (λ f. f.atom) (fresh_of (labels s (pair_of e) k) (suc k) (labels s (pair_of e) (suc k))))) → IsUpTo s e'
next_up s e e' k up at pair at' firsts label =
    let own = labels s (pair_of e) k in
    let next = labels s (pair_of e) (suc k) in
    let new = fresh_of own (suc k) next in
    record {
      right = λ f there. elim (Contains-append_cases e.firsts.items new f (subst (λ (z : List First). Contains z f) firsts there)) [
        | inl old ↦
            let was = up.right f old in
            let le : f.round ≤ k = subst (λ o. IsDone o f.round) at was.0 in
            (subst (λ o. IsDone o f.round) (sym at') (omega arith), subst (λ (q : Pair). IsFirst (labels s q) f.atom (Some f.round)) (sym pair) was.1)
        | inr late ↦
            let of = fresh_of-is own (suc k) next f late in (
              subst (λ o. IsDone o f.round) (sym at') (omega (arith, of.2)),
              subst (λ (q : Pair). IsFirst (labels s q) f.atom (Some f.round)) (sym pair)
                  (subst (λ r. IsFirst (labels s (pair_of e)) f.atom (Some r)) (sym of.2) (of.0, λ m less there. of.1 (grown-later s e.kind e.parent m k (omega arith) f.atom there))),
            )
      ];
      whole = λ m a done there.
          let le : m ≤ suc k = subst (λ o. IsDone o m) at' done in
          let there' : Contains (labels s (pair_of e) m) a = subst (λ (q : Pair). Contains (labels s q m) a) pair there in
          let old : (m' : ℕ) → m' ≤ k → Contains (labels s (pair_of e) m') a → (f : First) × Contains e'.firsts.items f × (f.atom ≡ a) = λ m' le' in_m.
          let f = up.whole m' a (subst (λ o. IsDone o m') (sym at) le') in_m in
          (f.0, subst (λ (z : List First). Contains z f.0) (sym firsts) (Contains-append_left e.firsts.items new f.0 f.1), f.2) in
          elim (cases_lt k m) [
            | inr early ↦ old m early there'
            | inl late ↦ elim (cases_Bool (has_class a own)) [
              | inl was ↦ old k (omega arith) (Contains-has_class a own was)
              | inr none ↦
                  let last : m ≡ suc k = omega arith in
                  let in_next : Contains next a = subst (λ z. Contains (labels s (pair_of e) z) a) last there' in
                  (record { atom = a; round = suc k }, subst (λ (z : List First). Contains z (record { atom = a; round = suc k })) (sym firsts) (Contains-append_right e.firsts.items new (record { atom = a; round = suc k }) (is-fresh_of own (suc k) next a in_next none)), refl)
            ]
          ];
      order = subst AreInOrder (sym firsts)
          (order_more e.firsts.items new k (suc k) up.order (λ f old. subst (λ o. IsDone o f.round) at (up.right f old).0) (omega arith) (λ f late. (fresh_of-is own (suc k) next f late).2));
      all = all_more e.firsts.items new e.label e'.label up.all label ∙ ap (λ (z : List First). set_of (map (λ (f : First). f.atom) z)) (sym firsts);
    }

-- an entry in another's place, and one behind all
pub set-Contains : {X : Type 0} (xs : List X) (i : ℕ) (y x : X) → Contains (set xs i y) x → (x ≡ y) ⊎ Contains xs x
set-Contains [] i y x there = absurd (Contains-none x there)
set-Contains (z ∷ xs) zero y x there = elim ((Contains-cons x y xs).0 there) [ inl here ↦ inl here | inr behind ↦ inr (Contains-behind x z xs behind) ]
set-Contains (z ∷ xs) (suc i) y x there = elim ((Contains-cons x z (set xs i y)).0 there) [
  | inl here ↦ inr (Contains-here x z xs here)
  | inr behind ↦ elim (set-Contains xs i y x behind) [ inl new ↦ inl new | inr old ↦ inr (Contains-behind x z xs old) ]
]

pub set-alike : {X Y : Type 0} (f : X → Y) (xs : List X) (i : ℕ) (x y : X) → slice_get xs i ≡ Some x → f y ≡ f x → map f (set xs i y) ≡ map f xs
set-alike f [] i x y at same = refl
set-alike f (z ∷ xs) zero x y at same = let here : z ≡ x = cc in ap (λ w. w ∷ map f xs) (same ∙ ap f (sym here))
set-alike f (z ∷ xs) (suc i) x y at same = ap (λ w. f z ∷ w) (set-alike f xs i x y at same)

pub set-length : {X : Type 0} (xs : List X) (i : ℕ) (y : X) → length (set xs i y) ≡ length xs
set-length [] i y = refl
set-length (x ∷ xs) zero y = refl
set-length (x ∷ xs) (suc i) y = ap suc (set-length xs i y)

pub set-here : {X : Type 0} (xs : List X) (i : ℕ) (x y : X) → slice_get xs i ≡ Some x → slice_get (set xs i y) i ≡ Some y
set-here [] i x y at = cc
set-here (z ∷ xs) zero x y at = refl
set-here (z ∷ xs) (suc i) x y at = set-here xs i x y at

pub set-other : {X : Type 0} (xs : List X) (i j : ℕ) (y : X) → j ≢ i → slice_get (set xs i y) j ≡ slice_get xs j
set-other [] i j y other = refl
set-other (x ∷ xs) zero zero y other = absurd (other refl)
set-other (x ∷ xs) zero (suc j) y other = refl
set-other (x ∷ xs) (suc i) zero y other = refl
set-other (x ∷ xs) (suc i) (suc j) y other = set-other xs i j y (λ e. other (ap suc e))

push-at : {X : Type 0} (xs : List X) (y : X) (i : ℕ) (x : X) → slice_get xs i ≡ Some x → slice_get (xs ++ y ∷ []) i ≡ Some x
push-at [] y i x at = cc
push-at (z ∷ xs) y zero x at = at
push-at (z ∷ xs) y (suc i) x at = push-at xs y i x at

-- the same places have the pairs
pub place_set : (P : Pair → Type 0) (entries : List Entry) (i : ℕ) (e e' : Entry) (j : ℕ) → slice_get entries i ≡ Some e → pair_of e' ≡ pair_of e → IsSomeAnd (slice_get entries j) (λ c. P (pair_of c))
    → IsSomeAnd (slice_get (set entries i e') j) (λ c. P (pair_of c))
place_set P entries i e e' j at pair there = elim (cases_order j i) [
  | inl same ↦
      let here : P (pair_of e) = subst (λ o. IsSomeAnd o (λ c. P (pair_of c))) (ap (slice_get entries) same ∙ at) there in
      subst (λ o. IsSomeAnd o (λ c. P (pair_of c))) (sym (ap (slice_get (set entries i e')) same ∙ set-here entries i e e' at)) (subst P (sym pair) here)
  | inr (inl less) ↦ subst (λ o. IsSomeAnd o (λ c. P (pair_of c))) (sym (set-other entries i j e' (λ e. omega arith))) there
  | inr (inr more) ↦ subst (λ o. IsSomeAnd o (λ c. P (pair_of c))) (sym (set-other entries i j e' (λ e. omega arith))) there
]

pub heard_set : (entries : List Entry) (i : ℕ) (e e' : Entry) (children : List ℕ) (r : Pair) → slice_get entries i ≡ Some e → pair_of e' ≡ pair_of e → IsHeard entries children r → IsHeard (set entries i e') children r
heard_set entries i e e' children r at pair (j, among, there) = (j, among, place_set (λ (q : Pair). q ≡ r) entries i e e' j at pair there)

-- the table with one round more of an entry
pub table_set : (s : System) (pairs : ℕ) (entries : List Entry) (i : ℕ) (e e' : Entry) (k : ℕ) → IsTable s pairs entries → slice_get entries i ≡ Some e
    → e.rounds ≡ Some k → pair_of e' ≡ pair_of e → e'.rounds ≡ Some (suc k)
    → e'.firsts.items ≡ e.firsts.items ++ fresh_of (labels s (pair_of e) k) (suc k) (labels s (pair_of e) (suc k))
    → ((r : Pair) → Asks s (labels s (pair_of e) k) r → Contains (map pair_of entries) r)
    → ((r : Pair) → Asks s (labels s (pair_of e) k) r → IsHeard entries e'.children.items r)
    → ((j : ℕ) → Contains e'.children.items j → IsAskedAt s entries (labels s (pair_of e) k) j)
    → e'.label ≡ union_of e.label (set_of (map (λ f. f.atom) (fresh_of (labels s (pair_of e) k) (suc k) (labels s (pair_of e) (suc k))))) → IsTable s pairs (set entries i e')
table_set s pairs entries i e e' k table at rounds pair rounds' firsts asks heard only label =
    let same = set-alike pair_of entries i e e' at pair in
    record {
      sound = table.sound;
      up_to = λ x there. elim (set-Contains entries i e' x there) [
        | inl new ↦ subst (λ (z : Entry). IsUpTo s z) (sym new) (next_up s e e' k (table.up_to e (Contains-at entries i e at)) rounds pair rounds' firsts label)
        | inr old ↦ table.up_to x old
      ];
      asked = λ x there m r done asked. subst (λ (z : List Pair). Contains z r) (sym same) (elim (set-Contains entries i e' x there) [
        | inr old ↦ table.asked x old m r done asked
        | inl new ↦
            let done' : suc m ≤ suc k = subst (λ o. IsDone o (suc m)) (ap (λ (z : Entry). z.rounds) new ∙ rounds') done in
            let asked' : Asks s (labels s (pair_of e) m) r = subst (λ (q : Pair). Asks s (labels s q m) r) (ap pair_of new ∙ pair) asked in
            elim (cases_lt m k) [
              | inl early ↦ table.asked e (Contains-at entries i e at) m r (subst (λ o. IsDone o (suc m)) (sym rounds) (omega arith)) asked'
              | inr late ↦ let last : m ≡ k = omega arith in asks r (subst (λ z. Asks s (labels s (pair_of e) z) r) last asked')
            ]
      ]);
      heard = λ x there m r at_m asked. elim (set-Contains entries i e' x there) [
        | inr old ↦ heard_set entries i e e' x.children.items r at pair (table.heard x old m r at_m asked)
        | inl new ↦
            let last : m ≡ k = let both : Some (suc m) ≡ Some (suc k) = sym at_m ∙ ap (λ (z : Entry). z.rounds) new ∙ rounds' in cc in
            let asked' : Asks s (labels s (pair_of e) m) r = subst (λ (q : Pair). Asks s (labels s q m) r) (ap pair_of new ∙ pair) asked in
            subst (λ (z : Entry). IsHeard (set entries i e') z.children.items r) (sym new)
            (heard_set entries i e e' e'.children.items r at pair (heard r (subst (λ z. Asks s (labels s (pair_of e) z) r) last asked')))
      ];
      only = λ x there m j at_m child. elim (set-Contains entries i e' x there) [
        | inr old ↦ place_set (Asks s (labels s (pair_of x) m)) entries i e e' j at pair (table.only x old m j at_m child)
        | inl new ↦
            let last : m ≡ k = let both : Some (suc m) ≡ Some (suc k) = sym at_m ∙ ap (λ (z : Entry). z.rounds) new ∙ rounds' in cc in
            let same_label : labels s (pair_of e) k ≡ labels s (pair_of x) m = ap (λ z. labels s (pair_of e) z) (sym last) ∙ ap (λ (q : Pair). labels s q m) (sym (ap pair_of new ∙ pair)) in
            place_set (Asks s (labels s (pair_of x) m)) entries i e e' j at pair
            (subst (λ (z : List ℕ). IsAskedAt s entries z j) same_label (only j (subst (λ (z : Entry). Contains z.children.items j) new child)))
      ];
      different = subst AreDifferent (sym same) table.different;
      few = let few = table.few in omega (arith, set-length entries i e');
    }

pub more_set : (entries : List Entry) (i : ℕ) (e e' : Entry) → slice_get entries i ≡ Some e → IsKept e e' → IsMore entries (set entries i e')
more_set entries i e e' at kept = record {
  kept = λ j x at_j. elim (cases_order j i) [
    | inl same ↦
        let here : x ≡ e = let both : Some x ≡ Some e = sym at_j ∙ ap (slice_get entries) same ∙ at in cc in
        subst (λ z. IsSomeAnd (slice_get (set entries i e') z) (IsKept x)) (sym same)
        (subst (λ o. IsSomeAnd o (IsKept x)) (sym (set-here entries i e e' at)) (subst (λ (z : Entry). IsKept z e') (sym here) kept))
    | inr (inl less) ↦ subst (λ o. IsSomeAnd o (IsKept x)) (sym (set-other entries i j e' (λ e. omega arith) ∙ at_j)) (kept_itself x)
    | inr (inr more) ↦ subst (λ o. IsSomeAnd o (IsKept x)) (sym (set-other entries i j e' (λ e. omega arith) ∙ at_j)) (kept_itself x)
  ];
  longer = omega (arith, set-length entries i e');
}
  where
    kept_itself : (x : Entry) → IsKept x x
    kept_itself x = record { pair = refl; rounds = λ k done. done; at_rest = λ h. refl }

pub more_itself : (entries : List Entry) → IsMore entries entries
more_itself entries = record {
  kept = λ j x at. subst (λ o. IsSomeAnd o (IsKept x)) (sym at) (record { pair = refl; rounds = λ k done. done; at_rest = λ h. refl });
  longer = omega arith;
}

kept_at : (o : Option Entry) (x : Entry) → IsSomeAnd o (IsKept x) → (y : Entry) × (o ≡ Some y) × IsKept x y
kept_at None x h = absurd h
kept_at (Some y) x h = (y, refl, h)

-- an entry that is there stands later too
pub later_at : (old new : List Entry) (i : ℕ) (x : Entry) → IsMore old new → slice_get old i ≡ Some x → (y : Entry) × (slice_get new i ≡ Some y) × IsKept x y
later_at old new i x more at = kept_at (slice_get new i) x (more.kept i x at)

pub more_twice : (a b c : List Entry) → IsMore a b → IsMore b c → IsMore a c
more_twice a b c first second = record {
  kept = λ i x at.
      let y = later_at a b i x first at in
      let z = later_at b c i y.0 second y.1 in
      subst (λ o. IsSomeAnd o (IsKept x)) (sym z.1) (record {
        pair = z.2.pair ∙ y.2.pair;
        rounds = λ k done. z.2.rounds k (y.2.rounds k done);
        at_rest = λ rest.
            let same = y.2.at_rest rest in
            z.2.at_rest (ap (λ (w : Entry). w.rounds) same ∙ rest) ∙ same;
      });
  longer = let one = first.longer in let two = second.longer in omega arith;
}

-- what stands in the table stands there later
pub pairs_more : (old new : List Entry) → IsMore old new → Among (map pair_of old) (map pair_of new)
pairs_more old new more q there =
    let of = map-Contains pair_of old q there in
    let at = at_Contains old of.0 of.1 in
    let y = later_at old new at.0 of.0 more at.1 in
    subst (λ z. Contains (map pair_of new) z) (y.2.pair ∙ sym of.2) (Contains-map pair_of new y.0 (Contains-at new at.0 y.0 y.1))

pub more_push : (entries : List Entry) (e : Entry) → IsMore entries (entries ++ e ∷ [])
more_push entries e = record {
  kept = λ i x at. subst (λ o. IsSomeAnd o (IsKept x)) (sym (push-at entries e i x at)) (record { pair = refl; rounds = λ k done. done; at_rest = λ h. refl });
  longer = omega (arith, length-append entries (e ∷ []));
}

place_push : (P : Entry → Type 0) (entries : List Entry) (e : Entry) (j : ℕ) → IsSomeAnd (slice_get entries j) P → IsSomeAnd (slice_get (entries ++ e ∷ []) j) P
place_push P entries e j there =
    elim (slice_get entries j) as (λ o. slice_get entries j ≡ o → IsSomeAnd o P → IsSomeAnd (slice_get (entries ++ e ∷ []) j) P) [
      | None ↦ λ at none. absurd none
      | Some c ↦ λ at is. subst (λ o. IsSomeAnd o P) (sym (push-at entries e j c at)) is
    ] refl there

heard_push : (entries : List Entry) (e : Entry) (children : List ℕ) (r : Pair) → IsHeard entries children r → IsHeard (entries ++ e ∷ []) children r
heard_push entries e children r (j, among, there) = (j, among, place_push (λ (c : Entry). pair_of c ≡ r) entries e j there)

pub table_push : (s : System) (pairs : ℕ) (entries : List Entry) (e : Entry) → IsTable s pairs entries → length entries < pairs → (Contains (map pair_of entries) (pair_of e) → ⊥)
    → e.rounds ≡ Some 0 → e.firsts.items ≡ fresh_of [] 0 (kind_label s e.kind) → e.label ≡ set_of (map (λ f. f.atom) e.firsts.items) → IsTable s pairs (entries ++ e ∷ [])
table_push s pairs entries e table room new rounds firsts all =
    let same = map-append pair_of entries (e ∷ []) in
    record {
      sound = table.sound;
      up_to = λ x there. elim (Contains-append_cases entries (e ∷ []) x there) [
        | inl old ↦ table.up_to x old
        | inr last ↦ elim ((Contains-cons x e []).0 last) [
          | inl here ↦ subst (λ (z : Entry). IsUpTo s z) (sym here) (first_up s e rounds firsts all)
          | inr none ↦ absurd (Contains-none x none)
        ]
      ];
      asked = λ x there m r done asked. subst (λ (z : List Pair). Contains z r) (sym same) (elim (Contains-append_cases entries (e ∷ []) x there) [
        | inl old ↦ Contains-append_left (map pair_of entries) (map pair_of (e ∷ [])) r (table.asked x old m r done asked)
        | inr last ↦ elim ((Contains-cons x e []).0 last) [
          | inl here ↦ let never : suc m ≤ 0 = subst (λ o. IsDone o (suc m)) (ap (λ (z : Entry). z.rounds) here ∙ rounds) done in absurd (omega arith)
          | inr none ↦ absurd (Contains-none x none)
        ]
      ]);
      heard = λ x there m r at_m asked. elim (Contains-append_cases entries (e ∷ []) x there) [
        | inl old ↦ heard_push entries e x.children.items r (table.heard x old m r at_m asked)
        | inr last ↦ elim ((Contains-cons x e []).0 last) [
          | inl here ↦ let never : Some (suc m) ≡ Some 0 = sym at_m ∙ ap (λ (z : Entry). z.rounds) here ∙ rounds in cc
          | inr none ↦ absurd (Contains-none x none)
        ]
      ];
      only = λ x there m j at_m child. elim (Contains-append_cases entries (e ∷ []) x there) [
        | inl old ↦ place_push (λ (c : Entry). Asks s (labels s (pair_of x) m) (pair_of c)) entries e j (table.only x old m j at_m child)
        | inr last ↦ elim ((Contains-cons x e []).0 last) [
          | inl here ↦ let never : Some (suc m) ≡ Some 0 = sym at_m ∙ ap (λ (z : Entry). z.rounds) here ∙ rounds in absurd (cc)
          | inr none ↦ absurd (Contains-none x none)
        ]
      ];
      different = subst AreDifferent (sym same) (different_push (map pair_of entries) (pair_of e) table.different new);
      few = omega (arith, length-append entries (e ∷ []));
    }

-- new entries behind all
pub appended_none : (entries : List Entry) → IsAppended entries entries
appended_none entries = ([], sym (append-nil entries), λ e there. absurd (Contains-none e there))

pub appended_twice : (a b c : List Entry) → IsAppended a b → IsAppended b c → IsAppended a c
appended_twice a b c (xs, is, start) (ys, is', start') = (
  xs ++ ys,
  is' ∙ ap (λ z. z ++ ys) is ∙ append_assoc a xs ys,
  λ e there. elim (Contains-append_cases xs ys e there) [ inl one ↦ start e one | inr two ↦ start' e two ],
)

pub needed_push : (s : System) (qs : List Pair) (entries : List Entry) (e : Entry) → AreNeeded s qs entries → Needed s (Contains qs) (pair_of e) → AreNeeded s qs (entries ++ e ∷ [])
needed_push s qs entries e all one q there = elim (Contains-append_cases (map pair_of entries) (pair_of e ∷ []) q (subst (λ (z : List Pair). Contains z q) (map-append pair_of entries (e ∷ [])) there)) [
  | inl old ↦ all q old
  | inr last ↦ elim ((Contains-cons q (pair_of e) []).0 last) [
    | inl here ↦ subst (Needed s (Contains qs)) (sym here) one
    | inr none ↦ absurd (Contains-none q none)
  ]
]

-- a new pair behind all
pub record IsPushed (s : System) (pairs : ℕ) (old new : List Entry) (q : Pair) : Type 0 where
  pub table : IsTable s pairs new
  pub more : IsMore old new
  pub place : IsSomeAnd (slice_get new (length old)) (λ e. pair_of e ≡ q)
  pub appended : IsAppended old new
  pub needed : (qs : List Pair) → AreNeeded s qs old → Needed s (Contains qs) q → AreNeeded s qs new

pub pushed : (s : System) (pairs : ℕ) (old new : List Entry) (q : Pair) (e : Entry) → IsTable s pairs old → length old < pairs → (Contains (map pair_of old) q → ⊥)
    → pair_of e ≡ q → e.rounds ≡ Some 0 → e.children.items ≡ [] → e.firsts.items ≡ fresh_of [] 0 (kind_label s q.0) → e.label ≡ set_of (map (λ f. f.atom) e.firsts.items) → new ≡ old ++ e ∷ [] → IsPushed s pairs old new q
pushed s pairs old new q e table room absent pair rounds none firsts all is = subst (λ (z : List Entry). IsPushed s pairs old z q) (sym is) (record {
  table = table_push s pairs old e table room (λ there. absent (subst (λ z. Contains (map pair_of old) z) pair there)) rounds
      (subst (λ (z : Pair). e.firsts.items ≡ fresh_of [] 0 (kind_label s z.0)) (sym pair) firsts) all;
  more = more_push old e;
  place = subst (λ o. IsSomeAnd o (λ e. pair_of e ≡ q)) (sym (slice_get-push old e)) pair;
  appended = (
    e ∷ [],
    refl,
    λ x there. elim ((Contains-cons x e []).0 there) [
      | inl here ↦ (ap (λ (z : Entry). z.rounds) here ∙ rounds, ap (λ (z : Entry). z.children.items) here ∙ none)
      | inr never ↦ absurd (Contains-none x never)
    ],
  );
  needed = λ qs all one. needed_push s qs old e all (subst (Needed s (Contains qs)) (sym pair) one);
})

-- a full table, and a pair that isn't in it
pub full : (s : System) (pairs : ℕ) (entries : List Entry) (q : Pair) → IsTable s pairs entries → pairs ≤ length entries → (Contains (map pair_of entries) q → ⊥)
    → (qs : List Pair) → AreNeeded s qs entries → Needed s (Contains qs) q → HasMore (Needed s (Contains qs)) pairs
full s pairs entries q table all absent qs needed one =
    let few = table.few in
    let same : length (map pair_of entries) ≡ pairs = omega (arith, length-map entries pair_of) in
    subst (HasMore (Needed s (Contains qs))) same
    (one_more (Needed s (Contains qs)) (map pair_of entries) q table.different (All-from_Contains (Needed s (Contains qs)) (map pair_of entries) needed) absent one)

-- worked out up to k, and not only up to k
pub farther : (o : Option ℕ) (k : ℕ) → IsDone o k → o ≢ Some k → IsDone o (suc k)
farther None k done other = tt
farther (Some n) k done other = elim (cases_order n k) [
  | inl same ↦ absurd (other (ap Some same))
  | inr (inl less) ↦ absurd (omega arith)
  | inr (inr more) ↦ omega arith
]

-- the table after a round was noted
pub record IsStep (s : System) (pairs : ℕ) (old new : List Entry) : Type 0 where
  pub table : IsTable s pairs new
  pub more : IsMore old new
  pub same : map pair_of new ≡ map pair_of old

pub noted_step : (s : System) (pairs : ℕ) (old new : List Entry) (i : ℕ) (k : ℕ) (firsts : List First) (children : List ℕ) (e : Entry) → IsTable s pairs old → slice_get old i ≡ Some e
    → firsts ≡ fresh_of (labels s (pair_of e) k) (suc k) (labels s (pair_of e) (suc k))
    → ((r : Pair) → Asks s (labels s (pair_of e) k) r → Contains (map pair_of old) r) → ((r : Pair) → Asks s (labels s (pair_of e) k) r → IsHeard old children r)
    → ((j : ℕ) → Contains children j → IsAskedAt s old (labels s (pair_of e) k) j) → IsDone e.rounds k
    → NotedAt old new i k firsts children e → IsStep s pairs old new × IsSomeAnd (slice_get new i) (λ x. IsDone x.rounds (suc k))
noted_step s pairs old new i k firsts children e table at fresh asks heard only done (inl (e', is, rounds, pair, rounds', firsts', children', label')) =
    let kept : IsKept e e' = record {
      pair = pair;
      rounds = λ m done. let le : m ≤ k = subst (λ o. IsDone o m) rounds done in subst (λ o. IsDone o m) (sym rounds') (omega arith);
      at_rest = λ rest. let never : Some k ≡ None = sym rounds ∙ rest in cc;
    } in (
      record {
        table = subst (λ (z : List Entry). IsTable s pairs z) (sym is) (table_set s pairs old i e e' k table at rounds pair rounds' (firsts' ∙ ap (λ z. e.firsts.items ++ z) fresh)
            asks (λ r asked. subst (λ (z : List ℕ). IsHeard old z r) (sym children') (heard r asked)) (λ j child. only j (subst (λ (z : List ℕ). Contains z j) children' child))
            (label' ∙ ap (λ (z : List First). union_of e.label (set_of (map (λ (f : First). f.atom) z))) fresh));
        more = subst (λ (z : List Entry). IsMore old z) (sym is) (more_set old i e e' at kept);
        same = ap (map pair_of) is ∙ set-alike pair_of old i e e' at pair;
      },
      subst (λ (z : List Entry). IsSomeAnd (slice_get z i) (λ x. IsDone x.rounds (suc k))) (sym is)
          (subst (λ o. IsSomeAnd o (λ x. IsDone x.rounds (suc k))) (sym (set-here old i e e' at)) (subst (λ o. IsDone o (suc k)) (sym rounds') (omega arith))),
    )
noted_step s pairs old new i k firsts children e table at fresh asks heard only done (inr (is, other)) = (
  record {
    table = subst (λ (z : List Entry). IsTable s pairs z) (sym is) table;
    more = subst (λ (z : List Entry). IsMore old z) (sym is) (more_itself old);
    same = ap (map pair_of) is;
  },
  subst (λ (z : List Entry). IsSomeAnd (slice_get z i) (λ x. IsDone x.rounds (suc k))) (sym is)
      (subst (λ o. IsSomeAnd o (λ x. IsDone x.rounds (suc k))) (sym at) (farther e.rounds k done other)),
)

pub untouched_more : (old new : List Entry) (i : ℕ) (e : Entry) → slice_get old i ≡ Some e → IsUntouched old new i → IsMore old new
untouched_more old new i e at touch =
    let (e', is, some, pair, rounds, children) = touch e at in
    subst (λ (z : List Entry). IsMore old z) (sym is) (more_set old i e e' at (record {
      pair = pair;
      rounds = λ m done. subst (λ o. IsDone o m) (sym rounds) done;
      at_rest = λ rest. absurd (some rest);
    }))

pub on_err : {T E : Type 0} (P : Type 0) (r : Result T E) → P → OnErr r P
on_err P (Ok x) h = tt
on_err P (Err e) h = h

pub on_ok_more : {T E : Type 0} (P Q : Type 0) (r : Result T E) → (P → Q) → OnOk r P → OnOk r Q
on_ok_more P Q (Ok x) f h = f h
on_ok_more P Q (Err e) f h = tt

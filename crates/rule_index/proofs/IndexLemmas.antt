-- Rules found by the atoms that they look at.
use Rattle.std.proofs.Common.{◌≡◌, ◌≢◌, ◌⊎◌, ◌==◌, not, Bool, true, false, ℕ, ◌+◌, ◌<◌, ◌≤◌, List, [], ◌∷◌, ◌++◌, map, take, length, get_or, slice_get, Option, Some, None, option_map, unwrap_or, All, Contains, refl, sym, ap, ◌∙◌, inl, inr, arith, subst, Result, Ok, Err, OnErr}
use Rattle.std.specs.List.{IsFirstAndRest, filter}
use Rattle.std.specs.List.Sorted.{IsStrictlyIncreasing}
use Rattle.std.proofs.lemmas.Bool.{and_from, cases_Bool, eqb-true, eqb-false}
use Rattle.std.proofs.lemmas.List.{take_more, take_all, length-take-le, append-nil, append_assoc}
use Rattle.std.proofs.lemmas.Grind.{flat_map-append}
use Rattle.std.proofs.lemmas.List.Folds.{list_all_at, list_all_more}
use Rattle.std.proofs.lemmas.List.Sums.{fold-append}
use Rattle.std.proofs.lemmas.List.Elements.{filter-append, Contains-append_left, Contains-append_right, Contains-append_cases}
use Rattle.std.proofs.lemmas.Option.{slice_get_within, slice_get-get_or, get_or_from_slice_get}
use Rattle.tp_base.specs.Classes.{has_class, all_among, with_class, union_of, cut_to}
use Rattle.tp_base.proofs.ClassLemmas.{has_class-Contains, Contains-has_class, same_members, Contains-union_of, IsStrictlyIncreasing-union_of, IsStrictlyIncreasing-cut_to}
use Rattle.tp_base.proofs.Rising.{Contains-here, Contains-cons, Contains-none, All-from_Contains}
use Rattle.tp_base.proofs.Lists.{map_at, slice_get-append_left, slice_get-push, push_cases, take_next, Contains-at, at_Contains, at_map, Contains-only}
use Rattle.gathered.specs.Between.{IsBetween}
use Rattle.row_index.specs.Rows.{row_of, IsNoted}
use Rattle.row_index.proofs.RowLemmas.{noted_kept, noted_cases, Contains-take}
use Rattle.simple_core.specs.declared.system.System.{System}
use Rattle.simple_core.specs.declared.summaries.First.{First}
use Rattle.simple_core.specs.Systems.{IsSound}
use Rattle.simple_core.specs.declared.rules.Local.{Local}
use Rattle.simple_core.specs.declared.rules.Link.{Link}
use Rattle.simple_core.specs.declared.rules.Spawn.{Spawn}
use Rattle.simple_core.specs.Labels.{given_by_rules, given_by_links}
use Rattle.simple_core.proofs.Members.{all_among_each, flat_map-Contains, Contains-flat_map}
use Rattle.simple_core.proofs.RoundLemmas.{set_of-is, is-set_of}
use Rattle.simple_core.proofs.LabelLemmas.{IsByRule, given_by_rules-is, is-given_by_rules, given_by_links-is, is-given_by_links, kinds_at-is, is-kinds_at}
use Rattle.rule_index.specs.Asking.{IsMore, AreMet, AreMetBy, AreKinds}
use Rattle.rule_index.specs.Indexes.{IsIndex, AreNeedsNoted, IsRuleNoted, IsOneKey, AreLocalsAt, AreRareAt, AreFound, AreLinksAt, AreSpawnsAt, at_place, at_row, by_label, given_in, to_of, kind_of}

-- unions with the same members are one
pub union_of-same : (start xs ys : List ℕ) → IsStrictlyIncreasing start → ((y : ℕ) → Contains xs y → Contains ys y) → ((y : ℕ) → Contains ys y → Contains xs y) → union_of start xs ≡ union_of start ys
union_of-same start xs ys up there back =
    same_members (union_of start xs) (union_of start ys) (IsStrictlyIncreasing-union_of start xs up) (IsStrictlyIncreasing-union_of start ys up)
    (All-from_Contains (Contains (union_of start ys)) (union_of start xs) (λ y h. (Contains-union_of start ys y).1 (elim ((Contains-union_of start xs y).0 h) [ inl old ↦ inl old | inr new ↦ inr (there y new) ])))
    (All-from_Contains (Contains (union_of start xs)) (union_of start ys) (λ y h. (Contains-union_of start xs y).1 (elim ((Contains-union_of start ys y).0 h) [ inl old ↦ inl old | inr new ↦ inr (back y new) ])))

-- ---- what of a label is visible

pub seen_next : (s : System) (label seen next : List ℕ) (i a : ℕ) → slice_get label i ≡ Some a → has_class a s.visible ≡ true → seen ≡ cut_to s.visible (take i label) → next ≡ seen ++ a ∷ []
    → next ≡ cut_to s.visible (take (i + 1) label)
seen_next s label seen next i a at there so_far more =
    let p : ℕ → Bool = λ y. has_class y s.visible in
    let one : filter p (a ∷ []) ≡ a ∷ [] = rw there refl in
    more ∙ ap (λ z. z ++ a ∷ []) so_far ∙ ap (λ z. filter p (take i label) ++ z) (sym one) ∙ sym (filter-append p (take i label) (a ∷ [])) ∙ ap (filter p) (sym (take_next label i a at))

pub seen_past : (s : System) (label seen : List ℕ) (i a : ℕ) → slice_get label i ≡ Some a → has_class a s.visible ≡ false → seen ≡ cut_to s.visible (take i label) → seen ≡ cut_to s.visible (take (i + 1) label)
seen_past s label seen i a at hidden so_far =
    let p : ℕ → Bool = λ y. has_class y s.visible in
    let gone : filter p (a ∷ []) ≡ [] = rw hidden refl in
    so_far ∙ sym (append-nil (filter p (take i label))) ∙ ap (λ z. filter p (take i label) ++ z) (sym gone) ∙ sym (filter-append p (take i label) (a ∷ [])) ∙ ap (filter p) (sym (take_next label i a at))

pub seen_set : (s : System) (label seen : List ℕ) (i : ℕ) → IsStrictlyIncreasing label → length label ≤ i → seen ≡ cut_to s.visible (take i label) → union_of [] seen ≡ cut_to s.visible label
seen_set s label seen i rises over so_far =
    let is : seen ≡ cut_to s.visible label = so_far ∙ ap (λ z. cut_to s.visible z) (take_all i label over) in
    let up : IsStrictlyIncreasing seen = subst IsStrictlyIncreasing (sym is) (IsStrictlyIncreasing-cut_to s.visible label rises) in
    same_members (union_of [] seen) seen (IsStrictlyIncreasing-union_of [] seen none_rises) up
    (All-from_Contains (Contains seen) (union_of [] seen) (λ x there. elim ((Contains-union_of [] seen x).0 there) [ inl none ↦ absurd (Contains-none x none) | inr here ↦ here ]))
    (All-from_Contains (Contains (union_of [] seen)) seen (λ x there. (Contains-union_of [] seen x).1 (inr there)))
    ∙ is
  where
    none_rises : IsStrictlyIncreasing []
    none_rises k less = absurd (omega (arith, less))

-- ---- making an index

pub index_none : {X : Type 0} (key : X → ℕ) (rows : List (List ℕ)) → rows ≡ [] → IsIndex key [] rows
index_none {X} key rows none = record {
  whole = λ i x at. let never : None ≡ Some x = at in cc;
  only = λ k i there. absurd (Contains-none i (subst (λ (z : List (List ℕ)). Contains (row_of z k) i) none there));
}

pub index_more : {X : Type 0} (key : X → ℕ) (rules : List X) (i : ℕ) (x : X) (old new : List (List ℕ)) → i < length rules → x ≡ get_or rules i x → IsIndex key (take i rules) old → IsNoted old new (key x) i
    → IsIndex key (take (i + 1) rules) new
index_more {X} key rules i x old new less at before noted =
    let longer : take (i + 1) rules ≡ take i rules ++ x ∷ [] = take_more rules i x less ∙ (λ n. take i rules ++ sym at n ∷ []) in
    let long : length (take i rules) ≡ i = length-take-le i rules (omega arith) in
    subst (λ (xs : List X). IsIndex key xs new) (sym longer) (record {
      whole = λ j y at_j. elim (push_cases (take i rules) x j y at_j) [
        | inl old_one ↦ noted_kept old new (key x) i noted (key y) j (before.whole j y old_one)
        | inr last ↦
            let place : j ≡ i = last.0 ∙ long in
            subst (λ z. Contains (row_of new (key z)) j) last.1 (subst (λ z. Contains (row_of new (key x)) z) (sym place)
            (subst (λ (z : List ℕ). Contains z i) (sym noted.here) (Contains-append_right (row_of old (key x)) (i ∷ []) i (Contains-here i i [] refl))))
      ];
      only = λ k j there. elim (noted_cases old new (key x) i noted k j there) [
        | inl old_one ↦
            let y = before.only k j old_one in
            (y.0, slice_get-append_left (take i rules) (x ∷ []) j (slice_get_within (take i rules) j y.0 y.1) ∙ y.1, y.2)
        | inr last ↦ (x, ap (slice_get (take i rules ++ x ∷ [])) (last.1 ∙ sym long) ∙ slice_get-push (take i rules) x, sym last.0)
      ];
    })

-- ---- what is found

pub row_next : {X : Type 0} (f : X → List ℕ) (rules : List X) (next next' rest : List ℕ) (p : ℕ) (others : List ℕ) → rest ≡ p ∷ others → next' ≡ union_of next (at_place f rules p)
    → union_of next' (at_row f rules others) ≡ union_of next (at_row f rules rest)
row_next {X} f rules next next' rest p others split given =
    ap (λ z. union_of z (at_row f rules others)) given
    ∙ sym (fold-append (λ (xs : List ℕ) (y : ℕ). with_class y xs) next (at_place f rules p) (at_row f rules others))
    ∙ ap (λ z. union_of next (at_row f rules z)) (sym split)

pub row_end : {X : Type 0} (f : X → List ℕ) (rules : List X) (next start rest row : List ℕ) → length rest ≡ 0 → union_of next (at_row f rules rest) ≡ union_of start (at_row f rules row) → next ≡ union_of start (at_row f rules row)
row_end f rules next start [] row none same = same
row_end f rules next start (p ∷ rest) row none same = absurd (omega arith)

pub kinds_next : {X : Type 0} (f : X → List ℕ) (rules : List X) (next next' rest : List ℕ) (p : ℕ) (others : List ℕ) → rest ≡ p ∷ others → next' ≡ next ++ at_place f rules p
    → next' ++ at_row f rules others ≡ next ++ at_row f rules rest
kinds_next {X} f rules next next' rest p others split given =
    ap (λ z. z ++ at_row f rules others) given
    ∙ append_assoc next (at_place f rules p) (at_row f rules others)
    ∙ ap (λ z. next ++ at_row f rules z) (sym split)

pub kinds_end : {X : Type 0} (f : X → List ℕ) (rules : List X) (next start rest row : List ℕ) → length rest ≡ 0 → next ++ at_row f rules rest ≡ start ++ at_row f rules row → next ≡ start ++ at_row f rules row
kinds_end f rules next start [] row none same = sym (append-nil next) ∙ same
kinds_end f rules next start (p ∷ rest) row none same = absurd (omega arith)

by_label-more : {X : Type 0} (f : X → List ℕ) (rules : List X) (rows : List (List ℕ)) (at : ℕ → ℕ) (label : List ℕ) (i a : ℕ) → slice_get label i ≡ Some a
    → by_label f rules rows at (take (i + 1) label) ≡ by_label f rules rows at (take i label) ++ at_row f rules (row_of rows (at a))
by_label-more f rules rows at label i a is =
    ap (by_label f rules rows at) (take_next label i a is)
    ∙ flat_map-append (λ a. at_row f rules (row_of rows (at a))) (take i label) (a ∷ [])
    ∙ ap (λ z. by_label f rules rows at (take i label) ++ z) (append-nil (at_row f rules (row_of rows (at a))))

-- one atom of the label more
pub label_more : {X : Type 0} (f : X → List ℕ) (rules : List X) (rows : List (List ℕ)) (at : ℕ → ℕ) (label start next next' row : List ℕ) (i a : ℕ) → slice_get label i ≡ Some a
    → next ≡ union_of start (by_label f rules rows at (take i label)) → row ≡ row_of rows (at a) → next' ≡ union_of next (at_row f rules row) → next' ≡ union_of start (by_label f rules rows at (take (i + 1) label))
label_more f rules rows at label start next next' row i a is so_far here given =
    given ∙ ap (λ z. union_of next (at_row f rules z)) here ∙ ap (λ z. union_of z (at_row f rules (row_of rows (at a)))) so_far
    ∙ sym (fold-append (λ (xs : List ℕ) (y : ℕ). with_class y xs) start (by_label f rules rows at (take i label)) (at_row f rules (row_of rows (at a))))
    ∙ ap (union_of start) (sym (by_label-more f rules rows at label i a is))

pub kinds_more : {X : Type 0} (f : X → List ℕ) (rules : List X) (rows : List (List ℕ)) (at : ℕ → ℕ) (label start next next' row : List ℕ) (i a : ℕ) → slice_get label i ≡ Some a
    → next ≡ start ++ by_label f rules rows at (take i label) → row ≡ row_of rows (at a) → next' ≡ next ++ at_row f rules row → next' ≡ start ++ by_label f rules rows at (take (i + 1) label)
kinds_more f rules rows at label start next next' row i a is so_far here given =
    given ∙ ap (λ z. next ++ at_row f rules z) here ∙ ap (λ z. z ++ at_row f rules (row_of rows (at a))) so_far
    ∙ append_assoc start (by_label f rules rows at (take i label)) (at_row f rules (row_of rows (at a)))
    ∙ ap (λ z. start ++ z) (sym (by_label-more f rules rows at label i a is))

place_is : {X : Type 0} (f : X → List ℕ) (rules : List X) (i : ℕ) (x : X) → slice_get rules i ≡ Some x → at_place f rules i ≡ f x
place_is {X} f rules i x at = ap (λ (o : Option X). unwrap_or (option_map f o) []) at

module _ {X : Type 0} (f : X → List ℕ) (key : X → ℕ) (rules : List X) (rows : List (List ℕ)) (index : IsIndex key rules rows) where
  -- what the rules of a row give
  pub row-is : (k y : ℕ) → Contains (at_row f rules (row_of rows k)) y → (x : X) × Contains rules x × (key x ≡ k) × Contains (f x) y
  row-is k y there =
      let place = flat_map-Contains (at_place f rules) (row_of rows k) y there in
      let x = index.only k place.0 place.1 in
      (x.0, Contains-at rules place.0 x.0 x.1, x.2, subst (λ (z : List ℕ). Contains z y) (place_is f rules place.0 x.0 x.1) place.2)

  pub is-row : (x : X) (k y : ℕ) → Contains rules x → key x ≡ k → Contains (f x) y → Contains (at_row f rules (row_of rows k)) y
  is-row x k y (i, within, at) is given =
      let here : slice_get rules i ≡ Some x = slice_get-get_or rules i x within ∙ ap Some at in
      Contains-flat_map (at_place f rules) (row_of rows k) i y (subst (λ z. Contains (row_of rows z) i) is (index.whole i x here)) (subst (λ (z : List ℕ). Contains z y) (sym (place_is f rules i x here)) given)

  pub label-is : (at : ℕ → ℕ) (label : List ℕ) (y : ℕ) → Contains (by_label f rules rows at label) y → (a : ℕ) × Contains label a × (x : X) × Contains rules x × (key x ≡ at a) × Contains (f x) y
  label-is at label y there =
      let a = flat_map-Contains (λ a. at_row f rules (row_of rows (at a))) label y there in
      let x = row-is (at a.0) y a.2 in
      (a.0, a.1, x.0, x.1, x.2, x.3)

  pub is-label : (at : ℕ → ℕ) (label : List ℕ) (x : X) (a y : ℕ) → Contains label a → Contains rules x → key x ≡ at a → Contains (f x) y → Contains (by_label f rules rows at label) y
  is-label at label x a y in_label listed is given = Contains-flat_map (λ a. at_row f rules (row_of rows (at a))) label a y in_label (is-row x (at a) y listed is given)

-- links
pub linked : (links : List Link) (rows : List (List ℕ)) (label start : List ℕ) → AreLinksAt links rows → IsStrictlyIncreasing start → union_of start (by_label to_of links rows (λ a. a) label) ≡ union_of start (given_by_links links label)
linked links rows label start index up = union_of-same start (by_label to_of links rows (λ a. a) label) (given_by_links links label) up
    (λ y there.
    let of = label-is to_of (λ (l : Link). l.from) links rows index (λ a. a) label y there in
    let l : Link = of.2 in
    is-given_by_links links label y (record { link = l; listed = of.3; from = subst (Contains label) (sym of.4) of.1; to = Contains-only l.to y of.5 }))
    (λ y there.
    let by = given_by_links-is links label y there in
    is-label to_of (λ (l : Link). l.from) links rows index (λ a. a) label by.link by.link.from y by.from by.listed refl (Contains-here y by.link.to [] (sym by.to)))

-- kinds
pub spawned : (s : System) (rows : List (List ℕ)) (own kinds : List ℕ) → AreSpawnsAt s.child rows → kinds ≡ by_label kind_of s.child rows (λ a. a) own → AreKinds s own kinds
spawned s rows own kinds index is = λ j. (
  λ there.
      let of = label-is kind_of (λ (c : Spawn). c.needs) s.child rows index (λ a. a) own j (subst (λ (z : List ℕ). Contains z j) is there) in
      let c : Spawn = of.2 in
      is-kinds_at s own j (record { spawn = c; listed = of.3; needs = subst (Contains own) (sym of.4) of.1; kind = Contains-only c.kind j of.5 }),
  λ there.
      let by = kinds_at-is s own j there in
      subst (λ (z : List ℕ). Contains z j) (sym is)
      (is-label kind_of (λ (c : Spawn). c.needs) s.child rows index (λ a. a) own by.spawn by.spawn.needs j by.needs by.listed refl (Contains-here j by.spawn.kind [] (sym by.kind))),
)

-- rules that look at one node
given_in-is : (rules : List Local) (label : List ℕ) (r : Local) (y : ℕ) → Contains rules r → Contains (given_in label r) y → Contains (given_by_rules rules label) y
given_in-is rules label r y listed there =
    let by = given_by_rules-is (r ∷ []) label y there in
    let same : r ≡ by.rule = Contains-only r by.rule by.listed in
    is-given_by_rules rules label y (record { rule = by.rule; listed = subst (Contains rules) same listed; needs = by.needs; gives = by.gives })

is-given_in : (rules : List Local) (label : List ℕ) (y : ℕ) (by : IsByRule rules label y) → Contains (given_in label by.rule) y
is-given_in rules label y by = is-given_by_rules (by.rule ∷ []) label y (record { rule = by.rule; listed = Contains-here by.rule by.rule [] refl; needs = by.needs; gives = by.gives })

-- the rules found at a key give nothing but what the rules give
at_row-is : (rules : List Local) (label row : List ℕ) (y : ℕ) → Contains (at_row (given_in label) rules row) y → Contains (given_by_rules rules label) y
at_row-is rules label row y there =
    let of = flat_map-Contains (at_place (given_in label) rules) row y there in
    elim (slice_get rules of.0) as (λ (o : Option Local). slice_get rules of.0 ≡ o → Contains (unwrap_or (option_map (given_in label) o) []) y → Contains (given_by_rules rules label) y) [
      | None ↦ λ e h. absurd (Contains-none y h)
      | Some r ↦ λ e h. given_in-is rules label r y (Contains-at rules of.0 r e) h
    ] refl of.2

is-at_row : (rules : List Local) (rows : List (List ℕ)) (label : List ℕ) (key i : ℕ) (r : Local) (y : ℕ) → Contains (row_of rows key) i → slice_get rules i ≡ Some r → Contains (given_in label r) y → Contains (at_row (given_in label) rules (row_of rows key)) y
is-at_row rules rows label key i r y in_row at given =
    Contains-flat_map (at_place (given_in label) rules) (row_of rows key) i y in_row (subst (λ (z : List ℕ). Contains z y) (sym (place_is (given_in label) rules i r at)) given)

-- each rule that the label meets is found by the fresh atoms: where it stands behind each atom that it needs, and where it stands
-- behind one, if the whole label is fresh
pub found_by_each : (rules : List Local) (rows : List (List ℕ)) (label fresh : List ℕ) → AreLocalsAt rules rows → AreMet rules label fresh → AreFound rules rows label fresh
found_by_each rules rows label fresh index met = λ i r at needs. elim (met r (Contains-at rules i r at) needs) [
  | inl known ↦ inl known
  | inr (inl free) ↦ inr (inl (index.free i r at free))
  | inr (inr new) ↦ inr (inr (new.0, new.2, index.each i r new.0 at new.1))
]

pub found_by_rarest : (rules : List Local) (rows : List (List ℕ)) (label fresh : List ℕ) → AreRareAt rules rows → All (Contains fresh) label → AreFound rules rows label fresh
found_by_rarest rules rows label fresh index whole = λ i r at needs.
    let place = index.one i r at in
    elim place.1 [
      | inl none ↦ inr (inl (subst (λ z. Contains (row_of rows z) i) none.1 place.2))
      | inr need ↦ inr (inr (need.0, all_among_each label fresh whole need.0 (all_among_each r.needs label needs need.0 need.1), subst (λ z. Contains (row_of rows z) i) need.2 place.2))
    ]

pub ruled : (rules : List Local) (rows : List (List ℕ)) (label fresh start first next row : List ℕ) → AreFound rules rows label fresh → row ≡ row_of rows 0 → first ≡ union_of start (at_row (given_in label) rules row)
    → next ≡ union_of first (by_label (given_in label) rules rows (λ a. a + 1) fresh) → IsMore label (given_by_rules rules label) start next
ruled rules rows label fresh start first next row found at_first is_first is_next =
    let f = given_in label in
    let xs = at_row f rules (row_of rows 0) in
    let ys = by_label f rules rows (λ a. a + 1) fresh in
    let both : next ≡ union_of start (xs ++ ys) = is_next ∙ ap (λ z. union_of z ys) (is_first ∙ ap (λ z. union_of start (at_row f rules z)) at_first)
    ∙ sym (fold-append (λ (zs : List ℕ) (y : ℕ). with_class y zs) start xs ys) in
    let right : (y : ℕ) → Contains (xs ++ ys) y → Contains (given_by_rules rules label) y = λ y there. elim (Contains-append_cases xs ys y there) [
      | inl free ↦ at_row-is rules label (row_of rows 0) y free
      | inr found ↦ let of = flat_map-Contains (λ a. at_row f rules (row_of rows (a + 1))) fresh y found in at_row-is rules label (row_of rows (of.0 + 1)) y of.2
    ] in
    let whole : (y : ℕ) → Contains (given_by_rules rules label) y → Contains label y ⊎ Contains (xs ++ ys) y = λ y there.
    let by = given_by_rules-is rules label y there in
    let place = by.listed in
    let at : slice_get rules place.0 ≡ Some by.rule = slice_get-get_or rules place.0 by.rule place.1 ∙ ap Some place.2 in
    let given = is-given_in rules label y by in
    elim (found place.0 by.rule at by.needs) [
      | inl known ↦ inl (subst (Contains label) by.gives known)
      | inr (inl free) ↦ inr (Contains-append_left xs ys y (is-at_row rules rows label 0 place.0 by.rule y free at given))
      | inr (inr new) ↦ inr (Contains-append_right xs ys y (Contains-flat_map (λ a. at_row f rules (row_of rows (a + 1))) fresh new.0 y new.1
          (is-at_row rules rows label (new.0 + 1) place.0 by.rule y new.2 at given)))
    ] in
    subst (λ (z : List ℕ). IsMore label (given_by_rules rules label) start z) (sym both) (record {
      kept = λ y there. (Contains-union_of start (xs ++ ys) y).1 (inl there);
      right = λ y there. elim ((Contains-union_of start (xs ++ ys) y).0 there) [ inl old ↦ inl old | inr new ↦ inr (right y new) ];
      whole = λ y there. elim (whole y there) [ inl known ↦ inl known | inr new ↦ inr ((Contains-union_of start (xs ++ ys) y).1 (inr new)) ];
      rises = IsStrictlyIncreasing-union_of start (xs ++ ys);
    })

-- the same, where what rules give that need nothing is there
pub ruled_by : (rules : List Local) (rows : List (List ℕ)) (label fresh start next : List ℕ) → AreLocalsAt rules rows → AreMetBy rules label fresh
    → next ≡ union_of start (by_label (given_in label) rules rows (λ a. a + 1) fresh) → IsMore label (given_by_rules rules label) start next
ruled_by rules rows label fresh start next index met is_next =
    let f = given_in label in
    let ys = by_label f rules rows (λ a. a + 1) fresh in
    let right : (y : ℕ) → Contains ys y → Contains (given_by_rules rules label) y = λ y there.
    let of = flat_map-Contains (λ a. at_row f rules (row_of rows (a + 1))) fresh y there in at_row-is rules label (row_of rows (of.0 + 1)) y of.2 in
    let whole : (y : ℕ) → Contains (given_by_rules rules label) y → Contains label y ⊎ Contains ys y = λ y there.
    let by = given_by_rules-is rules label y there in
    let place = by.listed in
    let at : slice_get rules place.0 ≡ Some by.rule = slice_get-get_or rules place.0 by.rule place.1 ∙ ap Some place.2 in
    elim (met by.rule by.listed by.needs) [
      | inl known ↦ inl (subst (Contains label) by.gives known)
      | inr new ↦ inr (Contains-flat_map (λ a. at_row f rules (row_of rows (a + 1))) fresh new.0 y new.2
          (is-at_row rules rows label (new.0 + 1) place.0 by.rule y (index.each place.0 by.rule new.0 at new.1) at (is-given_in rules label y by)))
    ] in
    subst (λ (z : List ℕ). IsMore label (given_by_rules rules label) start z) (sym is_next) (record {
      kept = λ y there. (Contains-union_of start ys y).1 (inl there);
      right = λ y there. elim ((Contains-union_of start ys y).0 there) [ inl old ↦ inl old | inr new ↦ inr (right y new) ];
      whole = λ y there. elim (whole y there) [ inl known ↦ inl known | inr new ↦ inr ((Contains-union_of start ys y).1 (inr new)) ];
      rises = IsStrictlyIncreasing-union_of start ys;
    })

-- ---- what is there after a refusal

pub on_err : {T E : Type 0} (P : Type 0) (r : Result T E) → P → OnErr r P
on_err P (Ok x) p = tt
on_err P (Err e) p = p

kept_union : (start next given : List ℕ) → next ≡ union_of start given → (y : ℕ) → Contains start y → Contains next y
kept_union start next given is y there = subst (λ (z : List ℕ). Contains z y) (sym is) ((Contains-union_of start given y).1 (inl there))

pub kept_then : (start next next' given : List ℕ) → ((y : ℕ) → Contains start y → Contains next y) → next' ≡ union_of next given → (y : ℕ) → Contains start y → Contains next' y
kept_then start next next' given kept is y there = kept_union next next' given is y (kept y there)

-- a part of what is left was added
between_part : (start most next left part new : List ℕ) → union_of next left ≡ most → ((y : ℕ) → Contains start y → Contains next y) → ((y : ℕ) → Contains part y → Contains left y)
    → IsBetween next (union_of next part) new → IsBetween start most new
between_part start most next left part new whole kept among left_by = record {
  kept = λ y there. left_by.kept y (kept y there);
  within = λ y there. subst (λ (z : List ℕ). Contains z y) whole ((Contains-union_of next left y).1 (elim ((Contains-union_of next part y).0 (left_by.within y there)) [
    | inl before ↦ inl before
    | inr added ↦ inr (among y added)
  ]));
}

pub between_row : {X : Type 0} (f : X → List ℕ) (rules : List X) (start next new rest : List ℕ) (p : ℕ) (others row : List ℕ) → rest ≡ p ∷ others → union_of next (at_row f rules rest) ≡ union_of start (at_row f rules row)
    → ((y : ℕ) → Contains start y → Contains next y) → IsBetween next (union_of next (at_place f rules p)) new → IsBetween start (union_of start (at_row f rules row)) new
between_row f rules start next new rest p others row split whole kept left_by =
    between_part start (union_of start (at_row f rules row)) next (at_row f rules rest) (at_place f rules p) new whole kept
    (λ y there. subst (λ (z : List ℕ). Contains (at_row f rules z) y) (sym split) (Contains-append_left (at_place f rules p) (at_row f rules others) y there)) left_by

pub between_firsts : {X : Type 0} (f : X → List ℕ) (rules : List X) (rows : List (List ℕ)) (at : ℕ → ℕ) (start next new row : List ℕ) (rest : List First) (first : First) (others all : List First) → rest ≡ first ∷ others → row ≡ row_of rows (at first.atom)
    → union_of next (by_label f rules rows at (map (λ f. f.atom) rest)) ≡ union_of start (by_label f rules rows at (map (λ f. f.atom) all))
    → ((y : ℕ) → Contains start y → Contains next y) → IsBetween next (union_of next (at_row f rules row)) new → IsBetween start (union_of start (by_label f rules rows at (map (λ f. f.atom) all))) new
between_firsts f rules rows at start next new row rest first others all split here whole kept left_by =
    between_part start (union_of start (by_label f rules rows at (map (λ (g : First). g.atom) all))) next (by_label f rules rows at (map (λ (g : First). g.atom) rest)) (at_row f rules row) new whole kept
    (λ y there. subst (λ (z : List First). Contains (by_label f rules rows at (map (λ (g : First). g.atom) z)) y) (sym split)
    (Contains-append_left (at_row f rules (row_of rows (at first.atom))) (by_label f rules rows at (map (λ (g : First). g.atom) others)) y (subst (λ (z : List ℕ). Contains (at_row f rules z) y) here there))) left_by

pub between_label : {X : Type 0} (f : X → List ℕ) (rules : List X) (rows : List (List ℕ)) (at : ℕ → ℕ) (label start next new row : List ℕ) (i a : ℕ) → slice_get label i ≡ Some a
    → next ≡ union_of start (by_label f rules rows at (take i label)) → row ≡ row_of rows (at a) → IsBetween next (union_of next (at_row f rules row)) new → IsBetween start (union_of start (by_label f rules rows at label)) new
between_label f rules rows at label start next new row i a is so_far here left_by =
    let given = at_row f rules row in
    let g : ℕ → List ℕ = λ b. at_row f rules (row_of rows (at b)) in
    record {
      kept = λ y there. left_by.kept y (kept_union start next (by_label f rules rows at (take i label)) so_far y there);
      within = λ y there. (Contains-union_of start (by_label f rules rows at label) y).1 (elim ((Contains-union_of next given y).0 (left_by.within y there)) [
        | inl before ↦ elim ((Contains-union_of start (by_label f rules rows at (take i label)) y).0 (subst (λ (z : List ℕ). Contains z y) so_far before)) [
          | inl old ↦ inl old
          | inr earlier ↦ let of = flat_map-Contains g (take i label) y earlier in inr (Contains-flat_map g label of.0 y (Contains-take label i of.0 of.1) of.2)
        ]
        | inr now ↦ inr (Contains-flat_map g label a y (Contains-at label i a is) (subst (λ (z : List ℕ). Contains (at_row f rules z) y) here now))
      ]);
    }

-- what all rules of a label give
module _ (rules : List Local) (label start new : List ℕ) where
  pub between_ruled : (row : List ℕ) → IsBetween start (union_of start (at_row (given_in label) rules row)) new → IsBetween start (union_of start (given_by_rules rules label)) new
  between_ruled row left_by = record {
    kept = left_by.kept;
    within = λ y there. (Contains-union_of start (given_by_rules rules label) y).1 (elim ((Contains-union_of start (at_row (given_in label) rules row) y).0 (left_by.within y there)) [
      | inl old ↦ inl old
      | inr new ↦ inr (at_row-is rules label row y new)
    ]);
  }

  pub between_labelled : (rows : List (List ℕ)) (fresh : List ℕ) → IsBetween start (union_of start (by_label (given_in label) rules rows (λ a. a + 1) fresh)) new → IsBetween start (union_of start (given_by_rules rules label)) new
  between_labelled rows fresh left_by = record {
    kept = left_by.kept;
    within = λ y there. (Contains-union_of start (given_by_rules rules label) y).1 (elim ((Contains-union_of start (by_label (given_in label) rules rows (λ a. a + 1) fresh) y).0 (left_by.within y there)) [
      | inl old ↦ inl old
      | inr found ↦ let of = flat_map-Contains (λ a. at_row (given_in label) rules (row_of rows (a + 1))) fresh y found in inr (at_row-is rules label (row_of rows (of.0 + 1)) y of.2)
    ]);
  }

  pub between_found : (rows : List (List ℕ)) (fresh next row : List ℕ) → next ≡ union_of start (at_row (given_in label) rules row)
      → IsBetween next (union_of next (by_label (given_in label) rules rows (λ a. a + 1) fresh)) new → IsBetween start (union_of start (given_by_rules rules label)) new
  between_found rows fresh next row is left_by = record {
    kept = λ y there. left_by.kept y (kept_union start next (at_row (given_in label) rules row) is y there);
    within = λ y there. (Contains-union_of start (given_by_rules rules label) y).1 (elim ((Contains-union_of next (by_label (given_in label) rules rows (λ a. a + 1) fresh) y).0 (left_by.within y there)) [
      | inl before ↦ elim ((Contains-union_of start (at_row (given_in label) rules row) y).0 (subst (λ (z : List ℕ). Contains z y) is before)) [
        | inl old ↦ inl old
        | inr free ↦ inr (at_row-is rules label row y free)
      ]
      | inr found ↦ let of = flat_map-Contains (λ a. at_row (given_in label) rules (row_of rows (a + 1))) fresh y found in inr (at_row-is rules label (row_of rows (of.0 + 1)) y of.2)
    ]);
  }

-- ---- making the index of rules

pub locals_none : (rows : List (List ℕ)) → AreLocalsAt [] rows
locals_none rows = record {
  free = λ i r at none. let never : None ≡ Some r = at in cc;
  each = λ i r a at needs. let never : None ≡ Some r = at in cc;
}

pub locals_more : (rules : List Local) (i : ℕ) (r : Local) (old new : List (List ℕ)) → i < length rules → r ≡ get_or rules i r → AreLocalsAt (take i rules) old → IsRuleNoted old new r.needs i → AreLocalsAt (take (i + 1) rules) new
locals_more rules i r old new less at before noted =
    let longer : take (i + 1) rules ≡ take i rules ++ r ∷ [] = take_more rules i r less ∙ (λ n. take i rules ++ sym at n ∷ []) in
    let long : length (take i rules) ≡ i = length-take-le i rules (omega (arith, less)) in
    subst (λ (xs : List Local). AreLocalsAt xs new) (sym longer) (record {
      free = λ j x at_j none. elim (push_cases (take i rules) r j x at_j) [
        | inl old_one ↦ noted.noted.kept 0 j (before.free j x old_one none)
        | inr last ↦ subst (λ z. Contains (row_of new 0) z) (sym (last.0 ∙ long)) (noted.free (ap (λ (z : Local). z.needs) last.1 ∙ none))
      ];
      each = λ j x a at_j needs. elim (push_cases (take i rules) r j x at_j) [
        | inl old_one ↦ noted.noted.kept (a + 1) j (before.each j x a old_one needs)
        | inr last ↦ subst (λ z. Contains (row_of new (a + 1)) z) (sym (last.0 ∙ long)) (noted.noted.each a (subst (λ (z : Local). Contains z.needs a) (sym last.1) needs))
      ];
    })

-- the place of one rule, at each atom that it needs
pub needs_none : (rows : List (List ℕ)) (place : ℕ) → AreNeedsNoted rows rows [] place
needs_none rows place = record { kept = λ k i h. h; each = λ a there. absurd (Contains-none a there) }

pub needs_more : (start old new : List (List ℕ)) (needs : List ℕ) (place i a key : ℕ) → slice_get needs i ≡ Some a → key ≡ a + 1 → AreNeedsNoted start old (take i needs) place → IsNoted old new key place → AreNeedsNoted start new (take (i + 1) needs) place
needs_more start old new needs place i a key at is so_far noted =
    let here : Contains (row_of new key) place = subst (λ (z : List ℕ). Contains z place) (sym noted.here) (Contains-append_right (row_of old key) (place ∷ []) place (Contains-here place place [] refl)) in
    subst (λ (z : List ℕ). AreNeedsNoted start new z place) (sym (take_next needs i a at)) (record {
      kept = λ k j there. noted_kept old new key place noted k j (so_far.kept k j there);
      each = λ x there. elim (Contains-append_cases (take i needs) (a ∷ []) x there) [
        | inl before ↦ noted_kept old new key place noted (x + 1) place (so_far.each x before)
        | inr last ↦ subst (λ z. Contains (row_of new z) place) (is ∙ ap (λ z. z + 1) (Contains-only a x last)) here
      ];
    })

pub rule_free : (old new : List (List ℕ)) (needs : List ℕ) (place key : ℕ) → needs ≡ [] → key ≡ 0 → IsNoted old new key place → IsRuleNoted old new needs place
rule_free old new needs place key none zero_key noted = record {
  noted = record { kept = noted_kept old new key place noted; each = λ a there. absurd (Contains-none a (subst (λ (z : List ℕ). Contains z a) none there)) };
  free = λ e. subst (λ z. Contains (row_of new z) place) zero_key (subst (λ (z : List ℕ). Contains z place) (sym noted.here) (Contains-append_right (row_of old key) (place ∷ []) place (Contains-here place place [] refl)));
}

pub rule_needs : (old new : List (List ℕ)) (needs : List ℕ) (place n : ℕ) → n ≡ length needs → (n ≡ 0 → ⊥) → AreNeedsNoted old new needs place → IsRuleNoted old new needs place
rule_needs old new needs place n is some noted = record { noted = noted; free = λ e. absurd (some (is ∙ ap (λ (z : List ℕ). length z) e)) }

pub no_needs : (needs : List ℕ) (n : ℕ) → n ≡ length needs → n ≡ 0 → needs ≡ []
no_needs [] n is none = refl
no_needs (a ∷ needs) n is none = absurd (omega arith)

-- one place of each rule
pub rare_none : (rows : List (List ℕ)) → AreRareAt [] rows
rare_none rows = record { one = λ i r at. let never : None ≡ Some r = at in cc }

pub rare_more : (rules : List Local) (i : ℕ) (r : Local) (old new : List (List ℕ)) (key : ℕ) → i < length rules → r ≡ get_or rules i r → AreRareAt (take i rules) old → IsOneKey r.needs key → IsNoted old new key i → AreRareAt (take (i + 1) rules) new
rare_more rules i r old new key less at before is noted =
    let longer : take (i + 1) rules ≡ take i rules ++ r ∷ [] = take_more rules i r less ∙ (λ n. take i rules ++ sym at n ∷ []) in
    let long : length (take i rules) ≡ i = length-take-le i rules (omega (arith, less)) in
    let here : Contains (row_of new key) i = subst (λ (z : List ℕ). Contains z i) (sym noted.here) (Contains-append_right (row_of old key) (i ∷ []) i (Contains-here i i [] refl)) in
    subst (λ (xs : List Local). AreRareAt xs new) (sym longer) (record {
      one = λ j x at_j. elim (push_cases (take i rules) r j x at_j) [
        | inl old_one ↦ let place = before.one j x old_one in (place.0, place.1, noted_kept old new key i noted place.0 j place.2)
        | inr last ↦ (key, subst (λ (z : Local). IsOneKey z.needs key) last.1 is, subst (λ z. Contains (row_of new key) z) (sym (last.0 ∙ long)) here)
      ];
    })

pub rarer_need : (needs : List ℕ) (best a next i : ℕ) → Contains needs best → slice_get needs i ≡ Some a → (next ≡ best) ⊎ (next ≡ a) → Contains needs next
rarer_need needs best a next i before at is = elim is [
  | inl same ↦ subst (Contains needs) (sym same) before
  | inr other ↦ subst (Contains needs) (sym other) (Contains-at needs i a at)
]

-- ---- what asks something else

pub quiet_more : (P : ℕ → Type 0) (xs : List ℕ) (i a : ℕ) → slice_get xs i ≡ Some a → ((x : ℕ) → Contains (take i xs) x → P x → ⊥) → (P a → ⊥) → (x : ℕ) → Contains (take (i + 1) xs) x → P x → ⊥
quiet_more P xs i a at so_far now x there is =
    elim (Contains-append_cases (take i xs) (a ∷ []) x (subst (λ (z : List ℕ). Contains z x) (take_next xs i a at) there)) [
      | inl before ↦ so_far x before is
      | inr last ↦ now (subst P (sym (Contains-only a x last)) is)
    ]

-- nothing is found at a key whose row is empty
no_place : {X : Type 0} (key : X → ℕ) (rules : List X) (rows : List (List ℕ)) (a n k : ℕ) → IsIndex key rules rows → k ≡ a → n ≡ length (row_of rows k) → n ≡ 0 → (x : X) → Contains rules x → key x ≢ a
no_place key rules rows a n k index is long none x (i, within, at) needs =
    let listed : slice_get rules i ≡ Some x = slice_get-get_or rules i x within ∙ ap Some at in
    let in_row : Contains (row_of rows k) i = subst (λ z. Contains (row_of rows z) i) (needs ∙ sym is) (index.whole i x listed) in
    elim (row_of rows k) as (λ (row : List ℕ). length row ≡ 0 → Contains row i → ⊥) [
      | [] ↦ λ e h. Contains-none i h
      | y ∷ ys ↦ λ e h. absurd (omega (arith, e))
    ] (sym long ∙ none) in_row

pub no_link : (links : List Link) (rows : List (List ℕ)) (a n key : ℕ) → AreLinksAt links rows → key ≡ a → n ≡ length (row_of rows key) → n ≡ 0 → (l : Link) → Contains links l → l.from ≢ a
no_link links rows a n key index is long none = no_place (λ (l : Link). l.from) links rows a n key index is long none

pub no_spawn : (spawns : List Spawn) (rows : List (List ℕ)) (a n key : ℕ) → AreSpawnsAt spawns rows → key ≡ a → n ≡ length (row_of rows key) → n ≡ 0 → (c : Spawn) → Contains spawns c → c.needs ≢ a
no_spawn spawns rows a n key index is long none = no_place (λ (c : Spawn). c.needs) spawns rows a n key index is long none

-- ---- what a rule needs

pub has_more : (needs label : List ℕ) (i a : ℕ) (has : Bool) → slice_get needs i ≡ Some a → has ≡ has_class a label → has ≡ true → all_among (take i needs) label ≡ true → all_among (take (i + 1) needs) label ≡ true
has_more needs label i a has at is there before =
    let less = slice_get_within needs i a at in
    list_all_more (λ x. has_class x label) needs i 0 less
    ∙ and_from _ _ before (ap (λ z. has_class z label) (get_or_from_slice_get needs i a 0 at) ∙ sym is ∙ there)

pub has_not : (needs label : List ℕ) (i a : ℕ) (has : Bool) → slice_get needs i ≡ Some a → has ≡ has_class a label → has ≡ false → false ≡ all_among needs label
has_not needs label i a has at is none =
    sym (list_all_at (λ x. has_class x label) needs i 0 (slice_get_within needs i a at) (ap (λ z. has_class z label) (get_or_from_slice_get needs i a 0 at) ∙ sym is ∙ none))

-- ---- by firsts

-- the atom of one first more
pub firsts_next : {X : Type 0} (f : X → List ℕ) (rules : List X) (rows : List (List ℕ)) (at : ℕ → ℕ) (next next' row : List ℕ) (rest : List First) (first : First) (others : List First) → rest ≡ first ∷ others → row ≡ row_of rows (at first.atom)
    → next' ≡ union_of next (at_row f rules row) → union_of next' (by_label f rules rows at (map (λ f. f.atom) others)) ≡ union_of next (by_label f rules rows at (map (λ f. f.atom) rest))
firsts_next {X} f rules rows at next next' row rest first others split here given =
    let mine = at_row f rules (row_of rows (at first.atom)) in
    let left = by_label f rules rows at (map (λ (g : First). g.atom) others) in
    ap (λ z. union_of z left) (given ∙ ap (λ z. union_of next (at_row f rules z)) here)
    ∙ sym (fold-append (λ (xs : List ℕ) (y : ℕ). with_class y xs) next mine left)
    ∙ ap (λ (z : List First). union_of next (by_label f rules rows at (map (λ (g : First). g.atom) z))) (sym split)

pub firsts_end : {X : Type 0} (f : X → List ℕ) (rules : List X) (rows : List (List ℕ)) (at : ℕ → ℕ) (next start : List ℕ) (rest all : List First) → length rest ≡ 0
    → union_of next (by_label f rules rows at (map (λ f. f.atom) rest)) ≡ union_of start (by_label f rules rows at (map (λ f. f.atom) all)) → next ≡ union_of start (by_label f rules rows at (map (λ f. f.atom) all))
firsts_end f rules rows at next start [] all none same = same
firsts_end f rules rows at next start (g ∷ rest) all none same = absurd (omega arith)

-- P holds of those that are not left
pub left_fewer : (P : First → Type 0) (all rest others : List First) (first : First) → rest ≡ first ∷ others → ((f : First) → Contains all f → Contains rest f ⊎ P f) → P first → (f : First) → Contains all f → Contains others f ⊎ P f
left_fewer P all rest others first split so_far here f there = elim (so_far f there) [
  | inl left ↦ elim ((Contains-cons f first others).0 (subst (λ (z : List First). Contains z f) split left)) [
    | inl same ↦ inr (subst P (sym same) here)
    | inr later ↦ inl later
  ]
  | inr done ↦ inr done
]

pub none_left : (P : First → Type 0) (all rest : List First) → length rest ≡ 0 → ((f : First) → Contains all f → Contains rest f ⊎ P f) → (f : First) → Contains all f → P f
none_left P all [] none so_far f there = elim (so_far f there) [ inl left ↦ absurd (Contains-none f left) | inr done ↦ done ]
none_left P all (x ∷ rest) none so_far f there = absurd (omega arith)

-- a visible atom has a link that looks at it
seen_link : (s : System) (a : ℕ) → IsSound s → Contains s.visible a → (l : Link) × Contains s.up l × (l.from ≡ a)
seen_link s a sound seen =
    let from = λ (l : Link). l.from in
    let i = at_Contains (map from s.up) a (set_of-is (map from s.up) a (subst (λ (z : List ℕ). Contains z a) sound.visible seen)) in
    let l = at_map from s.up i.0 a i.1 in (l.0, Contains-at s.up i.0 l.0 l.1, l.2)

pub first_rest : {X : Type 0} (xs : List X) (x : X) (rest : List X) → IsFirstAndRest xs x rest → xs ≡ x ∷ rest
first_rest xs x rest is = is.0

-- an atom is visible where some place stands in its row
module _ (s : System) (rows : List (List ℕ)) (a n key : ℕ) (sound : IsSound s) (index : AreLinksAt s.up rows) (is : key ≡ a) (long : n ≡ length (row_of rows key)) where
  unseen_by : n ≡ 0 → has_class a s.visible ≡ false
  unseen_by none = elim (cases_Bool (has_class a s.visible)) [
    | inl seen ↦ absurd (
        let l = seen_link s a sound (Contains-has_class a s.visible seen) in
        no_link s.up rows a n key index is long none l.0 l.1 l.2)
    | inr gone ↦ gone
  ]

  seen_by : (n ≡ 0 → ⊥) → has_class a s.visible ≡ true
  seen_by some = elim (row_of rows key) as (λ (row : List ℕ). row_of rows key ≡ row → n ≡ length row → has_class a s.visible ≡ true) [
    | [] ↦ λ e h. absurd (some h)
    | i ∷ others ↦ λ e h.
        let l = index.only key i (subst (λ (z : List ℕ). Contains z i) (sym e) (Contains-here i i others refl)) in
        let from = λ (l : Link). l.from in
        has_class-Contains a s.visible (subst (λ (z : List ℕ). Contains z a) (sym sound.visible) (is-set_of (map from s.up) a (subst (Contains (map from s.up)) (l.2 ∙ is) (Contains-at (map from s.up) i l.0.from (map_at from s.up i l.0 l.1)))))
  ] refl long

pub visible_by : (s : System) (rows : List (List ℕ)) (a n key : ℕ) → IsSound s → AreLinksAt s.up rows → key ≡ a → n ≡ length (row_of rows key) → not (n == 0) ≡ has_class a s.visible
visible_by s rows a n key sound index is long = elim (cases_Bool (n == 0)) [
  | inl none ↦ ap not none ∙ sym (unseen_by s rows a n key sound index is long (eqb-true n 0 none))
  | inr some ↦ ap not some ∙ sym (seen_by s rows a n key sound index is long (eqb-false n 0 some))
]

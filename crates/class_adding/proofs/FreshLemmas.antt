-- What only older atoms give is there.
use Rattle.std.proofs.lemmas.List.Sums.{fold-append}
use Rattle.std.proofs.Common.{◌≡◌, ◌⊎◌, ◌==◌, ℕ, zero, suc, ◌+◌, ◌<◌, ◌≤◌, true, false, not, List, [], ◌∷◌, ◌++◌, length, get_or, take, slice_get, Option, Some, None, option_map, unwrap_or, IsSome, IsTrue, IsFalse, All, Contains, refl, sym, ap, ◌∙◌, inl, inr, arith, subst}
use Rattle.std.specs.List.{flat_map, range_with_len}
use Rattle.std.specs.List.Sorted.{IsStrictlyIncreasing}
use Rattle.std.proofs.lemmas.Bool.{cases_Bool, eqb-true}
use Rattle.std.proofs.lemmas.List.{get_or_past, get_or_default}
use Rattle.std.proofs.lemmas.List.Elements.{Contains-append_left, Contains-append_right, Contains-append_cases}
use Rattle.tp_base.specs.Classes.{with_class, union_of}
use Rattle.tp_base.proofs.ClassLemmas.{same_members, Contains-union_of, Contains-with_class, IsStrictlyIncreasing-union_of}
use Rattle.tp_base.proofs.Rising.{Contains-none, Contains-here, Contains-cons}
use Rattle.tp_base.proofs.Lists.{take_next}
use Rattle.tree_sem.specs.Trees.{LabelTree, node_at, children_at}
use Rattle.tree_sem.specs.Paths.{parent_of}
use Rattle.tree_sem.proofs.PathLemmas.{parent_of-child, child_of_parent}
use Rattle.tree_sem.proofs.NodeLemmas.{Contains-map, map-Contains}
use Rattle.simple_core.specs.declared.system.System.{System}
use Rattle.simple_core.specs.declared.rules.Link.{Link}
use Rattle.simple_core.specs.Labels.{given_by_rules, given_by_links, labels_below}
use Rattle.simple_core.specs.Rounds.{grown}
use Rattle.simple_core.proofs.Members.{among_all, flat_map-Contains, Contains-flat_map, Contains-range, all_among_each}
use Rattle.simple_core.proofs.LabelLemmas.{given_by_links-is, is-given_by_links}
use Rattle.simple_core.proofs.PageRest.{counted_child}
use Rattle.rule_index.specs.Asking.{IsMore}
use Rattle.class_adding.specs.Filling.{above_in, real_in, within_page, label_next, IsNews}
use Rattle.closed_page.specs.Gains.{label_in}
use Rattle.closed_page.specs.Labelled.{IsAbove}
use Rattle.class_adding.specs.Work.{AreCallersOf}
use Rattle.class_adding.specs.Fresh.{AreNewIn, IsAddedIfNew, AreFollowed, set_at, IsSettled, given_at}
use Rattle.closed_page.proofs.LabelledLemmas.{child_number}
use Rattle.class_adding.proofs.PageLookLemmas.{given_none, label_next-parts}

-- a number past all sets gives nothing
pub nothing_above : (links : List Link) (sets : List (List ℕ)) (c : ℕ) (next : List ℕ) → length sets ≤ c → next ≡ union_of next (given_by_links links (get_or sets c []))
nothing_above links sets c next past = sym (ap (λ (z : List ℕ). union_of next z) (ap (given_by_links links) (get_or_past sets c [] past) ∙ given_none links))

-- a list without length
pub no_atoms : (xs : List ℕ) → length xs ≡ 0 → xs ≡ []
no_atoms [] none = refl
no_atoms (x ∷ xs) none = absurd (omega (arith, none))

-- ---- what is given, but for what is there

more_union : (own given found old : List ℕ) → ((y : ℕ) → Contains found y → Contains given y) → ((y : ℕ) → Contains given y → Contains own y ⊎ Contains found y) → IsMore own given old (union_of old found)
more_union own given found old right whole = record {
  kept = λ y there. (Contains-union_of old found y).1 (inl there);
  right = λ y there. elim ((Contains-union_of old found y).0 there) [ inl before ↦ inl before | inr new ↦ inr (right y new) ];
  whole = λ y there. elim (whole y there) [ inl known ↦ inl known | inr new ↦ inr ((Contains-union_of old found y).1 (inr new)) ];
  rises = IsStrictlyIncreasing-union_of old found;
}

more_of : (own given found old new : List ℕ) → new ≡ union_of old found → ((y : ℕ) → Contains found y → Contains given y) → ((y : ℕ) → Contains given y → Contains own y ⊎ Contains found y) → IsMore own given old new
more_of own given found old new is right whole = subst (λ (z : List ℕ). IsMore own given old z) (sym is) (more_union own given found old right whole)

pub more_then : (own xs ys a b c : List ℕ) → IsMore own xs a b → IsMore own ys b c → IsMore own (xs ++ ys) a c
more_then own xs ys a b c first second = record {
  kept = λ y there. second.kept y (first.kept y there);
  right = λ y there. elim (second.right y there) [
    | inr new ↦ inr (Contains-append_right xs ys y new)
    | inl before ↦ elim (first.right y before) [ inl old ↦ inl old | inr new ↦ inr (Contains-append_left xs ys y new) ]
  ];
  whole = λ y there. elim (Contains-append_cases xs ys y there) [
    | inl one ↦ elim (first.whole y one) [ inl known ↦ inl known | inr new ↦ inr (second.kept y new) ]
    | inr other ↦ second.whole y other
  ];
  rises = λ up. second.rises (first.rises up);
}

-- nothing that isn't there
pub more_none : (own given old : List ℕ) → ((y : ℕ) → Contains given y → Contains own y) → IsMore own given old old
more_none own given old there = record { kept = λ y h. h; right = λ y h. inl h; whole = λ y h. inl (there y h); rises = λ up. up }

pub more_all : (own given old new : List ℕ) → new ≡ union_of old given → IsMore own given old new
more_all own given old new is = more_of own given given old new is (λ y h. h) (λ y h. inr h)

-- links that look at fresh atoms
links_right : (links : List Link) (label fresh : List ℕ) → ((a : ℕ) → Contains fresh a → Contains label a) → (y : ℕ) → Contains (given_by_links links fresh) y → Contains (given_by_links links label) y
links_right links label fresh within y there =
    let by = given_by_links-is links fresh y there in
    is-given_by_links links label y (record { link = by.link; listed = by.listed; from = within by.link.from by.from; to = by.to })

links_whole : (links : List Link) (own label fresh : List ℕ) → AreFollowed links own label fresh → (y : ℕ) → Contains (given_by_links links label) y → Contains own y ⊎ Contains (given_by_links links fresh) y
links_whole links own label fresh followed y there =
    let by = given_by_links-is links label y there in
    elim (followed by.link by.listed by.from) [
      | inl known ↦ inl (subst (Contains own) by.to known)
      | inr new ↦ inr (is-given_by_links links fresh y (record { link = by.link; listed = by.listed; from = new; to = by.to }))
    ]

-- ---- at a node

module _ (s : System) (u : LabelTree) (nodes fresh : List (List ℕ)) (i : ℕ) (less : i < length nodes) (settled : IsSettled s u nodes fresh i)
    (there : (vi : List ℕ) → IsSome (node_at vi u) → Contains nodes vi) where
  abbrev vi : List ℕ
  vi = get_or nodes i []

  abbrev own_i : List ℕ
  own_i = label_in u vi

  above_child : (p : List ℕ) (n : ℕ) → vi ≡ p ++ n ∷ [] → above_in u vi ≡ label_in u p
  above_child p n is = ap (λ o. unwrap_or (option_map (label_in u) o) []) (ap parent_of is ∙ parent_of-child p n)

  no_label : (p : List ℕ) → (Contains nodes p → ⊥) → label_in u p ≡ []
  no_label p none = elim (node_at p u) as (λ o. (IsSome o → Contains nodes p) → unwrap_or (option_map (λ (s : LabelTree). s.label) o) [] ≡ []) [ None ↦ λ h. refl | Some s ↦ λ h. absurd (none (h refl)) ] (there p)

  above_none : IsAbove nodes vi None → above_in u vi ≡ []
  above_none h =
      elim (parent_of vi) as (λ o. ((p : List ℕ) → o ≡ Some p → (k : ℕ) × (vi ≡ p ++ k ∷ [])) → unwrap_or (option_map (label_in u) o) [] ≡ []) [
        | None ↦ λ up. refl
        | Some p ↦ λ up. let k = up p refl in no_label p (h p k.0 k.1)
      ] (λ p e. child_of_parent vi p e)

  pub more_above : (o : Option ℕ) (old new : List ℕ) → IsAbove nodes vi o → new ≡ union_of old (given_by_links s.up (set_at fresh o)) → IsMore own_i (given_by_links s.up (above_in u vi)) old new
  more_above None old new above is =
      let none : given_by_links s.up (above_in u vi) ≡ [] = ap (given_by_links s.up) (above_none above) ∙ given_none s.up in
      more_of own_i (given_by_links s.up (above_in u vi)) (given_by_links s.up []) old new is
      (λ y h. absurd (Contains-none y (subst (λ (z : List ℕ). Contains z y) (given_none s.up) h))) (λ y h. absurd (Contains-none y (subst (λ (z : List ℕ). Contains z y) none h)))
  more_above (Some j) old new above is =
      let p = get_or nodes j [] in
      let new_there = get_or fresh j [] in
      let same : above_in u vi ≡ label_in u p = above_child p above.1 above.2 in
      subst (λ (z : List ℕ). IsMore own_i (given_by_links s.up z) old new) (sym same)
      (more_of own_i (given_by_links s.up (label_in u p)) (given_by_links s.up new_there) old new is (links_right s.up (label_in u p) new_there (settled.right j above.0))
      (links_whole s.up own_i (label_in u p) new_there (settled.above j above.1 above.0 above.2)))

  pub more_below : (row old new : List ℕ) → AreCallersOf nodes fresh i row → new ≡ union_of old (given_at s fresh row) → IsMore own_i (flat_map (given_by_links s.down) (real_in u vi)) old new
  more_below row old new kids is =
      let give = given_by_links s.down in
      let count = unwrap_or (children_at vi u) 0 in
      let child : ℕ → List ℕ = λ n. label_in u (vi ++ n ∷ []) in
      more_of own_i (flat_map give (real_in u vi)) (given_at s fresh row) old new is
      (λ y h.
      let of = flat_map-Contains (λ c. give (get_or fresh c [])) row y h in
      let kid = kids.only of.0 of.1 in
      let by = given_by_links-is s.down (get_or fresh of.0 []) y of.2 in
      let from : Contains (label_in u (get_or nodes of.0 [])) by.link.from = settled.right of.0 kid.0 by.link.from by.from in
      let from' : Contains (child kid.1) by.link.from = subst (λ (z : List ℕ). Contains (label_in u z) by.link.from) kid.2 from in
      Contains-flat_map give (real_in u vi) (child kid.1) y
      (Contains-map child (range_with_len 0 count) kid.1 (Contains-range count kid.1 (child_within vi kid.1 by.link.from from')))
      (is-given_by_links s.down (child kid.1) y (record { link = by.link; listed = by.listed; from = from'; to = by.to })))
      (λ y h.
      let of = flat_map-Contains give (real_in u vi) y h in
      let n = map-Contains child (range_with_len 0 count) of.0 of.1 in
      let node : IsSome (node_at (vi ++ n.0 ∷ []) u) = counted_child vi u n.0 n.1 in
      let place = there (vi ++ n.0 ∷ []) node in
      let at : get_or nodes place.0 [] ≡ vi ++ n.0 ∷ [] = get_or_default nodes place.0 [] (vi ++ n.0 ∷ []) place.1 ∙ place.2 in
      let given : Contains (give (label_in u (get_or nodes place.0 []))) y = subst (λ (z : List ℕ). Contains (give z) y) (n.2 ∙ ap (label_in u) (sym at)) of.2 in
      elim (links_whole s.down own_i (label_in u (get_or nodes place.0 [])) (get_or fresh place.0 []) (settled.below place.0 n.0 place.1 at) y given) [
        | inl known ↦ inl known
        | inr new_one ↦
            let by = given_by_links-is s.down (get_or fresh place.0 []) y new_one in
            inr (Contains-flat_map (λ c. give (get_or fresh c [])) row place.0 y (kids.heard place.0 n.0 by.link.from place.1 at by.from) new_one)
      ])
    where
      labelled : (w : List ℕ) (u : LabelTree) (a : ℕ) → Contains (label_in u w) a → IsSome (node_at w u)
      labelled w u a in_label = elim (node_at w u) as (λ o. Contains (unwrap_or (option_map (λ (s : LabelTree). s.label) o) []) a → IsSome o) [ None ↦ λ h. absurd (Contains-none a h) | Some s ↦ λ h. refl ] in_label

      child_within : (w : List ℕ) (n a : ℕ) → Contains (label_in u (w ++ n ∷ [])) a → n < unwrap_or (children_at w u) 0
      child_within w n a in_label = child_number w n u (labelled (w ++ n ∷ []) u a in_label)

  pub more_within : (o : Option ℕ) (row first second third : List ℕ) → IsAbove nodes vi o → AreCallersOf nodes fresh i row → IsMore own_i (given_by_rules s.local own_i) [] first → second ≡ union_of first (given_by_links s.up (set_at fresh o))
      → third ≡ union_of second (given_at s fresh row) → IsMore own_i (within_page s u vi) [] third
  more_within o row first second third above kids local is_second is_third =
      let both = more_then own_i (given_by_rules s.local own_i) (given_by_links s.up (above_in u vi)) [] first second local (more_above o first second above is_second) in
      more_then own_i (given_by_rules s.local own_i ++ given_by_links s.up (above_in u vi)) (flat_map (given_by_links s.down) (real_in u vi)) [] second third both (more_below row second third kids is_third)

  pub given_more : (own : List ℕ) → label_in u vi ≡ own → (o : Option ℕ) (row start first second third : List ℕ) → start ≡ [] → IsAbove nodes vi o → AreCallersOf nodes fresh i row → IsMore own (given_by_rules s.local own) start first
      → second ≡ union_of first (given_by_links s.up (set_at fresh o)) → third ≡ union_of second (given_at s fresh row) → IsMore own (within_page s u vi) [] third
  given_more own same o row start first second third empty above kids local is_second is_third =
      let local' : IsMore own (given_by_rules s.local own) [] first = subst (λ (z : List ℕ). IsMore own (given_by_rules s.local own) z first) empty local in
      subst (λ (z : List ℕ). IsMore z (within_page s u vi) [] third) same
      (more_within o row first second third above kids (subst (λ (z : List ℕ). IsMore z (given_by_rules s.local z) [] first) (sym same) local') is_second is_third)

-- ---- what is new

pub next-is : (s : System) (u : LabelTree) (k : ℕ) (v : List ℕ) (a : ℕ) → Contains (label_next s (grown s k) u v) a → Contains (label_in u v) a ⊎ (Contains (within_page s u v) a ⊎ Contains (flat_map (given_by_links s.down) (labels_below s (grown s k) (label_in u v))) a)
next-is s u k v a there =
    let below = flat_map (given_by_links s.down) (labels_below s (grown s k) (label_in u v)) in
    let half = union_of (label_in u v) (within_page s u v) in
    elim ((Contains-union_of half below a).0 (subst (λ (z : List ℕ). Contains z a) (sym (label_next-parts s (grown s k) u v)) there)) [
      | inr given ↦ inr (inr given)
      | inl first ↦ elim ((Contains-union_of (label_in u v) (within_page s u v) a).0 first) [ inl own ↦ inl own | inr within ↦ inr (inl within) ]
    ]

pub is-next : (s : System) (u : LabelTree) (k : ℕ) (v : List ℕ) (a : ℕ) → Contains (label_in u v) a ⊎ (Contains (within_page s u v) a ⊎ Contains (flat_map (given_by_links s.down) (labels_below s (grown s k) (label_in u v))) a) → Contains (label_next s (grown s k) u v) a
is-next s u k v a cases =
    let below = flat_map (given_by_links s.down) (labels_below s (grown s k) (label_in u v)) in
    let half = union_of (label_in u v) (within_page s u v) in
    subst (λ (z : List ℕ). Contains z a) (label_next-parts s (grown s k) u v) ((Contains-union_of half below a).1 (elim cases [
      | inl own ↦ inl ((Contains-union_of (label_in u v) (within_page s u v) a).1 (inl own))
      | inr (inl within) ↦ inl ((Contains-union_of (label_in u v) (within_page s u v) a).1 (inr within))
      | inr (inr given) ↦ inr given
    ]))

pub is_news : (s : System) (u : LabelTree) (k : ℕ) (v own half all news : List ℕ) → label_in u v ≡ own → IsMore own (within_page s u v) [] half
    → IsMore own (flat_map (given_by_links s.down) (labels_below s (grown s k) own)) half all → AreNewIn own all news → IsNews s u k v news
is_news s u k v own half all news same first second new =
    let below = flat_map (given_by_links s.down) (labels_below s (grown s k) own) in
    let more : IsMore own (within_page s u v ++ below) [] all = more_then own (within_page s u v) below [] half all first second in
    let at : (z : List ℕ) → label_in u v ≡ z → flat_map (given_by_links s.down) (labels_below s (grown s k) (label_in u v)) ≡ flat_map (given_by_links s.down) (labels_below s (grown s k) z) =
    λ z e. ap (λ (y : List ℕ). flat_map (given_by_links s.down) (labels_below s (grown s k) y)) e in
    let same_below = at own same in
    record {
      right = λ a there. elim (more.right a (new.right a there)) [
        | inl none ↦ absurd (Contains-none a none)
        | inr given ↦ is-next s u k v a (inr (elim (Contains-append_cases (within_page s u v) below a given) [
          | inl within ↦ inl within
          | inr added ↦ inr (subst (λ (z : List ℕ). Contains z a) (sym same_below) added)
        ]))
      ];
      whole = λ a there. elim (next-is s u k v a there) [
        | inl known ↦ inl known
        | inr given ↦
            let listed : Contains (within_page s u v ++ below) a = elim given [
              | inl within ↦ Contains-append_left (within_page s u v) below a within
              | inr added ↦ Contains-append_right (within_page s u v) below a (subst (λ (z : List ℕ). Contains z a) same_below added)
            ] in
            let to_own : Contains own a → Contains (label_in u v) a = λ h. subst (λ (z : List ℕ). Contains z a) (sym same) h in
            elim (more.whole a listed) [
              | inl known ↦ inl (to_own known)
              | inr found ↦ elim (new.whole a found) [ inl known ↦ inl (to_own known) | inr fresh ↦ inr fresh ]
            ]
      ];
    }

-- ---- those atoms that a label doesn't have

pub new_none : (own : List ℕ) → AreNewIn own [] []
new_none own = record { other = λ a there. absurd (Contains-none a there); right = λ a there. there; whole = λ a there. absurd (Contains-none a there) }

pub new_more : (own given news news' : List ℕ) (i a : ℕ) → slice_get given i ≡ Some a → AreNewIn own (take i given) news → IsAddedIfNew own a news news' → AreNewIn own (take (i + 1) given) news'
new_more own given news news' i a at so_far added =
    let longer : take (i + 1) given ≡ take i given ++ a ∷ [] = take_next given i a at in
    subst (λ (z : List ℕ). AreNewIn own z news') (sym longer) (record {
      other = λ x there. elim (added.right x there) [ inl before ↦ so_far.other x before | inr now ↦ now.1 ];
      right = λ x there. elim (added.right x there) [
        | inl before ↦ Contains-append_left (take i given) (a ∷ []) x (so_far.right x before)
        | inr now ↦ Contains-append_right (take i given) (a ∷ []) x (Contains-here x a [] now.0)
      ];
      whole = λ x there. elim (Contains-append_cases (take i given) (a ∷ []) x there) [
        | inl before ↦ elim (so_far.whole x before) [ inl known ↦ inl known | inr new ↦ inr (added.kept x new) ]
        | inr last ↦ elim ((Contains-cons x a []).0 last) [
          | inr none ↦ absurd (Contains-none x none)
          | inl here ↦ elim added.there [
            | inl known ↦ inl (subst (Contains own) (sym here) known)
            | inr new ↦ inr (subst (Contains news') (sym here) new)
          ]
        ]
      ];
    })

-- a label that has none of them
pub all_new : (own given : List ℕ) → ((a : ℕ) → Contains given a → Contains own a → ⊥) → AreNewIn own given given
all_new own given none = record { other = none; right = λ a there. there; whole = λ a there. inr there }

pub added_old : (own news : List ℕ) (a : ℕ) → Contains own a → IsAddedIfNew own a news news
added_old own news a known = record { kept = λ x h. h; right = λ x h. inl h; there = inl known }

pub added_new : (own news news' : List ℕ) (a : ℕ) → (Contains own a → ⊥) → news' ≡ with_class a news → IsAddedIfNew own a news news'
added_new own news news' a none is = subst (λ (z : List ℕ). IsAddedIfNew own a news z) (sym is) (record {
  kept = λ x h. (Contains-with_class a news x).1 (inr h);
  right = λ x h. elim ((Contains-with_class a news x).0 h) [ inl here ↦ inr (here, λ known. none (subst (Contains own) here known)) | inr before ↦ inl before ];
  there = inr ((Contains-with_class a news a).1 (inl refl));
})

-- a set of atoms that aren't there
pub some_new : (own given news : List ℕ) (n : ℕ) → AreNewIn own given news → n ≡ length news → (n ≡ 0 → ⊥) → All (Contains own) news → ⊥
some_new own given [] n new is some all = some is
some_new own given (a ∷ news) n new is some all = new.other a (Contains-here a a news refl) (all_among_each (a ∷ news) own all a (Contains-here a a news refl))

pub was_some : (n : ℕ) → IsTrue (not (n == 0)) → n ≡ 0 → ⊥
was_some zero h e = cc
was_some (suc n) h e = omega (arith, e)

pub none_new : (n : ℕ) (news : List ℕ) → n ≡ length news → IsFalse (not (n == 0)) → news ≡ []
none_new n [] is h = refl
none_new n (a ∷ news) is h = elim (cases_Bool (n == 0)) [
  | inl here ↦ let zero_is : n ≡ 0 = eqb-true n 0 here in absurd (omega (arith, is, zero_is))
  | inr other ↦ let never : true ≡ false = sym (ap not other) ∙ h in cc
]

-- ---- what is given by the labels with some numbers

pub each_next : (s : System) (own : List (List ℕ)) (next next' rest : List ℕ) (c : ℕ) (others : List ℕ) → rest ≡ c ∷ others → next' ≡ union_of next (given_by_links s.down (get_or own c []))
    → union_of next' (given_at s own others) ≡ union_of next (given_at s own rest)
each_next s own next next' rest c others split given =
    ap (λ z. union_of z (given_at s own others)) given
    ∙ sym (fold-append (λ (xs : List ℕ) (y : ℕ). with_class y xs) next (given_by_links s.down (get_or own c [])) (given_at s own others))
    ∙ ap (λ z. union_of next (given_at s own z)) (sym split)

pub each_end : (s : System) (own : List (List ℕ)) (next start rest row : List ℕ) → length rest ≡ 0 → union_of next (given_at s own rest) ≡ union_of start (given_at s own row) → next ≡ union_of start (given_at s own row)
each_end s own next start [] row none same = same
each_end s own next start (c ∷ rest) row none same = absurd (omega arith)

-- ---- what was given already

twice : (xs ys : List ℕ) → IsStrictlyIncreasing xs → union_of xs ys ≡ union_of (union_of xs ys) ys
twice xs ys rises =
    let once = IsStrictlyIncreasing-union_of xs ys rises in
    same_members (union_of xs ys) (union_of (union_of xs ys) ys) once (IsStrictlyIncreasing-union_of (union_of xs ys) ys once)
    (among_all (union_of xs ys) (union_of (union_of xs ys) ys) (λ a there. (Contains-union_of (union_of xs ys) ys a).1 (inl there)))
    (among_all (union_of (union_of xs ys) ys) (union_of xs ys) (λ a there. elim ((Contains-union_of (union_of xs ys) ys a).0 there) [
      | inl before ↦ before
      | inr again ↦ (Contains-union_of xs ys a).1 (inr again)
    ]))

-- before the first set
pub none_last : (links : List Link) (next : List ℕ) → next ≡ union_of next (given_by_links links [])
none_last links next = sym (ap (λ (z : List ℕ). union_of next z) (given_none links))

-- what a set has given is there
pub one_last : (links : List Link) (own : List (List ℕ)) (c : ℕ) (next next' : List ℕ) → IsStrictlyIncreasing next → next' ≡ union_of next (given_by_links links (get_or own c [])) → next' ≡ union_of next' (given_by_links links (get_or own c []))
one_last links own c next next' rises given = let gives = given_by_links links (get_or own c []) in given ∙ twice next gives rises ∙ ap (λ (z : List ℕ). union_of z gives) (sym given)

-- a set with the same atoms adds nothing
pub given_again : (links : List Link) (own : List (List ℕ)) (last : Option ℕ) (c : ℕ) (next : List ℕ) → get_or own c [] ≡ set_at own last → next ≡ union_of next (given_by_links links (set_at own last)) → next ≡ union_of next (given_by_links links (get_or own c []))
given_again links own last c next same given = given ∙ ap (λ (z : List ℕ). union_of next (given_by_links links z)) (sym same)

-- a number that is past all labels gives nothing
pub nothing_past : (s : System) (own : List (List ℕ)) (c : ℕ) (next : List ℕ) → length own ≤ c → next ≡ union_of next (given_by_links s.down (get_or own c []))
nothing_past s own c next past = sym (ap (λ (z : List ℕ). union_of next z) (ap (given_by_links s.down) (get_or_past own c [] past) ∙ given_none s.down))

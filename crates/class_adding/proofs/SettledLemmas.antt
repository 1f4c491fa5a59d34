-- From round to round: what only older atoms give is in the labels, what they ask is known, and a node to which no link leads
-- from what is fresh can be passed over.
use Rattle.std.proofs.Common.{◌≡◌, ◌⊎◌, ℕ, suc, ◌<◌, ◌^◌, true, false, List, [], ◌∷◌, ◌++◌, length, get_or, Option, Some, None, option_map, unwrap_or, IsSome, IfSome, All, Contains, refl, sym, ap, ◌∙◌, inl, inr, arith, subst}
use Rattle.std.specs.List.{flat_map, range_with_len}
use Rattle.std.specs.List.Sorted.{IsStrictlyIncreasing}
use Rattle.std.proofs.lemmas.Bool.{cases_Bool, cases_lt, both_ways, eq-eqb}
use Rattle.std.proofs.lemmas.List.{get_or_default}
use Rattle.std.proofs.lemmas.List.Elements.{Contains-append_left, Contains-append_right, Contains-append_cases, Contains-get_or}
use Rattle.tp_base.specs.Classes.{has_class, all_among}
use Rattle.tp_base.proofs.ClassLemmas.{same_members, has_class-Contains, all_among-All, Contains-cut_to, IsStrictlyIncreasing-cut_to}
use Rattle.tp_base.proofs.Rising.{Contains-none, Contains-here, Contains-behind}
use Rattle.tree_sem.specs.Trees.{LabelTree, node_at, children_at}
use Rattle.tree_sem.specs.Order.{paths_of}
use Rattle.tree_sem.specs.Paths.{parent_of}
use Rattle.tree_sem.proofs.PathLemmas.{parent_of-child, IsSome-parent_of, child_of_parent}
use Rattle.tree_sem.proofs.NodeLemmas.{Contains-map, map-Contains, Contains-paths_of}
use Rattle.simple_core.specs.declared.system.System.{System}
use Rattle.simple_core.specs.Labels.{given_by_rules, given_by_links, kinds_at, visible_in, labels_below}
use Rattle.simple_core.specs.Rounds.{grown}
use Rattle.simple_core.specs.Pairs.{Pair, Asks}
use Rattle.simple_core.proofs.Members.{among_all, all_among_each, flat_map-Contains, Contains-flat_map, Contains-range}
use Rattle.simple_core.specs.declared.rules.Local.{Local}
use Rattle.simple_core.proofs.PageRest.{counted_child}
use Rattle.simple_core.proofs.LabelLemmas.{given_by_rules-is, is-given_by_rules, given_by_links-is, is-given_by_links, kinds_at-is, is-kinds_at}
use Rattle.simple_core.proofs.PageLemmas.{page-rises}
use Rattle.rule_index.specs.Asking.{AreUnseen}
use Rattle.closed_page.specs.Gains.{Gain}
use Rattle.class_adding.specs.Filling.{above_in, real_in, within_page, label_next, IsAfter, AreFresh, IsBefore, IsLooked, AreLooked, wake_at, wakes_in}
use Rattle.closed_page.specs.Gains.{label_in}
use Rattle.closed_page.specs.Labelled.{AreAllLabels}
use Rattle.class_adding.specs.Fresh.{AreSettled, IsResting, AreResting}
use Rattle.closed_page.proofs.LabelledLemmas.{child_number}
use Rattle.class_adding.proofs.PageLookLemmas.{given_none, label_next-round}
use Rattle.class_adding.proofs.FreshLemmas.{next-is, is-next}
use Rattle.class_adding.proofs.RoundLemmas.{both_of}

-- one that isn't among them
missing : (xs ys : List ℕ) → all_among xs ys ≡ false → (a : ℕ) × Contains xs a × (has_class a ys ≡ false)
missing [] ys h = cc
missing (x ∷ xs) ys h = elim (has_class x ys) as (λ b. has_class x ys ≡ b → (a : ℕ) × Contains (x ∷ xs) a × (has_class a ys ≡ false)) [
  | false ↦ λ e. (x, Contains-here x x xs refl, e)
  | true ↦ λ e. let rest = missing xs ys (rw e at h) in (rest.0, Contains-behind rest.0 x xs rest.1, rest.2)
] refl

after_of : (k n : ℕ) (wake : Option ℕ) → IfSome wake (λ r. (k < r) × (r < n)) → IfSome wake (λ r. k < r)
after_of k n None h = tt
after_of k n (Some r) h = h.0

bound_of : (k n : ℕ) (wake : Option ℕ) → IfSome wake (λ r. (k < r) × (r < n)) → IfSome wake (λ r. r < n)
bound_of k n None h = tt
bound_of k n (Some r) h = h.1

-- a node that doesn't wake in the next round sleeps past it
pub sleeps_past : (k n : ℕ) (wake : Option ℕ) → IfSome wake (λ r. (k < r) × (r < n)) → (wake ≡ Some (suc k) → ⊥) → IfSome wake (λ r. (suc k < r) × (r < n))
sleeps_past k n None later other = tt
sleeps_past k n (Some r) later other = elim (cases_lt (suc k) r) [
  | inl less ↦ (less, later.1)
  | inr le ↦ let after : k < r = later.0 in let same : r ≡ suc k = omega arith in absurd (other (ap Some same))
]

pub past_next : (k n : ℕ) (wake : Option ℕ) → IfSome wake (λ r. (suc k < r) × (r < n)) → IsBefore (suc k) wake
past_next k n None later = tt
past_next k n (Some r) later = later.0

module _ (s : System) (t u u' : LabelTree) (k : ℕ) (nodes fresh : List (List ℕ)) (all : nodes ≡ paths_of t) (after : IsAfter s t k u) (after' : IsAfter s t (suc k) u') (are : AreFresh s u k nodes fresh) where
  node_of_page : (j : ℕ) → j < length nodes → IsSome (node_at (get_or nodes j []) t)
  node_of_page j less = (Contains-paths_of t (get_or nodes j [])).0 (subst (λ (z : List (List ℕ)). Contains z (get_or nodes j [])) all (Contains-get_or nodes j [] less))

  now_is : (j : ℕ) → j < length nodes → label_in u' (get_or nodes j []) ≡ label_next s (grown s k) u (get_or nodes j [])
  now_is j less = after'.labels (get_or nodes j []) (node_of_page j less) ∙ sym (label_next-round s t k u after (get_or nodes j []) (node_of_page j less))

  -- an atom of the next label is an older one or a fresh one, and older ones stay
  old_or_fresh : (j : ℕ) → j < length nodes → (a : ℕ) → Contains (label_in u' (get_or nodes j [])) a → Contains (label_in u (get_or nodes j [])) a ⊎ Contains (get_or fresh j []) a
  old_or_fresh j less a there = (are j less).whole a (subst (λ (z : List ℕ). Contains z a) (now_is j less) there)

  given_now : (j : ℕ) → j < length nodes → (a : ℕ)
      → Contains (label_in u (get_or nodes j [])) a ⊎ (Contains (within_page s u (get_or nodes j [])) a ⊎ Contains (flat_map (given_by_links s.down) (labels_below s (grown s k) (label_in u (get_or nodes j [])))) a)
      → Contains (label_in u' (get_or nodes j [])) a
  given_now j less a cases = subst (λ (z : List ℕ). Contains z a) (sym (now_is j less)) (is-next s u k (get_or nodes j []) a cases)

  pub settled_next : AreSettled s u' nodes fresh
  settled_next i less =
      let v = get_or nodes i [] in
      let own = label_in u v in
      let rules = given_by_rules s.local own in
      let ups = given_by_links s.up (above_in u v) in
      let downs = flat_map (given_by_links s.down) (real_in u v) in
      record {
        right = λ j in_j a there. subst (λ (z : List ℕ). Contains z a) (sym (now_is j in_j)) ((are j in_j).right a there);
        here = λ r listed needs. elim (cases_Bool (all_among r.needs own)) [
          | inl there ↦ inl (given_now i less r.gives (inr (inl (Contains-append_left (rules ++ ups) downs r.gives (Contains-append_left rules ups r.gives
              (is-given_by_rules s.local own r.gives (record { rule = r; listed = listed; needs = all_among-All r.needs own there; gives = refl })))))))
          | inr lacks ↦
              let a = missing r.needs own lacks in
              elim (old_or_fresh i less a.0 (all_among_each r.needs (label_in u' v) needs a.0 a.1)) [
                | inl old ↦ absurd (both_ways (has_class a.0 own) a.2 (has_class-Contains a.0 own old))
                | inr new ↦ inr (inr (a.0, a.1, new))
              ]
        ];
        above = λ j n in_j at l listed from. elim (old_or_fresh j in_j l.from from) [
          | inr new ↦ inr new
          | inl old ↦
              let same : above_in u v ≡ label_in u (get_or nodes j []) = ap (λ o. unwrap_or (option_map (label_in u) o) []) (ap parent_of at ∙ parent_of-child (get_or nodes j []) n) in
              inl (given_now i less l.to (inr (inl (Contains-append_left (rules ++ ups) downs l.to (Contains-append_right rules ups l.to
              (is-given_by_links s.up (above_in u v) l.to (record { link = l; listed = listed; from = subst (λ (z : List ℕ). Contains z l.from) (sym same) old; to = refl })))))))
        ];
        below = λ j n in_j at l listed from. elim (old_or_fresh j in_j l.from from) [
          | inr new ↦ inr new
          | inl old ↦
              let child : ℕ → List ℕ = λ n. label_in u (v ++ n ∷ []) in
              let count = unwrap_or (children_at v u) 0 in
              let node : IsSome (node_at (v ++ n ∷ []) u) = subst (λ (z : List ℕ). IsSome (node_at z u)) at ((after.nodes (get_or nodes j [])).1 (node_of_page j in_j)) in
              let old' : Contains (child n) l.from = subst (λ (z : List ℕ). Contains (label_in u z) l.from) at old in
              inl (given_now i less l.to (inr (inl (Contains-append_right (rules ++ ups) downs l.to
              (Contains-flat_map (given_by_links s.down) (real_in u v) (child n) l.to (Contains-map child (range_with_len 0 count) n (Contains-range count n (child_number v n u node)))
              (is-given_by_links s.down (child n) l.to (record { link = l; listed = listed; from = old'; to = refl })))))))
        ];
      }

  pub resting_next : (known : Pair → Type 0) (gains : List Gain) (wakes wakes' : List (Option ℕ)) → wakes' ≡ wakes → AreLooked s u k known gains wakes nodes → AreResting s u' (suc k) known nodes fresh wakes'
  resting_next known gains wakes wakes' same_wakes looked i less =
      subst (λ (z : List (Option ℕ)). IsResting s (suc k) known (label_in u' (get_or nodes i [])) (get_or fresh i []) (wake_at z i)) (sym same_wakes) (λ quiet same.
      let v = get_or nodes i [] in
      let own = label_in u v in
      let own' = label_in u' v in
      let wake = wake_at wakes i in
      let look = looked i less in
      let other : wake ≡ Some (suc k) → ⊥ = λ e. both_ways (wakes_in (suc k) wake) quiet (ap (wakes_in (suc k)) e ∙ eq-eqb (suc k) (suc k) refl) in
      let past : IfSome wake (λ r. (suc k < r) × (r < 2 ^ 62)) = sleeps_past k (2 ^ 62) wake look.later other in
      let before : IsBefore (suc k) wake = past_next k (2 ^ 62) wake past in
      let node = node_of_page i less in
      let rises : IsStrictlyIncreasing own = subst (λ (z : List ℕ). IsStrictlyIncreasing z) (sym (after.labels v node)) (page-rises s t k v) in
      let rises' : IsStrictlyIncreasing own' = subst (λ (z : List ℕ). IsStrictlyIncreasing z) (sym (after'.labels v node)) (page-rises s t (suc k) v) in
      let seen : visible_in s own' ≡ visible_in s own =
      same_members (visible_in s own') (visible_in s own) (IsStrictlyIncreasing-cut_to s.visible own' rises') (IsStrictlyIncreasing-cut_to s.visible own rises)
      (among_all (visible_in s own') (visible_in s own) (λ a there.
      let both = (Contains-cut_to s.visible own' a).0 there in
      elim (old_or_fresh i less a both.1) [
        | inl old ↦ (Contains-cut_to s.visible own a).1 (both.0, old)
        | inr new ↦ absurd (same a new (inl both.0))
      ]))
      (among_all (visible_in s own) (visible_in s own') (λ a there. let both = (Contains-cut_to s.visible own a).0 there in (Contains-cut_to s.visible own' a).1 (both.0, given_now i less a (inl both.1)))) in
      let kinds : (j : ℕ) → Contains (kinds_at s own') j → Contains (kinds_at s own) j = λ j there.
      let by = kinds_at-is s own' j there in
      elim (old_or_fresh i less by.spawn.needs by.needs) [
        | inl old ↦ is-kinds_at s own j (record { spawn = by.spawn; listed = by.listed; needs = old; kind = by.kind })
        | inr new ↦ absurd (same by.spawn.needs new (inr (by.spawn, by.listed, refl)))
      ] in
      let old_asks : (q : Pair) → Asks s own' q → Asks s own q = λ q asks. (kinds q.0 asks.0, asks.1 ∙ seen) in
      let give = given_by_links s.down in
      record {
        asleep = record {
          sleeps = λ q m asks le until. look.sleeps q m (old_asks q asks) (omega arith) until ∙ sym (look.sleeps q (suc k) (old_asks q asks) (omega arith) before);
          after = after_of (suc k) (2 ^ 62) wake past;
          bound = bound_of (suc k) (2 ^ 62) wake past;
          told = λ q asks. look.told q (old_asks q asks);
        };
        given = λ y there.
            let of = flat_map-Contains give (labels_below s (grown s (suc k)) own') y there in
            let j = map-Contains (λ j. grown s (suc k) j (visible_in s own')) (kinds_at s own') of.0 of.1 in
            let asks : Asks s own' (j.0, visible_in s own') = (j.1, refl) in
            let gives : give (grown s (suc k) j.0 (visible_in s own')) ≡ give (grown s k j.0 (visible_in s own')) = look.sleeps (j.0, visible_in s own') (suc k) (old_asks (j.0, visible_in s own') asks) (omega arith) before in
            let earlier : Contains (give (grown s k j.0 (visible_in s own))) y =
            subst (λ (z : List ℕ). Contains (give (grown s k j.0 z)) y) seen (subst (λ (z : List ℕ). Contains z y) (ap give j.2 ∙ gives) of.2) in
            given_now i less y (inr (inr (Contains-flat_map give (labels_below s (grown s k) own) (grown s k j.0 (visible_in s own)) y
            (Contains-map (λ j. grown s k j (visible_in s own)) (kinds_at s own) j.0 (kinds j.0 j.1)) earlier)));
      })

  -- ---- a node that need not be looked at

  -- what is given without need of an atom is there
  free_now : (i : ℕ) → i < length nodes → (r : Local) → Contains s.local r → r.needs ≡ [] → Contains (label_in u' (get_or nodes i [])) r.gives
  free_now i less r listed none =
      let v = get_or nodes i [] in
      let own = label_in u v in
      let rules = given_by_rules s.local own in
      let ups = given_by_links s.up (above_in u v) in
      let downs = flat_map (given_by_links s.down) (real_in u v) in
      given_now i less r.gives (inr (inl (Contains-append_left (rules ++ ups) downs r.gives (Contains-append_left rules ups r.gives
      (is-given_by_rules s.local own r.gives (record { rule = r; listed = listed; needs = all_among-All r.needs own (ap (λ z. all_among z own) none); gives = refl }))))))

  number_at : (v : List ℕ) → IsSome (node_at v t) → (j : ℕ) × (j < length nodes) × (get_or nodes j [] ≡ v)
  number_at v node =
      let p : Contains nodes v = subst (λ (z : List (List ℕ)). Contains z v) (sym all) ((Contains-paths_of t v).1 node) in
      (p.0, p.1, get_or_default nodes p.0 [] v p.1 ∙ p.2)

  -- nothing is fresh there, and no link looks from there at what is fresh next to it
  module _ (i : ℕ) (less : i < length nodes) (quiet : get_or fresh i [] ≡ [])
      (above : (j n : ℕ) → j < length nodes → get_or nodes i [] ≡ get_or nodes j [] ++ n ∷ [] → AreUnseen s.up (get_or fresh j []))
      (below : (j n : ℕ) → j < length nodes → get_or nodes j [] ≡ get_or nodes i [] ++ n ∷ [] → AreUnseen s.down (get_or fresh j [])) where
    rules_rest : (a : ℕ) → Contains (given_by_rules s.local (label_in u' (get_or nodes i []))) a → Contains (label_in u' (get_or nodes i [])) a
    rules_rest a there =
        let own = label_in u' (get_or nodes i []) in
        let by = given_by_rules-is s.local own a there in
        subst (Contains own) by.gives (elim ((settled_next i less).here by.rule by.listed by.needs) [
          | inl known ↦ known
          | inr (inl none) ↦ free_now i less by.rule by.listed none
          | inr (inr new) ↦ absurd (Contains-none new.0 (subst (λ (z : List ℕ). Contains z new.0) quiet new.2))
        ])

    ups_rest : (a : ℕ) → Contains (given_by_links s.up (above_in u' (get_or nodes i []))) a → Contains (label_in u' (get_or nodes i [])) a
    ups_rest a =
        let v = get_or nodes i [] in
        let own = label_in u' v in
        elim (parent_of v) as (λ o. parent_of v ≡ o → Contains (given_by_links s.up (unwrap_or (option_map (label_in u') o) [])) a → Contains own a) [
          | None ↦ λ e there. absurd (Contains-none a (subst (λ (z : List ℕ). Contains z a) (given_none s.up) there))
          | Some p ↦ λ e there.
              let split = child_of_parent v p e in
              let place = number_at p (IsSome-parent_of v p t e (node_of_page i less)) in
              let at : v ≡ get_or nodes place.0 [] ++ split.0 ∷ [] = split.1 ∙ ap (λ (z : List ℕ). z ++ split.0 ∷ []) (sym place.2) in
              let by = given_by_links-is s.up (label_in u' p) a there in
              let from : Contains (label_in u' (get_or nodes place.0 [])) by.link.from = subst (λ (z : List ℕ). Contains (label_in u' z) by.link.from) (sym place.2) by.from in
              subst (Contains own) by.to (elim ((settled_next i less).above place.0 split.0 place.1 at by.link by.listed from) [
                | inl known ↦ known
                | inr new ↦ absurd (above place.0 split.0 place.1 at by.link by.listed new)
              ])
        ] refl

    downs_rest : (a : ℕ) → Contains (flat_map (given_by_links s.down) (real_in u' (get_or nodes i []))) a → Contains (label_in u' (get_or nodes i [])) a
    downs_rest a there =
        let v = get_or nodes i [] in
        let child : ℕ → List ℕ = λ n. label_in u' (v ++ n ∷ []) in
        let of = flat_map-Contains (given_by_links s.down) (real_in u' v) a there in
        let n = map-Contains child (range_with_len 0 (unwrap_or (children_at v u') 0)) of.0 of.1 in
        let place = number_at (v ++ n.0 ∷ []) ((after'.nodes (v ++ n.0 ∷ [])).0 (counted_child v u' n.0 n.1)) in
        let by = given_by_links-is s.down of.0 a of.2 in
        let from : Contains (label_in u' (get_or nodes place.0 [])) by.link.from = subst (λ (z : List ℕ). Contains z by.link.from) (n.2 ∙ ap (label_in u') (sym place.2)) by.from in
        subst (Contains (label_in u' v)) by.to (elim ((settled_next i less).below place.0 n.0 place.1 place.2 by.link by.listed from) [
          | inl known ↦ known
          | inr new ↦ absurd (below place.0 n.0 place.1 place.2 by.link by.listed new)
        ])

    pub rest_now : (known : Pair → Type 0) (gains : List Gain) (wakes : List (Option ℕ)) → AreLooked s u k known gains wakes nodes → wakes_in (suc k) (wake_at wakes i) ≡ false → IsLooked s u' (suc k) known [] (wake_at wakes i) (get_or nodes i [])
    rest_now known gains wakes looked asleep =
        let v = get_or nodes i [] in
        let own = label_in u' v in
        let ups = given_by_links s.up (above_in u' v) in
        let rules = given_by_rules s.local own in
        let rested = resting_next known gains wakes wakes refl looked i less asleep (λ a there asks. Contains-none a (subst (λ (z : List ℕ). Contains z a) quiet there)) in
        record {
          gained = inr (among_all (label_next s (grown s (suc k)) u' v) own (λ a there. elim (next-is s u' (suc k) v a there) [
            | inl known ↦ known
            | inr (inr given) ↦ rested.given a given
            | inr (inl given) ↦ elim (Contains-append_cases (rules ++ ups) (flat_map (given_by_links s.down) (real_in u' v)) a given) [
              | inr of_child ↦ downs_rest a of_child
              | inl rest ↦ elim (Contains-append_cases rules ups a rest) [ inl of_own ↦ rules_rest a of_own | inr of_parent ↦ ups_rest a of_parent ]
            ]
          ]));
          sleeps = rested.asleep.sleeps;
          later = both_of (suc k) (2 ^ 62) (wake_at wakes i) rested.asleep.after rested.asleep.bound;
          told = rested.asleep.told;
        }

-- ---- at the start

module _ (s : System) (u : LabelTree) (nodes fresh : List (List ℕ)) (labels : AreAllLabels u nodes fresh (length nodes)) where
  label_is : (j : ℕ) → j < length nodes → label_in u (get_or nodes j []) ≡ get_or fresh j []
  label_is j less = ap (λ o. unwrap_or o []) (labels.each j less)

  some_need : (needs own : List ℕ) → All (Contains own) needs → (needs ≡ []) ⊎ ((a : ℕ) × Contains needs a × Contains own a)
  some_need [] own h = inl refl
  some_need (a ∷ needs) own h = inr (a, Contains-here a a needs refl, all_among_each (a ∷ needs) own h a (Contains-here a a needs refl))

  pub settled_start : AreSettled s u nodes fresh
  settled_start i less = record {
    right = λ j in_j a there. subst (λ (z : List ℕ). Contains z a) (sym (label_is j in_j)) there;
    here = λ r listed needs. inr (subst (λ (z : List ℕ). (r.needs ≡ []) ⊎ ((a : ℕ) × Contains r.needs a × Contains z a)) (label_is i less) (some_need r.needs (label_in u (get_or nodes i [])) needs));
    above = λ j n in_j at l listed from. inr (subst (λ (z : List ℕ). Contains z l.from) (label_is j in_j) from);
    below = λ j n in_j at l listed from. inr (subst (λ (z : List ℕ). Contains z l.from) (label_is j in_j) from);
  }

  pub resting_start : (known : Pair → Type 0) (wakes : List (Option ℕ)) → ((i : ℕ) → wake_at wakes i ≡ None) → AreResting s u 0 known nodes fresh wakes
  resting_start known wakes none i less =
      let own = label_in u (get_or nodes i []) in
      let no_wake : wake_at wakes i ≡ None = none i in
      subst (λ (z : Option ℕ). IsResting s 0 known own (get_or fresh i []) z) (sym no_wake) (λ quiet same.
      let no_kind : (j : ℕ) → Contains (kinds_at s own) j → ⊥ = λ j there.
      let by = kinds_at-is s own j there in
      same by.spawn.needs (subst (λ (z : List ℕ). Contains z by.spawn.needs) (label_is i less) by.needs) (inr (by.spawn, by.listed, refl)) in
      record {
        asleep = record { sleeps = λ q m asks le until. absurd (no_kind q.0 asks.0); after = tt; bound = tt; told = λ q asks. absurd (no_kind q.0 asks.0) };
        given = λ y there.
            let of = flat_map-Contains (given_by_links s.down) (labels_below s (grown s 0) own) y there in
            let j = map-Contains (λ j. grown s 0 j (visible_in s own)) (kinds_at s own) of.0 of.1 in
            absurd (no_kind j.0 j.1);
      })

pub all_labels_are : (t u : LabelTree) (nodes paths fresh : List (List ℕ)) → u ≡ t → paths ≡ nodes → AreAllLabels t paths fresh (length paths) → AreAllLabels u nodes fresh (length nodes)
all_labels_are t u nodes paths fresh same is labels =
    subst (λ (z : LabelTree). AreAllLabels z nodes fresh (length nodes)) (sym same) (subst (λ (z : List (List ℕ)). AreAllLabels t z fresh (length z)) is labels)

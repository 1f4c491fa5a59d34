-- No rule and no part of a list that goes has a byte of a selector that isn't flagged.
use Rattle.std.proofs.Common.{◌≡◌, ◌⊎◌, ℕ, zero, suc, ◌+◌, ◌≤◌, ◌<◌, ◌==◌, ◌&&◌, ◌||◌, nat_lt, Bool, true, false, if◌then◌else◌, List, [], ◌∷◌, ◌++◌, map, Option, Some, None, All, get_or, slice_get, IsSomeAnd, refl, sym, ap, ◌∙◌, subst, inl, inr, arith, append_assoc}
use Rattle.std.specs.List.{list_all}
use Rattle.std.proofs.lemmas.Bool.{and_parts, cases_Bool}
use Rattle.std.proofs.lemmas.Bool.Decides.{nat_tests}
use Rattle.std.proofs.lemmas.List.Elements.{All-head, All-tail}
use Rattle.css_read.specs.declared.holders.Holder.{Holder}
use Rattle.css_read.specs.declared.sheets.Range.{Range}
use Rattle.css_read.specs.Order.{AreApart, range_of, IsInRule}
use Rattle.css_read.specs.Pruned.{Flagged, goes, with_flags, of_rule, insides, gone_rules, gone_holders, gone_ranges, end_of_last, list_cuts}
use Rattle.css_read.specs.Sheets.{Item}
use Rattle.css_read.proofs.GoneRules as rules
use Rattle.css_read.proofs.CutLemmas.{IsCut, AreFrom, none_before, before_range, behind_range}
use Rattle.css_read.proofs.PlanLemmas.{cut_append}
use Rattle.widen_sheet.specs.Pruned.{lists_by, AreSpared, AllGo, AreEmptied}
use Rattle.widen_sheet.proofs.PieceCuts.{AreTwins}
use Rattle.widen_sheet.proofs.TwinCuts.{AreTwinFlags, twin_list}

true_not_false : true ≡ false → ⊥
true_not_false e = cc

-- ---- selectors in order

abbrev InOrder : ℕ → List Flagged → Type 0
InOrder at [] = Unit {0}
InOrder at (f ∷ fs) = (at ≤ f.0.from) × (f.0.from ≤ f.0.to) × InOrder f.0.to fs

order_of : (at to : ℕ) (items : List Item) (flags : List Bool) → AreApart at to (map range_of items) → InOrder at (with_flags items flags)
order_of at to [] flags apart = tt
order_of at to (i ∷ items) [] apart = tt
order_of at to (i ∷ items) (g ∷ flags) apart = (apart.0, apart.1, order_of i.to to items flags apart.2)

earlier : (at later : ℕ) (fs : List Flagged) → at ≤ later → InOrder later fs → InOrder at fs
earlier at later [] less order = tt
earlier at later (f ∷ fs) less order = (omega (arith, less, order.0), order.1, order.2)

own_order : (at k : ℕ) (fs : List Flagged) → InOrder at fs → InOrder at (of_rule k fs)
own_order at k [] order = tt
own_order at k (f ∷ fs) order = by (f.0.rule == k) (own_order f.0.to k fs order.2)
  where
    by : (test : Bool) → InOrder f.0.to (of_rule k fs) → InOrder at (if test then f ∷ of_rule k fs else of_rule k fs)
    by true later = (order.0, order.1, later)
    by false later = earlier at f.0.to (of_rule k fs) (omega (arith, order.0, order.1)) later

-- ---- ranges on one side of a byte

to_side : (x : ℕ) (rs : List Range) → AreTwins (λ (e f : ℕ). e ≤ x) rs rs → IsCut rs x ≡ false
to_side x [] twins = refl
to_side x (r ∷ rs) twins = rw (behind_range x r twins.1) (to_side x rs twins.2)

from_side : (x : ℕ) (rs : List Range) → AreTwins (λ (e f : ℕ). x < e) rs rs → IsCut rs x ≡ false
from_side x [] twins = refl
from_side x (r ∷ rs) twins = rw (before_range x r twins.0) (from_side x rs twins.2)

order_twins : (x at : ℕ) (fs : List Flagged) → x < at → InOrder at fs → AreTwinFlags (λ (e f : ℕ). x < e) fs fs
order_twins x at [] less order = tt
order_twins x at (f ∷ fs) less order =
    (record { from = omega (arith, less, order.0); to = omega (arith, less, order.0, order.1); rule = refl }, refl, order_twins x f.0.to fs (omega (arith, less, order.0, order.1)) order.2)

-- ---- the list that a selector is in

spared_none : (fs : List Flagged) → AreSpared [] fs
spared_none [] = tt
spared_none (f ∷ fs) = (λ stays x from to. refl, spared_none fs)

spared_all : (rs : List Range) (fs : List Flagged) → list_all goes fs ≡ true → AreSpared rs fs
spared_all rs [] all = tt
spared_all rs (f ∷ fs) all = let both = and_parts f.1 (list_all goes fs) all in (λ stays x from to. absurd (true_not_false (sym both.0 ∙ stays)), spared_all rs fs both.1)

-- one range more before all of them
spared_more : (r : Range) (rs : List Range) (fs : List Flagged) → InOrder r.to fs → AreSpared rs fs → AreSpared (r ∷ rs) fs
spared_more r rs [] order spared = tt
spared_more r rs (f ∷ fs) order spared =
    (λ stays x from to. rw (behind_range x r (omega (arith, order.0, from))) (spared.0 stays x from to), spared_more r rs fs (earlier r.to f.0.to fs (omega (arith, order.0, order.1)) order.2) spared.1)

own_spared : (at : ℕ) (fs : List Flagged) → InOrder at fs → AreSpared (list_cuts fs) fs
own_spared at [] order = tt
own_spared at (f ∷ []) order = (λ stays x from to. refl, tt)
own_spared at (f ∷ g ∷ fs) order = by (list_all goes (g ∷ fs)) refl f.1 refl (own_spared f.0.to (g ∷ fs) order.2)
  where
    by : (all : Bool) → list_all goes (g ∷ fs) ≡ all → (flag : Bool) → f.1 ≡ flag → AreSpared (list_cuts (g ∷ fs)) (g ∷ fs)
        → AreSpared (if all then (if flag then [] else (record { from = f.0.to; to = end_of_last g.0.to fs }) ∷ []) else (if flag then (record { from = f.0.from; to = g.0.from }) ∷ list_cuts (g ∷ fs) else list_cuts (g ∷ fs))) (f ∷ g ∷ fs)
    by true all true flag later = spared_none (f ∷ g ∷ fs)
    by true all false flag later = (λ stays x from to. rw (before_range x (record { from = f.0.to; to = end_of_last g.0.to fs }) to) refl, spared_all ((record { from = f.0.to; to = end_of_last g.0.to fs }) ∷ []) (g ∷ fs) all)
    by false all true flag later =
        (λ stays x from to. absurd (true_not_false (sym flag ∙ stays)), spared_more (record { from = f.0.from; to = g.0.from }) (list_cuts (g ∷ fs)) (g ∷ fs) (omega arith, order.2.1, order.2.2) later)
    by false all false flag later =
        (λ stays x from to. from_side x (list_cuts (g ∷ fs)) (twin_list (λ (e f : ℕ). x < e) (g ∷ fs) (g ∷ fs) (order_twins x f.0.to (g ∷ fs) to order.2)), later)

-- ---- rules

some_of : {A : Type 0} (P : A → Type 0) (o : Option A) → IsSomeAnd o P → (a : A) × (o ≡ Some a) × P a
some_of P None is = absurd is
some_of P (Some a) is = (a, refl, is)

rule_from : (lo hi : ℕ) (rs : List Range) (j : ℕ) (r : Range) → AreApart lo hi rs → slice_get rs j ≡ Some r → lo ≤ r.from
rule_from lo hi [] j r apart is = cc
rule_from lo hi (q ∷ rs) zero r apart is = let same : q ≡ r = cc in subst (λ (p : Range). lo ≤ p.from) same apart.0
rule_from lo hi (q ∷ rs) (suc j) r apart is = omega (arith, apart.0, apart.1, rule_from q.to hi rs j r apart.2 is)

rules_side : (lo hi : ℕ) (rs : List Range) (j k : ℕ) (q r : Range) → AreApart lo hi rs → slice_get rs j ≡ Some q → slice_get rs k ≡ Some r → j < k → q.to ≤ r.from
rules_side lo hi [] j k q r apart first second less = cc
rules_side lo hi (p ∷ rs) zero zero q r apart first second less = absurd (omega (arith, less))
rules_side lo hi (p ∷ rs) (suc j) zero q r apart first second less = absurd (omega (arith, less))
rules_side lo hi (p ∷ rs) zero (suc k) q r apart first second less = let same : p ≡ q = cc in subst (λ (o : Range). o.to ≤ r.from) same (rule_from p.to hi rs k r apart.2 second)
rules_side lo hi (p ∷ rs) (suc j) (suc k) q r apart first second less = rules_side p.to hi rs j k q r apart.2 first second (omega (arith, less))

gone_from : (lo hi : ℕ) (rs : List Range) (gone : List Bool) → AreApart lo hi rs → AreFrom lo (gone_ranges rs gone)
gone_from lo hi [] gone apart = tt
gone_from lo hi (q ∷ rs) [] apart = tt
gone_from lo hi (q ∷ rs) (g ∷ gone) apart = by g (from_later lo q.to (gone_ranges rs gone) (omega (arith, apart.0, apart.1)) (gone_from q.to hi rs gone apart.2))
  where
    from_later : (m n : ℕ) (qs : List Range) → m ≤ n → AreFrom n qs → AreFrom m qs
    from_later m n [] less are = tt
    from_later m n (p ∷ qs) less are = (omega (arith, less, are.0), from_later m n qs less are.1)

    by : (test : Bool) → AreFrom lo (gone_ranges rs gone) → AreFrom lo (if test then q ∷ gone_ranges rs gone else gone_ranges rs gone)
    by true later = (apart.0, later)
    by false later = later

-- a byte of a rule that stays
rule_spared : (lo hi : ℕ) (rs : List Range) (gone : List Bool) (j : ℕ) (r : Range) (x : ℕ) → AreApart lo hi rs → slice_get rs j ≡ Some r → r.from ≤ x → x < r.to → get_or gone j false ≡ false → IsCut (gone_ranges rs gone) x ≡ false
rule_spared lo hi [] gone j r x apart is low high stays = refl
rule_spared lo hi (q ∷ rs) [] j r x apart is low high stays = refl
rule_spared lo hi (q ∷ rs) (g ∷ gone) zero r x apart is low high stays =
    let same : q ≡ r = cc in
    rw stays (none_before q.to x (gone_ranges rs gone) (gone_from q.to hi rs gone apart.2) (subst (λ (p : Range). x < p.to) (sym same) high))
rule_spared lo hi (q ∷ rs) (g ∷ gone) (suc j) r x apart is low high stays =
    by g (rule_spared q.to hi rs gone j r x apart.2 is low high stays)
  where
    by : (test : Bool) → IsCut (gone_ranges rs gone) x ≡ false → IsCut (if test then q ∷ gone_ranges rs gone else gone_ranges rs gone) x ≡ false
    by true later = rw (behind_range x q (omega (arith, rule_from q.to hi rs j r apart.2 is, low))) later
    by false later = later

-- ---- lists

lists_spared : (fixed : List Bool) (k : ℕ) (fs : List Flagged) (x : ℕ) → ((j : ℕ) → IsCut (list_cuts (of_rule j fs)) x ≡ false) → IsCut (lists_by fixed k fs) x ≡ false
lists_spared [] k fs x each = refl
lists_spared (t ∷ fixed) k fs x each = cut_append (if t then [] else list_cuts (of_rule k fs)) (lists_by fixed (k + 1) fs) x ∙ by t (lists_spared fixed (k + 1) fs x each)
  where
    by : (test : Bool) → IsCut (lists_by fixed (k + 1) fs) x ≡ false → (IsCut (if test then [] else list_cuts (of_rule k fs)) x || IsCut (lists_by fixed (k + 1) fs) x) ≡ false
    by true later = later
    by false later = rw (each k) later

abbrev InRules : List Range → List Flagged → Type 0
InRules rs [] = Unit {0}
InRules rs (f ∷ fs) = IsInRule rs f.0 × InRules rs fs

rules_of_flags : (rs : List Range) (items : List Item) (flags : List Bool) → All (IsInRule rs) items → InRules rs (with_flags items flags)
rules_of_flags rs [] flags are = tt
rules_of_flags rs (i ∷ items) [] are = tt
rules_of_flags rs (i ∷ items) (g ∷ flags) are = (All-head (IsInRule rs) i items are, rules_of_flags rs items flags (All-tail (IsInRule rs) i items are))

is_rule : (a b : ℕ) → (a == b) ≡ true → a ≡ b
is_rule a b is = grind (arith, nat_tests)

-- the selectors of another rule are on one side of the rule of a byte
side_to : (lo hi : ℕ) (rs : List Range) (j k : ℕ) (r : Range) (x : ℕ) (fs : List Flagged) → AreApart lo hi rs → slice_get rs k ≡ Some r → r.from ≤ x → j < k → InOrder 0 fs → InRules rs fs → AreTwinFlags (λ (e f : ℕ). e ≤ x) (of_rule j fs) (of_rule j fs)
side_to lo hi rs j k r x [] apart is low less order are = tt
side_to lo hi rs j k r x (f ∷ fs) apart is low less order are = by (f.0.rule == j) refl (side_to lo hi rs j k r x fs apart is low less (earlier 0 f.0.to fs (omega arith) order.2) are.1)
  where
    by : (test : Bool) → (f.0.rule == j) ≡ test → AreTwinFlags (λ (e f : ℕ). e ≤ x) (of_rule j fs) (of_rule j fs) → AreTwinFlags (λ (e f : ℕ). e ≤ x) (if test then f ∷ of_rule j fs else of_rule j fs) (if test then f ∷ of_rule j fs else of_rule j fs)
    by true same later =
        let q = some_of (λ (p : Range). (p.from ≤ f.0.from) × (f.0.to < p.to)) (slice_get rs f.0.rule) are.0 in
        let there : slice_get rs j ≡ Some q.0 = ap (slice_get rs) (sym (is_rule f.0.rule j same)) ∙ q.1 in
        let side = rules_side lo hi rs j k q.0 r apart there is less in
        (record { from = omega (arith, side, low, q.2.1, order.1); to = omega (arith, side, low, q.2.1); rule = refl }, refl, later)
    by false same later = later

side_from : (lo hi : ℕ) (rs : List Range) (j k : ℕ) (r : Range) (x : ℕ) (fs : List Flagged) → AreApart lo hi rs → slice_get rs k ≡ Some r → x < r.to → k < j → InOrder 0 fs → InRules rs fs → AreTwinFlags (λ (e f : ℕ). x < e) (of_rule j fs) (of_rule j fs)
side_from lo hi rs j k r x [] apart is high less order are = tt
side_from lo hi rs j k r x (f ∷ fs) apart is high less order are = by (f.0.rule == j) refl (side_from lo hi rs j k r x fs apart is high less (earlier 0 f.0.to fs (omega arith) order.2) are.1)
  where
    by : (test : Bool) → (f.0.rule == j) ≡ test → AreTwinFlags (λ (e f : ℕ). x < e) (of_rule j fs) (of_rule j fs) → AreTwinFlags (λ (e f : ℕ). x < e) (if test then f ∷ of_rule j fs else of_rule j fs) (if test then f ∷ of_rule j fs else of_rule j fs)
    by true same later =
        let q = some_of (λ (p : Range). (p.from ≤ f.0.from) × (f.0.to < p.to)) (slice_get rs f.0.rule) are.0 in
        let there : slice_get rs j ≡ Some q.0 = ap (slice_get rs) (sym (is_rule f.0.rule j same)) ∙ q.1 in
        let side = rules_side lo hi rs k j r q.0 apart is there less in
        (record { from = omega (arith, side, high, q.2.0); to = omega (arith, side, high, q.2.0, order.1); rule = refl }, refl, later)
    by false same later = later

which : (j k : ℕ) → (j < k) ⊎ ((j ≡ k) ⊎ (k < j))
which j k = by (nat_lt j k) refl (nat_lt k j) refl
  where
    less : (a b : ℕ) → nat_lt a b ≡ true → a < b
    less a b is = grind (arith, nat_tests)

    equal : (a b : ℕ) → nat_lt a b ≡ false → nat_lt b a ≡ false → a ≡ b
    equal a b first second = grind (arith, nat_tests)

    by : (s : Bool) → nat_lt j k ≡ s → (t : Bool) → nat_lt k j ≡ t → (j < k) ⊎ ((j ≡ k) ⊎ (k < j))
    by true first t second = inl (less j k first)
    by false first true second = inr (inr (less k j second))
    by false first false second = inr (inl (equal j k first second))

-- ---- all selectors of a sheet

-- of a rule: its list spares those that stay, and the rule has some of these
abbrev AreKept : List Flagged → ℕ → List Flagged → Type 0
AreKept fs k [] = Unit {0}
AreKept fs k (f ∷ gs) = (f.1 ≡ false → (list_all goes (of_rule k fs) ≡ false) × ((x : ℕ) → f.0.from ≤ x → x < f.0.to → IsCut (list_cuts (of_rule k fs)) x ≡ false)) × AreKept fs k gs

not_all : (before gs : List Flagged) (f : Flagged) → f.1 ≡ false → list_all goes (before ++ f ∷ gs) ≡ false
not_all [] gs f stays = rw stays refl
not_all (h ∷ before) gs f stays = by h.1 (not_all before gs f stays)
  where
    by : (test : Bool) → list_all goes (before ++ f ∷ gs) ≡ false → (test && list_all goes (before ++ f ∷ gs)) ≡ false
    by true later = later
    by false later = refl

kept_from : (fs : List Flagged) (k : ℕ) (before gs : List Flagged) → of_rule k fs ≡ before ++ gs → AreSpared (list_cuts (of_rule k fs)) gs → AreKept fs k gs
kept_from fs k before [] is spared = tt
kept_from fs k before (f ∷ gs) is spared =
    (λ stays. (ap (list_all goes) is ∙ not_all before gs f stays, spared.0 stays), kept_from fs k (before ++ f ∷ []) gs (is ∙ sym (append_assoc before (f ∷ []) gs)) spared.1)

kept_of : (fs : List Flagged) (k : ℕ) → InOrder 0 fs → AreKept fs k (of_rule k fs)
kept_of fs k order = kept_from fs k [] (of_rule k fs) refl (own_spared 0 (of_rule k fs) (own_order 0 k fs order))

module _ (rs : List Range) (hi : ℕ) (gone fixed : List Bool) (fs : List Flagged) (apart : AreApart 0 hi rs) (order : InOrder 0 fs) (are : InRules rs fs) (only : (k : ℕ) → get_or gone k false ≡ true → list_all goes (of_rule k fs) ≡ true) where
  one_spared : (f : Flagged) → IsInRule rs f.0 → (list_all goes (of_rule f.0.rule fs) ≡ false) → ((x : ℕ) → f.0.from ≤ x → x < f.0.to → IsCut (list_cuts (of_rule f.0.rule fs)) x ≡ false)
      → (x : ℕ) → f.0.from ≤ x → x < f.0.to → IsCut (gone_ranges rs gone ++ lists_by fixed 0 fs) x ≡ false
  one_spared f in_rule some own x low high =
      let r = some_of (λ (p : Range). (p.from ≤ f.0.from) × (f.0.to < p.to)) (slice_get rs f.0.rule) in_rule in
      let from : r.0.from ≤ x = omega (arith, r.2.0, low) in
      let to : x < r.0.to = omega (arith, r.2.1, high) in
      let stays : get_or gone f.0.rule false ≡ false = elim (cases_Bool (get_or gone f.0.rule false)) [
        | inl e ↦ absurd (true_not_false (sym (only f.0.rule e) ∙ some))
        | inr e ↦ e
      ] in
      let each : (j : ℕ) → IsCut (list_cuts (of_rule j fs)) x ≡ false = λ j. elim (which j f.0.rule) [
        | inl less ↦ to_side x (list_cuts (of_rule j fs)) (twin_list (λ (e f : ℕ). e ≤ x) (of_rule j fs) (of_rule j fs) (side_to 0 hi rs j f.0.rule r.0 x fs apart r.1 from less order are))
        | inr other ↦ elim other [
          | inl same ↦ ap (λ (k : ℕ). IsCut (list_cuts (of_rule k fs)) x) same ∙ own x low high
          | inr over ↦ from_side x (list_cuts (of_rule j fs)) (twin_list (λ (e f : ℕ). x < e) (of_rule j fs) (of_rule j fs) (side_from 0 hi rs j f.0.rule r.0 x fs apart r.1 to over order are))
        ]
      ] in
      cut_append (gone_ranges rs gone) (lists_by fixed 0 fs) x ∙ ap (λ (b : Bool). b || IsCut (lists_by fixed 0 fs) x) (rule_spared 0 hi rs gone f.0.rule r.0 x apart r.1 from to stays) ∙ lists_spared fixed 0 fs x each

  all_from : (gs : List Flagged) → InRules rs gs → ((k : ℕ) → AreKept fs k (of_rule k gs)) → AreSpared (gone_ranges rs gone ++ lists_by fixed 0 fs) gs
  all_from [] in_rules kept = tt
  all_from (f ∷ gs) in_rules kept =
      let here = first (f.0.rule == f.0.rule) (same f.0.rule) (kept f.0.rule) in
      (λ stays. one_spared f in_rules.0 (here stays).0 (here stays).1, all_from gs in_rules.1 (λ k. rest k (f.0.rule == k) (kept k)))
    where
      same : (n : ℕ) → (n == n) ≡ true
      same n = grind (arith, nat_tests)

      first : (test : Bool) → test ≡ true → AreKept fs f.0.rule (if test then f ∷ of_rule f.0.rule gs else of_rule f.0.rule gs) → f.1 ≡ false → (list_all goes (of_rule f.0.rule fs) ≡ false) × ((x : ℕ) → f.0.from ≤ x → x < f.0.to → IsCut (list_cuts (of_rule f.0.rule fs)) x ≡ false)
      first true is all = all.0
      first false is all = cc

      rest : (k : ℕ) (test : Bool) → AreKept fs k (if test then f ∷ of_rule k gs else of_rule k gs) → AreKept fs k (of_rule k gs)
      rest k true all = all.1
      rest k false all = all

  pub all_spared : AreSpared (gone_ranges rs gone ++ lists_by fixed 0 fs) fs
  all_spared = all_from fs are (λ k. kept_of fs k order)

-- a rule that goes has flagged selectors alone
pub gone_only : (text : List ℕ) (m : ℕ) (rs : List Range) (fs : List Flagged) (j : ℕ) → get_or (gone_rules text m rs fs) j false ≡ true → list_all goes (of_rule (m + j) fs) ≡ true
unfolding gone_rules
gone_only text m [] fs j gone = absurd (true_not_false (sym gone))
gone_only text m (r ∷ rs) fs zero gone = let unit : m + 0 ≡ m = omega arith in rw unit ((and_parts (list_all goes (of_rule m fs)) _ gone).0)
gone_only text m (r ∷ rs) fs (suc j) gone = let next : m + suc j ≡ m + 1 + j = omega arith in rw next (gone_only text (m + 1) rs fs j gone)

pub spared_sheet : (rs : List Range) (hi : ℕ) (gone fixed : List Bool) (items : List Item) (flags : List Bool) → AreApart 0 hi rs → AreApart 0 hi (map range_of items) → All (IsInRule rs) items
    → ((k : ℕ) → get_or gone k false ≡ true → list_all goes (of_rule k (with_flags items flags)) ≡ true) → AreSpared (gone_ranges rs gone ++ lists_by fixed 0 (with_flags items flags)) (with_flags items flags)
spared_sheet rs hi gone fixed items flags apart items_apart are only = all_spared rs hi gone fixed (with_flags items flags) apart (order_of 0 hi items flags items_apart) (rules_of_flags rs items flags are) only

-- ---- at-rules

same_go : (n : ℕ) (owners : List (Option ℕ)) (gone : List Bool) → rules.AllGo n owners gone → AllGo n owners gone
same_go n [] gone all = tt
same_go n (o ∷ owners) [] all = tt
same_go n (o ∷ owners) (g ∷ gone) all = (all.0, same_go n owners gone all.1)

pub all_emptied : (owners : List (Option ℕ)) (gone : List Bool) (n : ℕ) (hs : List Holder) → AreEmptied owners gone n hs (gone_holders owners gone n hs)
unfolding gone_holders
all_emptied owners gone n [] = tt
all_emptied owners gone n (h ∷ hs) =
    (λ goes. let both = rules.holder_all owners gone n h hs goes in (same_go n owners gone both.0, same_go n (insides hs) (gone_holders owners gone (n + 1) hs) both.1), all_emptied owners gone (n + 1) hs)

-- Where a text has no byte order mark in front, the pruned text has none: a rule before a mark stays.
use Rattle.std.proofs.Common.{◌≡◌, ◌⊎◌, ℕ, zero, suc, ◌+◌, ◌-◌, ◌≤◌, ◌<◌, ◌==◌, ◌&&◌, ◌||◌, not, nat_eq, nat_lt, Bool, true, false, if◌then◌else◌, List, [], ◌∷◌, ◌++◌, length, drop, map, slice_range, get_or, Option, Some, Ok, refl, sym, ap, ◌∙◌, subst, inl, inr, arith, length-append, append_assoc}
use Rattle.std.specs.List.{starts_with, list_any, list_all}
use Rattle.std.specs.Str.{IsUtf8}
use Rattle.std.proofs.lemmas.Bool.{and_parts, or_parts, or_cases}
use Rattle.std.proofs.lemmas.Bool.Decides.{nat_tests}
use Rattle.std.proofs.lemmas.List.{length-take, append_cancel_right}
use Rattle.text_bytes.specs.OrderMark.{behind_order_mark}
use Rattle.tp_base.specs.Names.{Named}
use Rattle.tp_base.proofs.Truths.{suc_not_zero, not_both}
use Rattle.tp_base.proofs.Numbers.{none_more}
use Rattle.css_read.specs.declared.fronts.Front.{Front}
use Rattle.css_read.specs.declared.fronts.Front.TheVariants.{Passed, Opens, Closes, Styles}
use Rattle.css_read.specs.declared.holders.Holder.{Holder}
use Rattle.css_read.specs.declared.sheets.Range.{Range}
use Rattle.css_read.specs.Holders.{Step, begins_block, in_block, last_end, innermost, open_after, holder_of, holders_from, holders_of, owners_from, owners_of, steps_of}
use Rattle.css_read.specs.Order.{AreApart, range_of}
use Rattle.css_read.specs.Pruned.{Flagged, goes, with_flags, of_rule, has_order_mark, holds_back, is_fixed, gone_rules, gone_holders, gone_ranges, wholes, end_of_last, list_cuts, lists_cuts, cuts, is_in, without, pruned}
use Rattle.css_read.specs.Reading.{add_rules, empty_sheet}
use Rattle.css_read.specs.Rules.{Rule, depth_after, rules_of}
use Rattle.css_read.specs.Sheets.{Item, Sheet}
use Rattle.css_read.proofs.CharLemmas.{IsInner, CutsWhole, whole_behind, cuts_whole, less_or}
use Rattle.css_read.proofs.CutLemmas.{IsCut, in_range, AreFrom, from_earlier, none_before}
use Rattle.css_read.proofs.GoneLemmas.{IsFrom, OwnersFrom, StandApart, holder_goes, rule_goes, first_stays}
use Rattle.css_read.proofs.HeldLemmas.{end_after}
use Rattle.css_read.proofs.ItemLemmas.{IsSheetOf, ranges_of, sheet_of}
use Rattle.css_read.proofs.PieceOrder.{pieces_apart}
use Rattle.css_read.proofs.PrunedLemmas.{IsOwned, AreOwned, owned_from, spans_of, mark_size, steps_are, rules_steps, IsPrunedTo, left_spans, KeepsMark, marked_keeps}
use Rattle.css_read.proofs.PrunedText.{cuts_between}
use Rattle.css_read.proofs.RuleOrder.{AreRulesApart, rules_apart}
use Rattle.css_read.proofs.SpanLemmas.{Span, bytes_of, AreRead, steps_at, rules_in, spans_read}
use Rattle.css_read.proofs.PlanLemmas.{from_append}

-- ---- the first byte that stays

record FirstLeft (rs : List Range) (at : ℕ) (bs : List ℕ) (b : ℕ) (left : List ℕ) : Type 0 where
  front : List ℕ
  others : List ℕ
  whole : bs ≡ front ++ b ∷ others
  gone : (k : ℕ) → at ≤ k → k < at + length front → IsCut rs k ≡ true
  stays : IsCut rs (at + length front) ≡ false
  behind : without rs (at + length front + 1) others ≡ left

no_more : (n : ℕ) → n + 0 ≡ n
no_more n = omega arith

first_left : (rs : List Range) (at : ℕ) (bs : List ℕ) (b : ℕ) (left : List ℕ) → without rs at bs ≡ b ∷ left → FirstLeft rs at bs b left
unfolding without
first_left rs at [] b left is = absurd (omega (arith, ap length is))
first_left rs at (c ∷ bs) b left is = by (IsCut rs at) refl is (λ later. first_left rs (at + 1) bs b left later)
  where
    up : (n : ℕ) → at + 1 + n ≡ at + suc n
    up n = omega arith

    by : (cut : Bool) → IsCut rs at ≡ cut → (if cut then without rs (at + 1) bs else c ∷ without rs (at + 1) bs) ≡ b ∷ left → (without rs (at + 1) bs ≡ b ∷ left → FirstLeft rs (at + 1) bs b left) → FirstLeft rs at (c ∷ bs) b left
    by true cut is later =
        let next = later is in
        record {
          front = c ∷ next.front;
          others = next.others;
          whole = ap (λ xs. c ∷ xs) next.whole;
          gone = λ k from to. one_more k next.front next.gone (less_or at k from) to;
          stays = ap (IsCut rs) (sym (up (length next.front))) ∙ next.stays;
          behind = ap (λ n. without rs (n + 1) next.others) (sym (up (length next.front))) ∙ next.behind;
        }
      where
        one_more : (k : ℕ) (front : List ℕ) → ((k : ℕ) → at + 1 ≤ k → k < at + 1 + length front → IsCut rs k ≡ true) → (at ≡ k) ⊎ (at + 1 ≤ k) → k < at + suc (length front) → IsCut rs k ≡ true
        one_more k front gone (inl same) to = ap (IsCut rs) (sym same) ∙ cut
        one_more k front gone (inr less) to = gone k less (omega (arith, to))
    by false cut is later =
        let first : c ≡ b = cc in
        let others : without rs (at + 1) bs ≡ left = cc in
        record {
          front = [];
          others = bs;
          whole = ap (λ (x : ℕ). x ∷ bs) first;
          gone = λ k from to. absurd (omega (arith, from, to));
          stays = ap (IsCut rs) (no_more at) ∙ cut;
          behind = ap (λ n. without rs (n + 1) bs) (no_more at) ∙ others;
        }

-- a byte inside a character follows at once
inner_follows : (rs : List Range) (at : ℕ) (bs : List ℕ) (b : ℕ) (left : List ℕ) → CutsWhole rs at bs → IsInner b → (is : FirstLeft rs at bs b left) → is.front ≡ []
inner_follows rs at bs b left whole inner is = by is.front is.whole is.gone is.stays
  where
    by : (front : List ℕ) → bs ≡ front ++ b ∷ is.others → ((k : ℕ) → at ≤ k → k < at + length front → IsCut rs k ≡ true) → IsCut rs (at + length front) ≡ false → front ≡ []
    by [] all gone stays = refl
    by (c ∷ front) all gone stays =
        let there : CutsWhole rs (at + length (c ∷ front)) (b ∷ is.others) = whole_behind rs at (c ∷ front) (b ∷ is.others) (subst (CutsWhole rs at) all whole) in
        let before : at + length (c ∷ front) - 1 ≡ at + length front = omega arith in
        absurd (not_both (IsCut rs (at + length (c ∷ front))) (there.0 inner ∙ ap (IsCut rs) before ∙ gone (at + length front) (omega arith) (omega arith)) stays)

-- a mark in front of what is left stands in the text, behind what goes
record HasMarkLeft (rs : List Range) (text : List ℕ) : Type 0 where
  front : List ℕ
  others : List ℕ
  whole : text ≡ front ++ 0xEF ∷ 0xBB ∷ 0xBF ∷ others
  gone : (k : ℕ) → k < length front → IsCut rs k ≡ true
  stays : IsCut rs (length front) ≡ false

mark_left : (rs : List Range) (text left : List ℕ) → CutsWhole rs 0 text → without rs 0 text ≡ 0xEF ∷ 0xBB ∷ 0xBF ∷ left → HasMarkLeft rs text
mark_left rs text left whole is =
    let first = first_left rs 0 text 0xEF (0xBB ∷ 0xBF ∷ left) is in
    let at = 0 + length first.front in
    let behind : CutsWhole rs (at + 1) first.others = (whole_behind rs 0 first.front (0xEF ∷ first.others) (subst (CutsWhole rs 0) first.whole whole)).1 in
    let second = first_left rs (at + 1) first.others 0xBB (0xBF ∷ left) first.behind in
    let second_front = inner_follows rs (at + 1) first.others 0xBB (0xBF ∷ left) behind (omega arith, omega arith) second in
    let second_is : first.others ≡ 0xBB ∷ second.others = second.whole ∙ ap (λ xs. xs ++ 0xBB ∷ second.others) second_front in
    let at2 = at + 1 + length second.front in
    let behind2 : CutsWhole rs (at2 + 1) second.others = (whole_behind rs (at + 1) second.front (0xBB ∷ second.others) (subst (CutsWhole rs (at + 1)) second.whole behind)).1 in
    let third = first_left rs (at2 + 1) second.others 0xBF left second.behind in
    let third_front = inner_follows rs (at2 + 1) second.others 0xBF left behind2 (omega arith, omega arith) third in
    let third_is : second.others ≡ 0xBF ∷ third.others = third.whole ∙ ap (λ xs. xs ++ 0xBF ∷ third.others) third_front in
    let none : 0 + length first.front ≡ length first.front = omega arith in
    record {
      front = first.front;
      others = third.others;
      whole = first.whole ∙ ap (λ xs. first.front ++ 0xEF ∷ xs) (second_is ∙ ap (λ xs. 0xBB ∷ xs) third_is);
      gone = λ k less. first.gone k (omega arith) (omega (arith, less));
      stays = ap (IsCut rs) (sym none) ∙ first.stays;
    }

-- ---- a mark anywhere behind an offset

has_by : (front others : List ℕ) → has_order_mark (front ++ 0xEF ∷ 0xBB ∷ 0xBF ∷ others) ≡ true
unfolding has_order_mark
has_by [] others = refl
has_by (b ∷ front) others = or_right (starts_with nat_eq (b ∷ front ++ 0xEF ∷ 0xBB ∷ 0xBF ∷ others) (0xEF ∷ 0xBB ∷ 0xBF ∷ [])) (has_order_mark (front ++ 0xEF ∷ 0xBB ∷ 0xBF ∷ others)) (has_by front others)
  where
    or_right : (x y : Bool) → y ≡ true → (x || y) ≡ true
    or_right true y is = refl
    or_right false y is = is

drop_within : (n : ℕ) (front others : List ℕ) → n ≤ length front → drop n (front ++ others) ≡ drop n front ++ others
drop_within zero front others less = refl
drop_within (suc n) [] others less = absurd (omega (arith, less))
drop_within (suc n) (b ∷ front) others less = drop_within n front others (omega (arith, less))

has_behind : (text front others : List ℕ) (n : ℕ) → text ≡ front ++ 0xEF ∷ 0xBB ∷ 0xBF ∷ others → n ≤ length front → has_order_mark (drop n text) ≡ true
has_behind text front others n whole less = ap (λ xs. has_order_mark (drop n xs)) whole ∙ ap has_order_mark (drop_within n front (0xEF ∷ 0xBB ∷ 0xBF ∷ others) less) ∙ has_by (drop n front) others

-- the first rule, where it isn't fixed, has no mark behind its beginning
unfixed : (text : List ℕ) (r : Range) (list : List Flagged) → is_fixed text 0 r list ≡ false → has_order_mark (drop r.from text) ≡ false
unfolding is_fixed holds_back
unfixed text r list free = (or_parts _ _ (or_parts _ _ (or_parts _ _ free).0).0).1

-- ---- what goes at the beginning of a text

-- the first rule goes, or some of its list does, or an at-rule that has it; each time it isn't fixed and begins before what stays
record IsUnfixed (text : List ℕ) (rules : List Range) (fs : List Flagged) (before : ℕ) : Type 0 where
  rule : Range
  others : List Range
  first : rules ≡ rule ∷ others
  free : is_fixed text 0 rule (of_rule 0 fs) ≡ false
  early : rule.from < before

any_append : (p : Range → Bool) (rs qs : List Range) → list_any p (rs ++ qs) ≡ true → (list_any p rs ≡ true) ⊎ (list_any p qs ≡ true)
any_append p [] qs is = inr is
any_append p (r ∷ rs) qs is = by (or_cases (p r) (list_any p (rs ++ qs)) is) (λ later. any_append p rs qs later)
  where
    or_left : (x y : Bool) → x ≡ true → (x || y) ≡ true
    or_left true y is = refl
    or_left false y is = absurd cc

    or_right : (x y : Bool) → y ≡ true → (x || y) ≡ true
    or_right true y is = refl
    or_right false y is = is

    next : (list_any p rs ≡ true) ⊎ (list_any p qs ≡ true) → ((p r || list_any p rs) ≡ true) ⊎ (list_any p qs ≡ true)
    next (inl first) = inl (or_right (p r) (list_any p rs) first)
    next (inr second) = inr second

    by : (p r ≡ true) ⊎ (list_any p (rs ++ qs) ≡ true) → (list_any p (rs ++ qs) ≡ true → (list_any p rs ≡ true) ⊎ (list_any p qs ≡ true)) → ((p r || list_any p rs) ≡ true) ⊎ (list_any p qs ≡ true)
    by (inl here) more = inl (or_left (p r) (list_any p rs) here)
    by (inr later) more = next (more later)

-- a range that has the text's first byte begins there
begins_there : (r : Range) → is_in 0 r ≡ true → r.from ≡ 0
begins_there r is = grind (arith, nat_tests)

not_first : (rs : List Range) → AreFrom 1 rs → IsCut rs 0 ≡ true → ⊥
not_first rs from is = not_both (IsCut rs 0) is (none_before 1 0 rs from (omega arith))

gone_from : (n : ℕ) (rs : List Range) (gone : List Bool) → AreFrom n rs → AreFrom n (gone_ranges rs gone)
gone_from n [] gone from = tt
gone_from n (r ∷ rs) [] from = tt
gone_from n (r ∷ rs) (g ∷ gone) from = by g (gone_from n rs gone from.1)
  where
    by : (test : Bool) → AreFrom n (gone_ranges rs gone) → AreFrom n (if test then r ∷ gone_ranges rs gone else gone_ranges rs gone)
    by true later = (from.0, later)
    by false later = later

-- ---- rules

abbrev AreOrdered : List Rule → Type 0
AreOrdered [] = Unit {0}
AreOrdered (r ∷ rs) = (r.from ≤ r.brace) × AreOrdered rs

-- each begins behind the first byte but the first one
abbrev OthersFrom : List Range → Type 0
OthersFrom [] = Unit {0}
OthersFrom (r ∷ rs) = AreFrom 1 rs

rule_cut : (text : List ℕ) (rules : List Range) (fs : List Flagged) (before : ℕ) → 0 < before → OthersFrom rules → IsCut (gone_ranges rules (gone_rules text 0 rules fs)) 0 ≡ true → IsUnfixed text rules fs before
unfolding gone_rules
rule_cut text [] fs before some from is = absurd cc
rule_cut text (r ∷ rs) fs before some from is = by (list_all goes (of_rule 0 fs)) (is_fixed text 0 r (of_rule 0 fs)) refl is
  where
    later : List Range
    later = gone_ranges rs (gone_rules text (0 + 1) rs fs)

    none : IsCut later 0 ≡ true → ⊥
    none cut = not_first later (gone_from 1 rs (gone_rules text (0 + 1) rs fs) from) cut

    found : is_fixed text 0 r (of_rule 0 fs) ≡ false → (is_in 0 r ≡ true) ⊎ (IsCut later 0 ≡ true) → IsUnfixed text (r ∷ rs) fs before
    found free (inl here) = record { rule = r; others = rs; first = refl; free = free; early = omega (arith, begins_there r here, some) }
    found free (inr cut) = absurd (none cut)

    by : (all fixed : Bool) → is_fixed text 0 r (of_rule 0 fs) ≡ fixed → IsCut (if all && not fixed then r ∷ later else later) 0 ≡ true → IsUnfixed text (r ∷ rs) fs before
    by true false free is = found free (or_cases (is_in 0 r) (IsCut later 0) is)
    by true true free is = absurd (none is)
    by false fixed free is = absurd (none is)

-- ---- lists

abbrev FlagsFrom : ℕ → List Flagged → Type 0
FlagsFrom n [] = Unit {0}
FlagsFrom n (f ∷ fs) = (n ≤ f.0.from) × (n ≤ f.0.to) × FlagsFrom n fs

list_from : (n : ℕ) (fs : List Flagged) → FlagsFrom n fs → AreFrom n (list_cuts fs)
list_from n [] from = tt
list_from n (f ∷ []) from = tt
list_from n (f ∷ g ∷ fs) from = by (list_all goes (g ∷ fs)) (goes f) (list_from n (g ∷ fs) from.2)
  where
    by : (all test : Bool) → AreFrom n (list_cuts (g ∷ fs))
        → AreFrom n (if all then (if test then [] else (record { from = f.0.to; to = end_of_last g.0.to fs }) ∷ []) else (if test then (record { from = f.0.from; to = g.0.from }) ∷ list_cuts (g ∷ fs) else list_cuts (g ∷ fs)))
    by true true later = tt
    by true false later = (from.1, tt)
    by false true later = (from.0, later)
    by false false later = later

apart_flags : (from to : ℕ) (items : List Item) (flags : List Bool) → AreApart from to (map range_of items) → FlagsFrom from (with_flags items flags)
apart_flags from to [] flags apart = tt
apart_flags from to (i ∷ items) [] apart = tt
apart_flags from to (i ∷ items) (g ∷ flags) apart = (apart.0, omega (arith, apart.0, apart.1), flags_earlier from i.to (with_flags items flags) (omega (arith, apart.0, apart.1)) (apart_flags i.to to items flags apart.2))
  where
    flags_earlier : (m n : ℕ) (fs : List Flagged) → m ≤ n → FlagsFrom n fs → FlagsFrom m fs
    flags_earlier m n [] less from = tt
    flags_earlier m n (f ∷ fs) less from = (omega (arith, less, from.0), omega (arith, less, from.1), flags_earlier m n fs less from.2)

own_from : (text : List ℕ) (fs : List Flagged) (k : ℕ) (r : Rule) → r.from ≤ r.brace → IsOwned text fs k r → FlagsFrom r.from (of_rule k fs)
own_from text fs k r order own =
    let size = length-slice text r.from r.brace in
    let apart : AreApart r.from r.brace (map range_of own.own) = subst (AreApart r.from r.brace) (sym own.places) (pieces_apart r.from r.brace (slice_range text r.from r.brace) (omega (arith, size, order))) in
    subst (FlagsFrom r.from) (sym own.list) (apart_flags r.from r.brace own.own own.flags apart)
  where
    length-slice : (text : List ℕ) (from to : ℕ) → length (slice_range text from to) ≤ to - from
    length-slice text from to = let count = length-take (to - from) (drop from text) in omega arith

-- of rules that begin behind the first byte
lists_from : (text : List ℕ) (fs : List Flagged) (k : ℕ) (rs : List Rule) → AreFrom 1 (ranges_of rs) → AreOrdered rs → AreOwned text fs k rs → AreFrom 1 (lists_cuts text k (ranges_of rs) fs)
unfolding lists_cuts
lists_from text fs k [] from order owned = tt
lists_from text fs k (r ∷ rs) from order owned =
    from_append 1 _ _ (by (is_fixed text k (record { from = r.from; to = r.to }) (of_rule k fs))) (lists_from text fs (k + 1) rs from.1 order.1 owned.1)
  where
    by : (test : Bool) → AreFrom 1 (if test then [] else list_cuts (of_rule k fs))
    by true = tt
    by false = from_earlier 1 r.from (list_cuts (of_rule k fs)) from.0 (list_from r.from (of_rule k fs) (own_from text fs k r order.0 owned.0))

list_cut : (text : List ℕ) (fs : List Flagged) (rs : List Rule) (before : ℕ) → 0 < before → OthersFrom (ranges_of rs) → AreOrdered rs → AreOwned text fs 0 rs → IsCut (lists_cuts text 0 (ranges_of rs) fs) 0 ≡ true → IsUnfixed text (ranges_of rs) fs before
unfolding lists_cuts
list_cut text fs [] before some from order owned is = absurd cc
list_cut text fs (r ∷ rs) before some from order owned is =
    by (is_fixed text 0 range (of_rule 0 fs)) refl (any_append (is_in 0) (if is_fixed text 0 range (of_rule 0 fs) then [] else list_cuts (of_rule 0 fs)) (lists_cuts text (0 + 1) (ranges_of rs) fs) is)
  where
    range : Range
    range = record { from = r.from; to = r.to }

    first : is_fixed text 0 range (of_rule 0 fs) ≡ false → IsCut (list_cuts (of_rule 0 fs)) 0 ≡ true → IsUnfixed text (range ∷ ranges_of rs) fs before
    first free cut = start (less_or 0 r.from (omega arith))
      where
        start : (0 ≡ r.from) ⊎ (0 + 1 ≤ r.from) → IsUnfixed text (range ∷ ranges_of rs) fs before
        start (inl here) = record { rule = range; others = ranges_of rs; first = refl; free = free; early = omega (arith, here, some) }
        start (inr later) = absurd (not_first (list_cuts (of_rule 0 fs)) (from_earlier 1 r.from (list_cuts (of_rule 0 fs)) (omega (arith, later)) (list_from r.from (of_rule 0 fs) (own_from text fs 0 r order.0 owned.0))) cut)

    by : (test : Bool) → is_fixed text 0 range (of_rule 0 fs) ≡ test → (IsCut (if test then [] else list_cuts (of_rule 0 fs)) 0 ≡ true) ⊎ (IsCut (lists_cuts text (0 + 1) (ranges_of rs) fs) 0 ≡ true) → IsUnfixed text (range ∷ ranges_of rs) fs before
    by test free (inr cut) = absurd (not_first (lists_cuts text (0 + 1) (ranges_of rs) fs) (lists_from text fs (0 + 1) rs from order.1 owned.1) cut)
    by true free (inl cut) = absurd cc
    by false free (inl cut) = first free cut

-- ---- at-rules whose block holds rules

holders_after : (text : List ℕ) (n at : ℕ) (outer : List ℕ) (ss : List Span) → AreFrom at (wholes (holders_from text n outer (steps_at at ss)))
unfolding holders_from holder_of
holders_after text n at outer [] = tt
holders_after text n at outer (s ∷ ss) = by (begins_block s.front) (holders_after text (n + 1) to (n ∷ outer) ss) (holders_after text n to (open_after n outer s.front) ss)
  where
    to : ℕ
    to = at + length s.bytes

    step : Step
    step = record { front = s.front; from = at; to = to }

    by : (test : Bool) → AreFrom to (wholes (holders_from text (n + 1) (n ∷ outer) (steps_at to ss))) → AreFrom to (wholes (holders_from text n (open_after n outer s.front) (steps_at to ss)))
        → AreFrom at (wholes (if test then holder_of text outer step (steps_at to ss) ∷ holders_from text (n + 1) (n ∷ outer) (steps_at to ss) else holders_from text n (open_after n outer s.front) (steps_at to ss)))
    by true first second = (omega arith, from_earlier at to _ (omega arith) first)
    by false first second = from_earlier at to _ (omega arith) second

-- the first of some rules goes, and begins before an offset
record RuleGoes (rules : List Rule) (gone : List Bool) (end : ℕ) : Type 0 where
  rule : Rule
  others : List Rule
  first : rules ≡ rule ∷ others
  early : rule.from < end
  goes : get_or gone 0 false ≡ true

-- there is no rule in the blocks that are open
record NoRule (text : List ℕ) (n : ℕ) (outer : List ℕ) (ss : List Step) (owners : List (Option ℕ)) : Type 0 where
  least : ℕ
  over : n ≤ least
  owned : OwnersFrom least owners
  apart : StandApart least n (holders_from text n outer ss)

abbrev AllFrom : ℕ → List ℕ → Type 0
AllFrom least [] = Unit {0}
AllFrom least (k ∷ outer) = (least ≤ k) × AllFrom least outer

innermost_from : (least : ℕ) (outer : List ℕ) → AllFrom least outer → IsFrom least (innermost outer)
innermost_from least [] all = tt
innermost_from least (k ∷ outer) all = all.0

-- in what is opened later
later_apart : (text : List ℕ) (least n : ℕ) (outer : List ℕ) (ss : List Step) → least ≤ n → AllFrom least outer → OwnersFrom least (owners_from n outer ss) × StandApart least n (holders_from text n outer ss)
unfolding owners_from holders_from holder_of
later_apart text least n outer [] over all = (tt, tt)
later_apart text least n outer (s ∷ ss) over all = by s.front (λ n outer. later_apart text least n outer ss)
  where
    step : Front → Step
    step f = record { front = f; from = s.from; to = s.to }

    behind : (outer : List ℕ) → AllFrom least outer → AllFrom least (drop 1 outer)
    behind [] all = tt
    behind (k ∷ outer) all = all.1

    by : (f : Front) → ((n : ℕ) (outer : List ℕ) → least ≤ n → AllFrom least outer → OwnersFrom least (owners_from n outer ss) × StandApart least n (holders_from text n outer ss))
        → OwnersFrom least (owners_from n outer (step f ∷ ss)) × StandApart least n (holders_from text n outer (step f ∷ ss))
    by Passed later = later n outer over all
    by Closes later = later n (drop 1 outer) over (behind outer all)
    by (Styles len) later = let is = later n outer over all in ((innermost_from least outer all, is.0), is.1)
    by Opens later = let is = later (n + 1) (n ∷ outer) (omega (arith, over)) (over, all) in (is.0, (λ here. innermost_from least outer all, is.1))

-- all that are open go
abbrev AllGo : List Bool → ℕ → List ℕ → Type 0
AllGo gone n [] = Unit {0}
AllGo gone n (k ∷ outer) = (k < n) × (get_or gone k false ≡ true) × AllGo gone n outer

all_later : (gone : List Bool) (n m : ℕ) (outer : List ℕ) → n ≤ m → AllGo gone n outer → AllGo gone m outer
all_later gone n m [] less all = tt
all_later gone n m (k ∷ outer) less all = (omega (arith, less, all.0), all.1, all_later gone n m outer less all.2)

abbrev Walks : List ℕ → List Holder → List (Option ℕ) → List Bool → ℕ → List Holder → ℕ → List ℕ → ℕ → List Step → Type 0
Walks text all owners rules end pre k outer at ss =
    all ≡ pre ++ holders_from text (length pre) (k ∷ outer) ss → owners ≡ owners_from (length pre) (k ∷ outer) ss → length (rules_in ss) ≤ length rules → AllGo (gone_holders owners rules 0 all) (length pre) (k ∷ outer)
    → end ≡ last_end at (in_block (length outer) ss) → RuleGoes (rules_in ss) rules end ⊎ NoRule text (length pre) (k ∷ outer) ss owners

walk_step : (text : List ℕ) (all : List Holder) (owners : List (Option ℕ)) (rules : List Bool) (end : ℕ) (f : Front) (bytes : List ℕ) (ss : List Span) (at : ℕ) (pre : List Holder) (k : ℕ) (outer : List ℕ) → 0 < length bytes
    → ((pre : List Holder) (k : ℕ) (outer : List ℕ) → Walks text all owners rules end pre k outer (at + length bytes) (steps_at (at + length bytes) ss))
    → Walks text all owners rules end pre k outer at ((record { front = f; from = at; to = at + length bytes }) ∷ steps_at (at + length bytes) ss)
unfolding owners_from holders_from holder_of in_block
walk_step text all owners rules end Passed bytes ss at pre k outer some later whole owned count go ends = by (later pre k outer whole owned count go ends)
  where
    by : RuleGoes (rules_in (steps_at (at + length bytes) ss)) rules end ⊎ NoRule text (length pre) (k ∷ outer) (steps_at (at + length bytes) ss) owners
        → RuleGoes (rules_in (steps_at (at + length bytes) ss)) rules end ⊎ NoRule text (length pre) (k ∷ outer) ((record { front = Passed; from = at; to = at + length bytes }) ∷ steps_at (at + length bytes) ss) owners
    by (inl goes) = inl goes
    by (inr none) = inr (record { least = none.least; over = none.over; owned = none.owned; apart = none.apart })
walk_step text all owners rules end (Styles len) bytes ss at pre k outer some later whole owned count go ends =
    let to = at + length bytes in
    let after = owners_from (length pre) (k ∷ outer) (steps_at to ss) in
    let list : owners ≡ [] ++ Some (0 + k) ∷ after = owned ∙ ap (λ (m : ℕ). Some m ∷ after) (none_more k) in
    let late = end_after to (length outer) ss in
    inl (record {
      rule = record { from = at; brace = at + len; to = to };
      others = rules_in (steps_at to ss);
      first = refl;
      early = omega (arith, ends, late, some);
      goes = rule_goes owners [] after rules 0 all k list (omega (arith, count)) go.1;
    })
walk_step text all owners rules end Closes bytes ss at pre k [] some later whole owned count go ends =
    let is = later_apart text (length pre) (length pre) [] (steps_at (at + length bytes) ss) (omega arith) tt in
    inr (record { least = length pre; over = omega arith; owned = subst (OwnersFrom (length pre)) (sym owned) is.0; apart = is.1 })
walk_step text all owners rules end Closes bytes ss at pre k (m ∷ outer) some later whole owned count go ends =
    by (later pre m outer whole owned count go.2 (ends ∙ same))
  where
    to : ℕ
    to = at + length bytes

    steps : List Step
    steps = steps_at to ss

    one_less : (n : ℕ) → suc n - 1 ≡ n
    one_less n = omega arith

    same : last_end to (if suc (length outer) == 0 then [] else in_block (suc (length outer) - 1) steps) ≡ last_end to (in_block (length outer) steps)
    same = rw (suc_not_zero (length outer), one_less (length outer)) refl

    by : RuleGoes (rules_in steps) rules end ⊎ NoRule text (length pre) (m ∷ outer) steps owners → RuleGoes (rules_in steps) rules end ⊎ NoRule text (length pre) (k ∷ m ∷ outer) ((record { front = Closes; from = at; to = to }) ∷ steps) owners
    by (inl goes) = inl goes
    by (inr none) = inr (record { least = none.least; over = none.over; owned = none.owned; apart = none.apart })
walk_step text all owners rules end Opens bytes ss at pre k outer some later whole owned count go ends =
    by (later (pre ++ h ∷ []) (length pre) (k ∷ outer) whole_is owned_is count goes (ends ∙ ap (λ (n : ℕ). last_end to (in_block n steps)) (one_more (length outer))))
  where
    to : ℕ
    to = at + length bytes

    steps : List Step
    steps = steps_at to ss

    one_more : (n : ℕ) → n + 1 ≡ suc n
    one_more n = omega arith

    h : Holder
    h = holder_of text (k ∷ outer) (record { front = Opens; from = at; to = to }) steps

    size : length (pre ++ h ∷ []) ≡ length pre + 1
    size = length-append pre (h ∷ [])

    after : List Holder
    after = holders_from text (length pre + 1) (length pre ∷ k ∷ outer) steps

    whole_is : all ≡ (pre ++ h ∷ []) ++ holders_from text (length (pre ++ h ∷ [])) (length pre ∷ k ∷ outer) steps
    whole_is = whole ∙ sym (append_assoc pre (h ∷ []) after) ∙ ap (λ (n : ℕ). (pre ++ h ∷ []) ++ holders_from text n (length pre ∷ k ∷ outer) steps) (sym size)

    owned_is : owners ≡ owners_from (length (pre ++ h ∷ [])) (length pre ∷ k ∷ outer) steps
    owned_is = owned ∙ ap (λ (n : ℕ). owners_from n (length pre ∷ k ∷ outer) steps) (sym size)

    there : get_or (gone_holders owners rules 0 all) (length pre) false ≡ true
    there =
        ap (λ (hs : List Holder). get_or (gone_holders owners rules 0 hs) (length pre) false) whole
        ∙ holder_goes owners rules 0 pre h after k go.0 (ap (λ (m : ℕ). Some m) (none_more k)) (ap (λ (hs : List Holder). get_or (gone_holders owners rules 0 hs) k false) (sym whole) ∙ go.1)

    goes : AllGo (gone_holders owners rules 0 all) (length (pre ++ h ∷ [])) (length pre ∷ k ∷ outer)
    goes = (omega (arith, size), there, all_later (gone_holders owners rules 0 all) (length pre) (length (pre ++ h ∷ [])) (k ∷ outer) (omega (arith, size)) go)

    by : RuleGoes (rules_in steps) rules end ⊎ NoRule text (length (pre ++ h ∷ [])) (length pre ∷ k ∷ outer) steps owners
        → RuleGoes (rules_in steps) rules end ⊎ NoRule text (length pre) (k ∷ outer) ((record { front = Opens; from = at; to = to }) ∷ steps) owners
    by (inl goes) = inl goes
    by (inr none) =
        inr (record {
          least = none.least;
          over = omega (arith, size, none.over);
          owned = none.owned;
          apart = (λ here. absurd (omega (arith, here, size, none.over)), subst (λ (n : ℕ). StandApart none.least n (holders_from text n (length pre ∷ k ∷ outer) steps)) size none.apart);
        })

walk : (text : List ℕ) (all : List Holder) (owners : List (Option ℕ)) (rules : List Bool) (end : ℕ) (ss : List Span) (d at : ℕ) (pre : List Holder) (k : ℕ) (outer : List ℕ) → AreRead d ss → Walks text all owners rules end pre k outer at (steps_at at ss)
unfolding owners_from holders_from
walk text all owners rules end [] d at pre k outer read = λ whole owned count go ends. inr (record { least = length pre; over = omega arith; owned = subst (OwnersFrom (length pre)) (sym owned) tt; apart = tt })
walk text all owners rules end (s ∷ ss) d at pre k outer read =
    walk_step text all owners rules end s.front s.bytes ss at pre k outer read.0.some (λ pre k outer. walk text all owners rules end ss (depth_after d s.front) (at + length s.bytes) pre k outer read.1)

-- ---- an at-rule in front of all

first_unfixed : (text : List ℕ) (rules : List Rule) (fs : List Flagged) (before end : ℕ) → end ≤ before → RuleGoes rules (gone_rules text 0 (ranges_of rules) fs) end → IsUnfixed text (ranges_of rules) fs before
unfolding gone_rules
first_unfixed text [] fs before end less goes = absurd (omega (arith, ap length goes.first))
first_unfixed text (r ∷ rs) fs before end less goes =
    let same : r ≡ goes.rule = cc in
    let begin : r.from ≡ goes.rule.from = ap (λ (q : Rule). q.from) same in
    let range : Range = record { from = r.from; to = r.to } in
    record {
      rule = range;
      others = ranges_of rs;
      first = refl;
      free = not_true (is_fixed text 0 range (of_rule 0 fs)) (and_parts (list_all goes_flag (of_rule 0 fs)) (not (is_fixed text 0 range (of_rule 0 fs))) goes.goes).1;
      early = omega (arith, begin, goes.early, less);
    }
  where
    goes_flag : Flagged → Bool
    goes_flag f = f.1

    not_true : (x : Bool) → not x ≡ true → x ≡ false
    not_true true is = absurd cc
    not_true false is = refl

-- an offset that isn't cut stands behind the end of what begins in front and goes
behind_first : (r : Range) (rs : List Range) (at : ℕ) → r.from ≡ 0 → IsCut (r ∷ rs) at ≡ false → r.to ≤ at
behind_first r rs at first stays = by (less_or at r.to)
  where
    less_or : (m n : ℕ) → (n ≤ m) ⊎ (m < n)
    less_or m n = go (nat_lt m n) refl
      where
        over : (m n : ℕ) → nat_lt m n ≡ true → m < n
        over m n is = grind (arith, nat_tests)

        under : (m n : ℕ) → nat_lt m n ≡ false → n ≤ m
        under m n is = grind (arith, nat_tests)

        go : (test : Bool) → nat_lt m n ≡ test → (n ≤ m) ⊎ (m < n)
        go true is = inr (over m n is)
        go false is = inl (under m n is)

    by : (r.to ≤ at) ⊎ (at < r.to) → r.to ≤ at
    by (inl behind) = behind
    by (inr inside) = absurd (not_both (is_in at r) (in_range at r (omega (arith, first)) inside) (or_parts (is_in at r) (IsCut rs at) stays).0)

holder_cut : (text : List ℕ) (fs : List Flagged) (ss : List Span) (before : ℕ) (rules : List Bool) → AreRead 0 ss → rules ≡ gone_rules text 0 (ranges_of (rules_in (steps_at 0 ss))) fs → length (rules_in (steps_at 0 ss)) ≤ length rules
    → (all : List Holder) → all ≡ holders_from text 0 [] (steps_at 0 ss) → (owners : List (Option ℕ)) → owners ≡ owners_from 0 [] (steps_at 0 ss)
    → IsCut (gone_ranges (wholes all) (gone_holders owners rules 0 all)) 0 ≡ true → IsCut (gone_ranges (wholes all) (gone_holders owners rules 0 all)) before ≡ false → IsUnfixed text (ranges_of (rules_in (steps_at 0 ss))) fs before
unfolding owners_from holders_from holder_of gone_holders
holder_cut text fs [] before rules read are count all whole owners owned is stays = absurd (none all whole is)
  where
    none : (all : List Holder) → all ≡ [] → IsCut (gone_ranges (wholes all) (gone_holders owners rules 0 all)) 0 ≡ true → ⊥
    none [] whole is = cc
    none (h ∷ hs) whole is = omega (arith, ap length whole)
holder_cut text fs (s ∷ ss) before rules read are count all whole owners owned is stays = by s.front read.0.some read.1 are count whole owned
  where
    to : ℕ
    to = 0 + length s.bytes

    steps : List Step
    steps = steps_at to ss

    step : Front → Step
    step f = record { front = f; from = 0; to = to }

    -- none begins in front
    late : (hs : List Holder) → all ≡ hs → AreFrom to (wholes hs) → 0 < length s.bytes → ⊥
    late hs whole from some = not_first (gone_ranges (wholes all) (gone_holders owners rules 0 all))
        (gone_from 1 (wholes all) (gone_holders owners rules 0 all) (subst (λ (ks : List Holder). AreFrom 1 (wholes ks)) (sym whole) (from_earlier 1 to (wholes hs) (omega (arith, some)) from))) is

    end : ℕ
    end = last_end to (in_block 0 steps)

    by : (f : Front) → 0 < length s.bytes → AreRead (depth_after 0 f) ss → rules ≡ gone_rules text 0 (ranges_of (rules_in (step f ∷ steps))) fs → length (rules_in (step f ∷ steps)) ≤ length rules
        → all ≡ holders_from text 0 [] (step f ∷ steps) → owners ≡ owners_from 0 [] (step f ∷ steps) → IsUnfixed text (ranges_of (rules_in (step f ∷ steps))) fs before
    by Passed some read are count whole owned = absurd (late (holders_from text 0 [] steps) whole (holders_after text 0 to [] ss) some)
    by Closes some read are count whole owned = absurd (late (holders_from text 0 [] steps) whole (holders_after text 0 to [] ss) some)
    by (Styles len) some read are count whole owned = absurd (late (holders_from text 0 [] steps) whole (holders_after text 0 to [] ss) some)
    by Opens some read are count whole owned =
        let h = holder_of text [] (step Opens) steps in
        let after = holders_from text 1 (0 ∷ []) steps in
        let gone = gone_holders owners rules 0 all in
        let cut : IsCut (gone_ranges (wholes (h ∷ after)) gone) 0 ≡ true = ap (λ (hs : List Holder). IsCut (gone_ranges (wholes hs) gone) 0) (sym whole) ∙ is in
        let kept : IsCut (gone_ranges (wholes (h ∷ after)) gone) before ≡ false = ap (λ (hs : List Holder). IsCut (gone_ranges (wholes hs) gone) before) (sym whole) ∙ stays in
        let first = first_gone h after gone (from_earlier 1 to (wholes after) (omega (arith, some)) (holders_after text 1 to (0 ∷ []) ss)) cut in
        let behind : end ≤ before = behind_first (record { from = 0; to = end }) (gone_ranges (wholes after) (drop 1 gone)) before refl (ap (λ (rs : List Range). IsCut rs before) (sym first.1) ∙ kept) in
        found h first.0 whole behind (walk text all owners rules end ss (depth_after 0 Opens) to (h ∷ []) 0 [] read whole owned count (omega arith, first.0, tt) refl) are
      where
        first_gone : (h : Holder) (hs : List Holder) (gone : List Bool) → AreFrom 1 (wholes hs) → IsCut (gone_ranges (wholes (h ∷ hs)) gone) 0 ≡ true
            → (get_or gone 0 false ≡ true) × (gone_ranges (wholes (h ∷ hs)) gone ≡ (record { from = h.from; to = h.to }) ∷ gone_ranges (wholes hs) (drop 1 gone))
        first_gone h hs [] from cut = absurd cc
        first_gone h hs (true ∷ gone) from cut = (refl, refl)
        first_gone h hs (false ∷ gone) from cut = absurd (not_first (gone_ranges (wholes hs) gone) (gone_from 1 (wholes hs) gone from) cut)

        found : (h : Holder) → get_or (gone_holders owners rules 0 all) 0 false ≡ true → all ≡ h ∷ holders_from text 1 (0 ∷ []) steps → end ≤ before → RuleGoes (rules_in steps) rules end ⊎ NoRule text 1 (0 ∷ []) steps owners
            → rules ≡ gone_rules text 0 (ranges_of (rules_in steps)) fs → IsUnfixed text (ranges_of (rules_in steps)) fs before
        found h gone all_is behind (inl goes) are = first_unfixed text (rules_in steps) fs before end behind (subst (λ (gs : List Bool). RuleGoes (rules_in steps) gs end) are goes)
        found h gone all_is behind (inr none) are =
            absurd (first_stays owners rules none.least h (holders_from text 1 (0 ∷ []) steps) (omega (arith, none.over)) none.owned none.apart (ap (λ (hs : List Holder). get_or (gone_holders owners rules 0 hs) 0 false) (sym all_is) ∙ gone))

-- ---- a whole text

rules_from_first : (from to : ℕ) (rs : List Rule) → AreRulesApart from to rs → AreFrom from (ranges_of rs) × AreOrdered rs
rules_from_first from to [] apart = (tt, tt)
rules_from_first from to (r ∷ rs) apart =
    let later = rules_from_first r.to to rs apart.3 in
    ((apart.0, from_earlier from r.to (ranges_of rs) (omega (arith, apart.0, apart.1, apart.2)) later.0), (apart.1, later.1))

others_from : (from to : ℕ) (rs : List Rule) → AreRulesApart from to rs → OthersFrom (ranges_of rs)
others_from from to [] apart = tt
others_from from to (r ∷ rs) apart = from_earlier 1 r.to (ranges_of rs) (omega (arith, apart.2)) (rules_from_first r.to to rs apart.3).0

length-ranges : (rs : List Rule) → length (ranges_of rs) ≡ length rs
length-ranges [] = refl
length-ranges (r ∷ rs) = ap suc (length-ranges rs)

length-gone_rules : (text : List ℕ) (k : ℕ) (rs : List Range) (fs : List Flagged) → length (gone_rules text k rs fs) ≡ length rs
unfolding gone_rules
length-gone_rules text k [] fs = refl
length-gone_rules text k (r ∷ rs) fs = ap suc (length-gone_rules text (k + 1) rs fs)

not_in : (p : Range → Bool) (rs qs : List Range) → list_any p (rs ++ qs) ≡ false → list_any p rs ≡ false
not_in p [] qs is = refl
not_in p (r ∷ rs) qs is = let both = or_parts (p r) (list_any p (rs ++ qs)) is in rw both.0 (not_in p rs qs both.1)

cut_unfixed : (text : List ℕ) (names later : List Named) (sheet : Sheet) (flags : List Bool) (before : ℕ) → add_rules text empty_sheet names (rules_of text) ≡ (later, Ok sheet) → length flags ≡ length sheet.items → mark_size text ≡ 0 → 0 < before
    → IsCut (cuts text sheet flags) 0 ≡ true → IsCut (cuts text sheet flags) before ≡ false → IsUnfixed text sheet.rules (with_flags sheet.items flags) before
unfolding cuts holders_of owners_of
cut_unfixed text names later sheet flags before read count none some is stays =
    let holders = wholes (holders_from text 0 [] (steps_of text)) in
    let gone = gone_holders (owners_from 0 [] (steps_of text)) rules 0 (holders_from text 0 [] (steps_of text)) in
    by (any_append (is_in 0) (gone_ranges holders gone) (gone_ranges sheet.rules rules ++ lists_cuts text 0 sheet.rules fs) is)
  where
    fs : List Flagged
    fs = with_flags sheet.items flags

    rules : List Bool
    rules = gone_rules text 0 sheet.rules fs

    sheet_is : IsSheetOf text (rules_of text) sheet
    sheet_is = sheet_of text names later (rules_of text) sheet read

    apart : AreRulesApart 0 (length text) (rules_of text)
    apart = rules_apart text

    owned : AreOwned text fs 0 (rules_of text)
    owned = owned_from text fs 0 (rules_of text) sheet.items flags sheet_is.items count (λ j less. refl)

    at_front : steps_of text ≡ steps_at 0 (spans_of text)
    at_front = steps_are text ∙ ap (λ (n : ℕ). steps_at n (spans_of text)) none

    here : rules_of text ≡ rules_in (steps_at 0 (spans_of text))
    here = rules_steps text ∙ ap (λ (n : ℕ). rules_in (steps_at n (spans_of text))) none

    ranges : sheet.rules ≡ ranges_of (rules_in (steps_at 0 (spans_of text)))
    ranges = sheet_is.rules ∙ ap ranges_of here

    size : length (rules_in (steps_at 0 (spans_of text))) ≤ length rules
    size = omega (arith, length-ranges (rules_in (steps_at 0 (spans_of text))), ap length ranges, length-gone_rules text 0 sheet.rules fs)

    in_ranges : IsUnfixed text (ranges_of (rules_of text)) fs before → IsUnfixed text sheet.rules fs before
    in_ranges found = subst (λ (rs : List Range). IsUnfixed text rs fs before) (sym sheet_is.rules) found

    held : IsCut (gone_ranges (wholes (holders_from text 0 [] (steps_of text))) (gone_holders (owners_from 0 [] (steps_of text)) rules 0 (holders_from text 0 [] (steps_of text)))) 0 ≡ true → IsUnfixed text sheet.rules fs before
    held cut =
        subst (λ (rs : List Range). IsUnfixed text rs fs before) (sym ranges)
        (holder_cut text fs (spans_of text) before rules (spans_read 0 0 (behind_order_mark text)).read (ap (λ (rs : List Range). gone_rules text 0 rs fs) ranges) size (holders_from text 0 [] (steps_of text))
        (ap (holders_from text 0 []) at_front) (owners_from 0 [] (steps_of text)) (ap (owners_from 0 []) at_front) cut
        (not_in (is_in before) (gone_ranges (wholes (holders_from text 0 [] (steps_of text))) (gone_holders (owners_from 0 [] (steps_of text)) rules 0 (holders_from text 0 [] (steps_of text))))
        (gone_ranges sheet.rules rules ++ lists_cuts text 0 sheet.rules fs) stays))

    ruled : IsCut (gone_ranges sheet.rules rules) 0 ≡ true → IsUnfixed text sheet.rules fs before
    ruled cut =
        rule_cut text sheet.rules fs before some (subst OthersFrom (sym sheet_is.rules) (others_from 0 (length text) (rules_of text) apart)) cut

    listed : IsCut (lists_cuts text 0 sheet.rules fs) 0 ≡ true → IsUnfixed text sheet.rules fs before
    listed cut =
        in_ranges (list_cut text fs (rules_of text) before some (others_from 0 (length text) (rules_of text) apart) (rules_from_first 0 (length text) (rules_of text) apart).1 owned
        (ap (λ (rs : List Range). IsCut (lists_cuts text 0 rs fs) 0) (sym sheet_is.rules) ∙ cut))

    next : (IsCut (gone_ranges sheet.rules rules) 0 ≡ true) ⊎ (IsCut (lists_cuts text 0 sheet.rules fs) 0 ≡ true) → IsUnfixed text sheet.rules fs before
    next (inl cut) = ruled cut
    next (inr cut) = listed cut

    by : (IsCut (gone_ranges (wholes (holders_from text 0 [] (steps_of text))) (gone_holders (owners_from 0 [] (steps_of text)) rules 0 (holders_from text 0 [] (steps_of text)))) 0 ≡ true)
        ⊎ (IsCut (gone_ranges sheet.rules rules ++ lists_cuts text 0 sheet.rules fs) 0 ≡ true) → IsUnfixed text sheet.rules fs before
    by (inl cut) = held cut
    by (inr cut) = next (any_append (is_in 0) (gone_ranges sheet.rules rules) (lists_cuts text 0 sheet.rules fs) cut)

begins_marked : (xs : List ℕ) → starts_with nat_eq xs (0xEF ∷ 0xBB ∷ 0xBF ∷ []) ≡ true → (left : List ℕ) × (xs ≡ 0xEF ∷ 0xBB ∷ 0xBF ∷ left)
begins_marked [] is = absurd cc
begins_marked (b ∷ []) is = absurd (grind (arith, nat_tests))
begins_marked (b ∷ c ∷ []) is = absurd (grind (arith, nat_tests))
begins_marked (b ∷ c ∷ d ∷ xs) is =
    let first : b ≡ 0xEF = grind (arith, nat_tests) in
    let second : c ≡ 0xBB = grind (arith, nat_tests) in
    let third : d ≡ 0xBF = grind (arith, nat_tests) in
    (xs, rw (first, second, third) refl)

marked_or : (text : List ℕ) → (behind_order_mark text ≡ text) ⊎ ((rest : List ℕ) × (text ≡ 0xEF ∷ 0xBB ∷ 0xBF ∷ rest) × (behind_order_mark text ≡ rest))
unfolding behind_order_mark
marked_or text = by (starts_with nat_eq text (0xEF ∷ 0xBB ∷ 0xBF ∷ [])) refl
  where
    by : (test : Bool) → starts_with nat_eq text (0xEF ∷ 0xBB ∷ 0xBF ∷ []) ≡ test
        → ((if test then drop 3 text else text) ≡ text) ⊎ ((rest : List ℕ) × (text ≡ 0xEF ∷ 0xBB ∷ 0xBF ∷ rest) × ((if test then drop 3 text else text) ≡ rest))
    by false is = inl refl
    by true is = let marked = begins_marked text is in inr (marked.0, marked.1, ap (λ (xs : List ℕ). drop 3 xs) marked.1)

-- no mark is in front of a text that is passed over as it stands
not_marked : (text others : List ℕ) → behind_order_mark text ≡ text → text ≡ 0xEF ∷ 0xBB ∷ 0xBF ∷ others → ⊥
unfolding behind_order_mark
not_marked text others same is = let shorter = ap length (sym (ap behind_order_mark is) ∙ same ∙ is) in omega (arith, shorter)

pub no_mark_left : (text : List ℕ) (names later : List Named) (sheet : Sheet) (flags : List Bool) → IsUtf8 text → add_rules text empty_sheet names (rules_of text) ≡ (later, Ok sheet) → length flags ≡ length sheet.items
    → behind_order_mark text ≡ text → behind_order_mark (pruned text sheet flags) ≡ pruned text sheet flags
unfolding pruned behind_order_mark
no_mark_left text names later sheet flags utf8 read count same = by (starts_with nat_eq left (0xEF ∷ 0xBB ∷ 0xBF ∷ [])) refl
  where
    rs : List Range
    rs = cuts text sheet flags

    left : List ℕ
    left = without rs 0 text

    whole : CutsWhole rs 0 text
    whole = cuts_whole text rs 0 [] text refl refl (cuts_between text names later sheet flags utf8 read)

    none : mark_size text ≡ 0
    none = omega (arith, ap length same)

    absurd_by : (m : HasMarkLeft rs text) → IsUnfixed text sheet.rules (with_flags sheet.items flags) (length m.front) → ⊥
    absurd_by m found =
        not_both (has_order_mark (drop found.rule.from text)) (has_behind text m.front m.others found.rule.from m.whole (omega (arith, found.early))) (unfixed text found.rule (of_rule 0 (with_flags sheet.items flags)) found.free)

    some : (front others : List ℕ) → text ≡ front ++ 0xEF ∷ 0xBB ∷ 0xBF ∷ others → 0 < length front
    some [] others is = absurd (not_marked text others same is)
    some (b ∷ front) others is = omega arith

    wrong : HasMarkLeft rs text → ⊥
    wrong m =
        let more = some m.front m.others m.whole in
        absurd_by m (cut_unfixed text names later sheet flags (length m.front) read count none more (m.gone 0 more) m.stays)

    by : (test : Bool) → starts_with nat_eq left (0xEF ∷ 0xBB ∷ 0xBF ∷ []) ≡ test → (if test then drop 3 left else left) ≡ left
    by false is = refl
    by true is = let marked = begins_marked left is in absurd (wrong (mark_left rs text marked.0 whole marked.1))

-- No byte order mark comes to the front that wasn't there.
pub keeps_mark : (text : List ℕ) (names later : List Named) (sheet : Sheet) (flags : List Bool) → IsUtf8 text → add_rules text empty_sheet names (rules_of text) ≡ (later, Ok sheet) → length flags ≡ length sheet.items
    → (is : IsPrunedTo text sheet flags) → KeepsMark text sheet flags is
keeps_mark text names later sheet flags utf8 read count is = by (marked_or text)
  where
    spans : bytes_of (spans_of text) ≡ behind_order_mark text
    spans = (spans_read 0 0 (behind_order_mark text)).bytes

    by : (behind_order_mark text ≡ text) ⊎ ((rest : List ℕ) × (text ≡ 0xEF ∷ 0xBB ∷ 0xBF ∷ rest) × (behind_order_mark text ≡ rest)) → KeepsMark text sheet flags is
    by (inl same) =
        let none : is.mark ≡ [] = append_cancel_right is.mark [] text (ap (λ xs. is.mark ++ xs) (sym (spans ∙ same)) ∙ sym is.whole) in
        no_mark_left text names later sheet flags utf8 read count same ∙ is.text_is ∙ ap (λ (xs : List ℕ). xs ++ bytes_of (left_spans text sheet flags is)) none
    by (inr (rest, marked, behind)) =
        marked_keeps text sheet flags is (append_cancel_right is.mark (0xEF ∷ 0xBB ∷ 0xBF ∷ []) rest (ap (λ xs. is.mark ++ xs) (sym (spans ∙ behind)) ∙ sym is.whole ∙ marked))

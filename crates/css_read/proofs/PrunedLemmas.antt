-- The pruned text is spans of the sheet, each of which stands for what it stood for.
use Rattle.std.proofs.Common.{◌≡◌, ℕ, zero, suc, ◌+◌, ◌-◌, ◌≤◌, ◌&&◌, ◌||◌, not, Bool, true, false, if◌then◌else◌, nat_eq, nat_lt, List, [], ◌∷◌, ◌++◌, length, take, drop, map, Ok, refl, sym, ap, ◌∙◌, subst, arith, length-append, append_assoc, slice_range, ◌==◌}
use Rattle.std.specs.List.{starts_with, list_any, list_all}
use Rattle.std.proofs.lemmas.Bool.{or_parts}
use Rattle.std.proofs.lemmas.List.{length-take-le, take-append-drop}
use Rattle.text_bytes.specs.OrderMark.{behind_order_mark}
use Rattle.tp_base.specs.Names.{Named}
use Rattle.tp_base.proofs.Truths.{or_assoc}
use Rattle.css_read.specs.declared.fronts.Front.{Front}
use Rattle.css_read.specs.declared.fronts.Front.TheVariants.{Passed, Opens, Closes, Styles}
use Rattle.css_read.specs.declared.sheets.Range.{Range}
use Rattle.css_read.specs.Holders.{Step, owners_of, steps_from, steps_of, holder_of, holders_from, holders_of}
use Rattle.css_read.specs.Order.{range_of}
use Rattle.css_read.specs.Pieces.{pieces}
use Rattle.css_read.specs.Pruned.{Flagged, goes, with_flags, of_rule, begins_at_rule, is_fixed, gone_rules, gone_ranges, wholes, list_cuts, lists_cuts, gone_holders, cuts, without, pruned}
use Rattle.css_read.specs.Pruned as spec
use Rattle.css_read.specs.Reading.{pieces_of, add_rules, empty_sheet}
use Rattle.css_read.specs.Rules.{Rule, list_ends, depth_after, rules_of}
use Rattle.css_read.specs.Sheets.{Item, Sheet}
use Rattle.css_read.proofs.CutLemmas.{IsCut, without_append, kept_all, none_before}
use Rattle.css_read.proofs.ItemLemmas.{AreItemsOf, ranges_of, sheet_of, items_from, own_of, others_of}
use Rattle.css_read.proofs.ListLemmas.{IsListed}
use Rattle.css_read.proofs.PlanLemmas.{Plan, keep, drop_rule, drop_block, relist, fates_of, going_after, block_end, ranges, IsOpening, ArePlans, ranges_from, IsCutBy, cut_append, not_below}
use Rattle.css_read.proofs.RelistLemmas.{AreWell, HasTexts, ClosesAll, rule_at, plans_left}
use Rattle.css_read.proofs.RulePlans.{IsRulePlan, rule_plan, texts_left, slice_at}
use Rattle.css_read.proofs.TameLemmas.{AreClosed, all_closed}
use Rattle.css_read.proofs.SpanLemmas.{Span, bytes_of, IsReadBefore, AreRead, IsStyle, IsRuleBehind, AreReadBefore, left_of, steps_at, rules_in, rules_are, read_steps, spans_from, spans_read, style_depth}

-- ---- the selectors of each rule, with their flags

pub record IsOwned (text : List ℕ) (fs : List Flagged) (k : ℕ) (r : Rule) : Type 0 where
  pub own : List Item
  pub flags : List Bool
  pub list : of_rule k fs ≡ with_flags own flags
  pub places : map range_of own ≡ pieces_of text r
  pub count : length flags ≡ length own

abbrev pub AreOwned : List ℕ → List Flagged → ℕ → List Rule → Type 0
AreOwned text fs k [] = Unit {0}
AreOwned text fs k (r ∷ rs) = IsOwned text fs k r × AreOwned text fs (k + 1) rs

pub flags_taken : (own : List Item) (flags : List Bool) → with_flags own flags ≡ with_flags own (take (length own) flags)
flags_taken [] flags = refl
flags_taken (i ∷ own) [] = refl
flags_taken (i ∷ own) (g ∷ flags) = ap (λ (fs : List Flagged). (i, g) ∷ fs) (flags_taken own flags)

pub owned_from : (text : List ℕ) (fs : List Flagged) (k : ℕ) (rs : List Rule) (items : List Item) (flags : List Bool) → AreItemsOf text k rs items → length flags ≡ length items
    → ((j : ℕ) → k ≤ j → of_rule j fs ≡ of_rule j (with_flags items flags)) → AreOwned text fs k rs
owned_from text fs k [] items flags are count same = tt
owned_from text fs k (r ∷ rs) items flags are count same =
    let own = are.0 in
    let others = are.1 in
    let whole : items ≡ own ++ others = are.2 in
    let sizes = ap length whole ∙ length-append own others in
    let from = items_from text (k + 1) rs others are.5 in
    let left = drop (length own) flags in
    let split : flags ≡ take (length own) flags ++ left = sym (take_drop (length own) flags) in
    let taken : length (take (length own) flags) ≡ length own = length-take-le (length own) flags (omega arith) in
    let later : length left ≡ length others = omega (arith, ap length split ∙ length-append (take (length own) flags) left) in (
      record {
        own = own;
        flags = take (length own) flags;
        list = same k (omega arith) ∙ ap (λ (is : List Item). of_rule k (with_flags is flags)) whole ∙ own_of k own others flags are.4 from ∙ flags_taken own flags;
        places = are.3;
        count = taken;
      },
      owned_from text fs (k + 1) rs others left are.5 later (λ j less. same j (omega arith) ∙ ap (λ (is : List Item). of_rule j (with_flags is flags)) whole ∙ others_of j k own others flags (omega arith) are.4),
    )
  where
    take_drop : (n : ℕ) (gs : List Bool) → take n gs ++ drop n gs ≡ gs
    take_drop n gs = take-append-drop n gs

-- ---- what is asked of the lists that change: that their strings are closed

abbrev pub number_after : ℕ → Front → ℕ
number_after k (Styles len) = k + 1
number_after k f = k

abbrev pub IsTame : List ℕ → List Flagged → ℕ → ℕ → ℕ → Span → List ℕ → Front → Type 0
IsTame text fs k at d s rest (Styles len) =
    is_fixed text k (record { from = at; to = at + length s.bytes }) (of_rule k fs) ≡ false → (l : IsListed (nat_lt 0 d) (s.bytes ++ rest) len rest) → ClosesAll (list_ends (nat_lt 0 d)) l.list (123 ∷ l.block)
IsTame text fs k at d s rest f = Unit {0}

abbrev pub AreTame : List ℕ → List Flagged → ℕ → ℕ → ℕ → List Span → Type 0
AreTame text fs k at d [] = Unit {0}
AreTame text fs k at d (s ∷ ss) = IsTame text fs k at d s (bytes_of ss) s.front × AreTame text fs (number_after k s.front) (at + length s.bytes) (depth_after d s.front) ss

-- ---- plans that are read in their place, wherever they stand

abbrev pub IsWellAt : ℕ → Plan → List ℕ → Type 0
IsWellAt d (relist rs ts) rest = IsRuleBehind ts × AreReadBefore d ts rest
IsWellAt d p rest = Unit {0}

abbrev pub AreWellAt : ℕ → List Plan → List Span → Type 0
AreWellAt d [] ss = Unit {0}
AreWellAt d (p ∷ ps) [] = Unit {0}
AreWellAt d (p ∷ ps) (s ∷ ss) = IsWellAt d p (bytes_of ss) × AreWellAt (depth_after d s.front) ps ss

open_depth : (f : Front) (n : ℕ) → IsOpening f → depth_after n f ≡ n + 1
open_depth Opens n is = refl
open_depth Passed n is = absurd is
open_depth Closes n is = absurd is
open_depth (Styles len) n is = absurd is

going_depth : (n m : ℕ) (p : Plan) (f : Front) → depth_after (n + suc m) f ≡ n + going_after (suc m) p f
going_depth n m p Passed = refl
going_depth n m p (Styles len) = refl
going_depth n m p Opens = omega arith
going_depth n m p Closes = omega arith

well_from : (at n m : ℕ) (ps : List Plan) (ss : List Span) → ArePlans at ps ss → AreWellAt (n + m) ps ss → AreWell n m ps ss
well_from at n m [] ss are well = tt
well_from at n m (p ∷ ps) [] are well = absurd are
well_from at n zero (keep ∷ ps) (s ∷ ss) are well =
    let unit : n + 0 ≡ n = omega arith in
    let depth : depth_after (n + 0) s.front ≡ depth_after n s.front + 0 = ap (λ k. depth_after k s.front) unit ∙ sym (no_more (depth_after n s.front)) in
    well_from (at + length s.bytes) (depth_after n s.front) zero ps ss are.1 (rw depth at well.1)
  where
    no_more : (k : ℕ) → k + 0 ≡ k
    no_more k = omega arith
well_from at n zero (drop_rule ∷ ps) (s ∷ ss) are well = well_from (at + length s.bytes) n zero ps ss are.1 (rw (style_depth s.front (n + 0) are.0) at well.1)
well_from at n zero (drop_block ∷ ps) (s ∷ ss) are well =
    let depth : depth_after (n + 0) s.front ≡ n + 1 = open_depth s.front (n + 0) are.0 ∙ one n in
    well_from (at + length s.bytes) n 1 ps ss are.1 (rw depth at well.1)
  where
    one : (n : ℕ) → n + 0 + 1 ≡ n + 1
    one n = omega arith
well_from at n zero (relist rs ts ∷ ps) (s ∷ ss) are well =
    let unit : n + 0 ≡ n = omega arith in
    (well.0.0, rw unit at well.0.1, well_from (at + length s.bytes) n zero ps ss are.1 (rw (style_depth s.front (n + 0) are.0.0) at well.1))
well_from at n (suc m) (p ∷ ps) (s ∷ ss) are well = well_from (at + length s.bytes) n (going_after (suc m) p s.front) ps ss are.1 (rw (going_depth n m p s.front) at well.1)

-- ---- the plans of a text

-- what becomes of a rule: it stays where it is fixed, goes where it is to go, and else has the selectors that stay before its block
abbrev pub IsByFlags : List ℕ → List Flagged → ℕ → ℕ → Span → Plan → Front → Type 0
IsByFlags text fs k at s keep (Styles len) = is_fixed text k (record { from = at; to = at + length s.bytes }) (of_rule k fs) ≡ true
IsByFlags text fs k at s drop_rule (Styles len) = (is_fixed text k (record { from = at; to = at + length s.bytes }) (of_rule k fs) ≡ false) × (list_all goes (of_rule k fs) ≡ true)
IsByFlags text fs k at s (relist rs ts) (Styles len) = (is_fixed text k (record { from = at; to = at + length s.bytes }) (of_rule k fs) ≡ false) × IsRuleBehind ts × HasTexts s ts (texts_left text (of_rule k fs))
IsByFlags text fs k at s p f = Unit {0}

abbrev pub AreByFlags : List ℕ → List Flagged → ℕ → ℕ → List Plan → List Span → Type 0
AreByFlags text fs k at [] ss = Unit {0}
AreByFlags text fs k at (p ∷ ps) [] = Unit {0}
AreByFlags text fs k at (p ∷ ps) (s ∷ ss) = IsByFlags text fs k at s p s.front × AreByFlags text fs (number_after k s.front) (at + length s.bytes) ps ss

-- a block goes by the next of the flags of blocks
abbrev pub first_flag : List Bool → Bool
first_flag [] = false
first_flag (g ∷ gone) = g

abbrev pub flags_after : List Bool → Front → List Bool
flags_after gone Opens = drop 1 gone
flags_after gone f = gone

abbrev pub IsByBlock : List Bool → Plan → Type 0
IsByBlock gone drop_block = first_flag gone ≡ true
IsByBlock gone p = Unit {0}

abbrev pub AreByBlocks : List Bool → List Plan → List Span → Type 0
AreByBlocks gone [] ss = Unit {0}
AreByBlocks gone (p ∷ ps) [] = Unit {0}
AreByBlocks gone (p ∷ ps) (s ∷ ss) = IsByBlock gone p × AreByBlocks (flags_after gone s.front) ps ss

abbrev pub IsCutIn : List ℕ → List Flagged → ℕ → ℕ → ℕ → List ℕ → List Bool → List Span → ℕ → Bool
IsCutIn text fs k at hn outer gone ss x =
    let steps = steps_at at ss in
    let rules = ranges_of (rules_in steps) in
    IsCut (gone_ranges (wholes (holders_from text hn outer steps)) gone) x || (IsCut (gone_ranges rules (gone_rules text k rules fs)) x || IsCut (lists_cuts text k rules fs) x)

pub record IsPlanned (text : List ℕ) (fs : List Flagged) (k at d hn : ℕ) (outer : List ℕ) (gone : List Bool) (ss : List Span) : Type 0 where
  pub plans : List Plan
  pub are : ArePlans at plans ss
  pub well : AreWellAt d plans ss
  pub flags : AreByFlags text fs k at plans ss
  pub blocks : AreByBlocks gone plans ss
  pub cut : (x : ℕ) → IsCutIn text fs k at hn outer gone ss x ≡ IsCut (ranges at plans ss) x

gone_none : (rs : List Range) → gone_ranges rs [] ≡ []
gone_none [] = refl
gone_none (r ∷ rs) = refl

all_stay : (fs : List Flagged) → list_all goes fs ≡ true → list_cuts fs ≡ []
all_stay [] all = refl
all_stay (f ∷ []) all = refl
all_stay (f ∷ g ∷ fs) all = by (goes f) (list_all goes (g ∷ fs)) all
  where
    by : (x y : Bool) → (x && y) ≡ true → (if y then (if x then [] else (record { from = f.0.to; to = spec.end_of_last g.0.to fs }) ∷ []) else (if x then (record { from = f.0.from; to = g.0.from }) ∷ list_cuts (g ∷ fs) else list_cuts (g ∷ fs))) ≡ []
    by true true all = refl
    by true false all = absurd (wrong all)
      where
        wrong : false ≡ true → ⊥
        wrong same = cc
    by false y all = absurd (wrong all)
      where
        wrong : false ≡ true → ⊥
        wrong same = cc

or_first : (x h r l : Bool) → (h || ((x || r) || l)) ≡ (x || (h || (r || l)))
or_first true true r l = refl
or_first true false r l = refl
or_first false h r l = refl

or_third : (x h r l : Bool) → (h || (r || (x || l))) ≡ (x || (h || (r || l)))
or_third true true r l = refl
or_third true false true l = refl
or_third true false false l = refl
or_third false h r l = refl

-- ---- a step

-- white space, a comment, what is passed over, or the end of a block
same_plan : (text : List ℕ) (fs : List Flagged) (k at d hn : ℕ) (outer : List ℕ) (gone : List Bool) (f : Front) (bytes : List ℕ) (ss : List Span) (d2 hn2 : ℕ) (outer2 : List ℕ)
    → depth_after d f ≡ d2 → number_after k f ≡ k → flags_after gone f ≡ gone → IsByFlags text fs k at (record { front = f; bytes = bytes }) keep f → ((x : ℕ) → IsCutIn text fs k at hn outer gone ((record { front = f; bytes = bytes }) ∷ ss) x ≡ IsCutIn text fs k (at + length bytes) hn2 outer2 gone ss x)
    → IsPlanned text fs k (at + length bytes) d2 hn2 outer2 gone ss → IsPlanned text fs k at d hn outer gone ((record { front = f; bytes = bytes }) ∷ ss)
same_plan text fs k at d hn outer gone f bytes ss d2 hn2 outer2 depth number stays plain same later = record {
  plans = keep ∷ later.plans;
  are = (tt, later.are);
  well = (tt, rw depth later.well);
  flags = (plain, rw number later.flags);
  blocks = (tt, rw stays later.blocks);
  cut = λ x. same x ∙ later.cut x;
}

-- the parts of what is cut
abbrev held : List ℕ → ℕ → List ℕ → List Bool → ℕ → List Span → List Range
held text hn outer gone at ss = gone_ranges (wholes (holders_from text hn outer (steps_at at ss))) gone

abbrev ruled : List ℕ → List Flagged → ℕ → ℕ → List Span → List Range
ruled text fs k at ss = let rules = ranges_of (rules_in (steps_at at ss)) in gone_ranges rules (gone_rules text k rules fs)

abbrev in_lists : List ℕ → List Flagged → ℕ → ℕ → List Span → List Range
in_lists text fs k at ss = lists_cuts text k (ranges_of (rules_in (steps_at at ss))) fs

-- a block that holds rules
open_plan : (text : List ℕ) (fs : List Flagged) (k at d hn : ℕ) (outer : List ℕ) (gone : List Bool) (bytes : List ℕ) (ss : List Span)
    → ((gone : List Bool) → IsPlanned text fs k (at + length bytes) (d + 1) (hn + 1) (hn ∷ outer) gone ss) → IsPlanned text fs k at d hn outer gone ((record { front = Opens; bytes = bytes }) ∷ ss)
unfolding holders_from holder_of
open_plan text fs k at d hn outer [] bytes ss later =
    let inner = later [] in
    let to = at + length bytes in
    record {
      plans = keep ∷ inner.plans;
      are = (tt, inner.are);
      well = (tt, inner.well);
      flags = (tt, inner.flags);
      blocks = (tt, inner.blocks);
      cut = λ x. ap (λ (rs : List Range). IsCut rs x || (IsCut (ruled text fs k to ss) x || IsCut (in_lists text fs k to ss) x)) (sym (gone_none (wholes (holders_from text (hn + 1) (hn ∷ outer) (steps_at to ss))))) ∙ inner.cut x;
    }
open_plan text fs k at d hn outer (true ∷ gone) bytes ss later =
    let inner = later gone in
    let to = at + length bytes in
    let r : Range = record { from = at; to = block_end 0 to ss } in
    record {
      plans = drop_block ∷ inner.plans;
      are = (tt, inner.are);
      well = (tt, inner.well);
      flags = (tt, inner.flags);
      blocks = (refl, inner.blocks);
      cut = λ x. or_assoc (spec.is_in x r) (IsCut (held text (hn + 1) (hn ∷ outer) gone to ss) x) (IsCut (ruled text fs k to ss) x || IsCut (in_lists text fs k to ss) x) ∙ ap (λ (y : Bool). spec.is_in x r || y) (inner.cut x);
    }
open_plan text fs k at d hn outer (false ∷ gone) bytes ss later =
    let inner = later gone in
    record { plans = keep ∷ inner.plans; are = (tt, inner.are); well = (tt, inner.well); flags = (tt, inner.flags); blocks = (tt, inner.blocks); cut = λ x. inner.cut x }

rule_cut : (text : List ℕ) (fs : List Flagged) (k at hn : ℕ) (outer : List ℕ) (gone : List Bool) (len : ℕ) (bytes : List ℕ) (ss : List Span) (fixed all : Bool) (x : ℕ)
    → is_fixed text k (record { from = at; to = at + length bytes }) (of_rule k fs) ≡ fixed → list_all goes (of_rule k fs) ≡ all
    → IsCutIn text fs k at hn outer gone ((record { front = Styles len; bytes = bytes }) ∷ ss) x
    ≡ (IsCut (held text hn outer gone (at + length bytes) ss) x
    || (IsCut (if all && not fixed then (record { from = at; to = at + length bytes }) ∷ ruled text fs (k + 1) (at + length bytes) ss else ruled text fs (k + 1) (at + length bytes) ss) x
    || IsCut ((if fixed then [] else list_cuts (of_rule k fs)) ++ in_lists text fs (k + 1) (at + length bytes) ss) x))
unfolding holders_from gone_rules lists_cuts
rule_cut text fs k at hn outer gone len bytes ss fixed all x is going = rw (is, going) refl

-- a rule
rule_by : (text : List ℕ) (fs : List Flagged) (k at d hn : ℕ) (outer : List ℕ) (gone : List Bool) (len : ℕ) (bytes : List ℕ) (ss : List Span) (fixed all : Bool)
    → is_fixed text k (record { from = at; to = at + length bytes }) (of_rule k fs) ≡ fixed → list_all goes (of_rule k fs) ≡ all
    → (fixed ≡ false → all ≡ false → IsRulePlan d at (record { front = Styles len; bytes = bytes }) (bytes_of ss) text (of_rule k fs))
    → IsPlanned text fs (k + 1) (at + length bytes) d hn outer gone ss → IsPlanned text fs k at d hn outer gone ((record { front = Styles len; bytes = bytes }) ∷ ss)
rule_by text fs k at d hn outer gone len bytes ss true true is going plan later =
    record { plans = keep ∷ later.plans; are = (tt, later.are); well = (tt, later.well); flags = (is, later.flags); blocks = (tt, later.blocks); cut = λ x. rule_cut text fs k at hn outer gone len bytes ss true true x is going ∙ later.cut x }
rule_by text fs k at d hn outer gone len bytes ss true false is going plan later =
    record { plans = keep ∷ later.plans; are = (tt, later.are); well = (tt, later.well); flags = (is, later.flags); blocks = (tt, later.blocks); cut = λ x. rule_cut text fs k at hn outer gone len bytes ss true false x is going ∙ later.cut x }
rule_by text fs k at d hn outer gone len bytes ss false true is going plan later =
    let to = at + length bytes in
    let r : Range = record { from = at; to = to } in
    record {
      plans = drop_rule ∷ later.plans;
      are = (tt, later.are);
      well = (tt, later.well);
      flags = ((is, going), later.flags);
      blocks = (tt, later.blocks);
      cut = λ x.
          rule_cut text fs k at hn outer gone len bytes ss false true x is going
          ∙ ap (λ (cs : List Range). IsCut (held text hn outer gone to ss) x || (IsCut (r ∷ ruled text fs (k + 1) to ss) x || IsCut (cs ++ in_lists text fs (k + 1) to ss) x)) (all_stay (of_rule k fs) going)
          ∙ or_first (spec.is_in x r) (IsCut (held text hn outer gone to ss) x) (IsCut (ruled text fs (k + 1) to ss) x) (IsCut (in_lists text fs (k + 1) to ss) x)
          ∙ ap (λ (y : Bool). spec.is_in x r || y) (later.cut x);
    }
rule_by text fs k at d hn outer gone len bytes ss false false is going plan later =
    let to = at + length bytes in
    let rule = plan refl refl in
    let cs = list_cuts (of_rule k fs) in
    record {
      plans = relist cs rule.left ∷ later.plans;
      are = ((tt, rule.is.cut), later.are);
      well = ((rule.is.behind, rule.is.read), later.well);
      flags = ((is, rule.is.behind, rule.is.keeps), later.flags);
      blocks = (tt, later.blocks);
      cut = λ x.
          rule_cut text fs k at hn outer gone len bytes ss false false x is going
          ∙ ap (λ (y : Bool). IsCut (held text hn outer gone to ss) x || (IsCut (ruled text fs (k + 1) to ss) x || y)) (cut_append cs (in_lists text fs (k + 1) to ss) x)
          ∙ or_third (IsCut cs x) (IsCut (held text hn outer gone to ss) x) (IsCut (ruled text fs (k + 1) to ss) x) (IsCut (in_lists text fs (k + 1) to ss) x)
          ∙ ap (λ (y : Bool). IsCut cs x || y) (later.cut x)
          ∙ sym (cut_append cs (ranges to later.plans ss) x);
    }

-- of a rule that isn't fixed none but the first selector begins with `@`
none_begin : (text : List ℕ) (k : ℕ) (r : Range) (list : List Flagged) → is_fixed text k r list ≡ false → list_any (λ f. begins_at_rule (spec.bytes_of text f)) (drop 1 list) ≡ false
unfolding is_fixed
none_begin text k r list none = let both = or_parts _ _ none in let inner = or_parts _ _ both.0 in inner.1

-- ---- all steps

planned_by : (text : List ℕ) (fs : List Flagged) (k at d hn : ℕ) (outer : List ℕ) (gone : List Bool) (pre : List ℕ) (f : Front) (bytes : List ℕ) (ss : List Span)
    → IsReadBefore d (record { front = f; bytes = bytes }) (bytes_of ss) → text ≡ pre ++ (bytes ++ bytes_of ss) → length pre ≡ at
    → AreOwned text fs k (rules_in (steps_at at ((record { front = f; bytes = bytes }) ∷ ss))) → IsTame text fs k at d (record { front = f; bytes = bytes }) (bytes_of ss) f
    → ((hn : ℕ) (outer : List ℕ) (gone : List Bool) → AreOwned text fs (number_after k f) (rules_in (steps_at (at + length bytes) ss)) → IsPlanned text fs (number_after k f) (at + length bytes) (depth_after d f) hn outer gone ss)
    → IsPlanned text fs k at d hn outer gone ((record { front = f; bytes = bytes }) ∷ ss)
unfolding holders_from
planned_by text fs k at d hn outer gone pre Passed bytes ss read whole before owned tame later = same_plan text fs k at d hn outer gone Passed bytes ss d hn outer refl refl refl tt (λ x. refl) (later hn outer gone owned)
planned_by text fs k at d hn outer gone pre Closes bytes ss read whole before owned tame later = same_plan text fs k at d hn outer gone Closes bytes ss (d - 1) hn (drop 1 outer) refl refl refl tt (λ x. refl) (later hn (drop 1 outer) gone owned)
planned_by text fs k at d hn outer gone pre Opens bytes ss read whole before owned tame later = open_plan text fs k at d hn outer gone bytes ss (λ gs. later (hn + 1) (hn ∷ outer) gs owned)
planned_by text fs k at d hn outer gone pre (Styles len) bytes ss read whole before owned tame later =
    let s : Span = record { front = Styles len; bytes = bytes } in
    let rest = bytes_of ss in
    let r : Range = record { from = at; to = at + length bytes } in
    let own = owned.0 in
    let list = own.list in
    rule_by text fs k at d hn outer gone len bytes ss _ _ refl refl
    (λ free some.
    let none : list_any (λ f. begins_at_rule (spec.bytes_of text f)) (drop 1 (with_flags own.own own.flags)) ≡ false = ap (λ (gs : List Flagged). list_any (λ f. begins_at_rule (spec.bytes_of text f)) (drop 1 gs)) (sym list) ∙ none_begin text k r (of_rule k fs) free in
    let stay : list_all goes (with_flags own.own own.flags) ≡ false = ap (list_all goes) (sym list) ∙ some in
    let plan : IsRulePlan d at s rest text (with_flags own.own own.flags) = rule_plan d at s rest pre text len own.own own.flags refl read (rule_at d at s rest len refl read (tame free)) whole before own.places own.count stay none in
    subst (λ (gs : List Flagged). IsRulePlan d at s rest text gs) (sym list) plan)
    (later hn outer gone owned.1)

pub planned : (text : List ℕ) (fs : List Flagged) (ss : List Span) (k at d hn : ℕ) (outer : List ℕ) (gone : List Bool) (pre : List ℕ) → AreRead d ss → text ≡ pre ++ bytes_of ss → length pre ≡ at
    → AreOwned text fs k (rules_in (steps_at at ss)) → AreTame text fs k at d ss → IsPlanned text fs k at d hn outer gone ss
unfolding holders_from gone_rules lists_cuts
planned text fs [] k at d hn outer gone pre read whole before owned tame = record { plans = []; are = tt; well = tt; flags = tt; blocks = tt; cut = λ x. refl }
planned text fs (s ∷ ss) k at d hn outer gone pre read whole before owned tame =
    let size : length (pre ++ s.bytes) ≡ at + length s.bytes = length-append pre s.bytes ∙ ap (λ n. n + length s.bytes) before in
    let text_is : text ≡ (pre ++ s.bytes) ++ bytes_of ss = whole ∙ sym (append_assoc pre s.bytes (bytes_of ss)) in
    planned_by text fs k at d hn outer gone pre s.front s.bytes ss read.0 whole before owned tame.0
    (λ hn outer gone owned. planned text fs ss (number_after k s.front) (at + length s.bytes) (depth_after d s.front) hn outer gone (pre ++ s.bytes) read.1 text_is size owned tame.1)

-- ---- a whole text

pub record HasMark (text : List ℕ) : Type 0 where
  pub mark : List ℕ
  pub whole : text ≡ mark ++ behind_order_mark text

pub mark_of : (text : List ℕ) → HasMark text
unfolding behind_order_mark
mark_of text = by (starts_with nat_eq text (0xEF ∷ 0xBB ∷ 0xBF ∷ []))
  where
    with_mark : Bool → List ℕ
    with_mark true = take 3 text
    with_mark false = []

    same : (test : Bool) → text ≡ with_mark test ++ (if test then drop 3 text else text)
    same true = sym (take-append-drop 3 text)
    same false = refl

    by : (test : Bool) → HasMark text
    by test = record { mark = with_mark (starts_with nat_eq text (0xEF ∷ 0xBB ∷ 0xBF ∷ [])); whole = same (starts_with nat_eq text (0xEF ∷ 0xBB ∷ 0xBF ∷ [])) }

abbrev pub spans_of : List ℕ → List Span
spans_of text = spans_from 0 0 (behind_order_mark text)

-- as many bytes as the byte order mark has, if there is one
abbrev pub mark_size : List ℕ → ℕ
mark_size text = length text - length (behind_order_mark text)

pub steps_are : (text : List ℕ) → steps_of text ≡ steps_at (mark_size text) (spans_of text)
unfolding steps_of
steps_are text =
    let mark = mark_of text in
    let sizes = ap length mark.whole ∙ length-append mark.mark (behind_order_mark text) in
    let spans = spans_read 0 0 (behind_order_mark text) in
    let size : mark_size text + length (bytes_of (spans_of text)) ≡ length text = ap (λ bs. mark_size text + length bs) spans.bytes ∙ omega arith in
    ap (steps_from (length text) 0 0) (sym spans.bytes) ∙ read_steps (length text) 0 (mark_size text) (spans_of text) spans.read size

pub rules_steps : (text : List ℕ) → rules_of text ≡ rules_in (steps_at (mark_size text) (spans_of text))
unfolding rules_of steps_of
rules_steps text = rules_are (length text) 0 0 (behind_order_mark text) ∙ ap rules_in (steps_are text)

-- what is left of a sheet
pub record IsPrunedTo (text : List ℕ) (sheet : Sheet) (flags : List Bool) : Type 0 where
  pub mark : List ℕ
  pub plans : List Plan
  pub whole : text ≡ mark ++ bytes_of (spans_of text)
  pub are : ArePlans (mark_size text) plans (spans_of text)
  pub flags_are : AreByFlags text (with_flags sheet.items flags) 0 (mark_size text) plans (spans_of text)
  pub blocks_are : AreByBlocks (gone_holders (owners_of text) (gone_rules text 0 sheet.rules (with_flags sheet.items flags)) 0 (holders_of text)) plans (spans_of text)
  pub text_is : pruned text sheet flags ≡ mark ++ bytes_of (left_of (fates_of 0 plans (spans_of text)) (spans_of text))
  pub read : AreRead 0 (left_of (fates_of 0 plans (spans_of text)) (spans_of text))

none_less : (k : ℕ) (x : Bool) → x ≡ (nat_lt k 0 || x)
none_less k x = let none : nat_lt k 0 ≡ false = not_below k 0 (omega arith) in rw none refl

pub pruned_to : (text : List ℕ) (names later : List Named) (sheet : Sheet) (flags : List Bool) → add_rules text empty_sheet names (rules_of text) ≡ (later, Ok sheet) → length flags ≡ length sheet.items
    → AreTame text (with_flags sheet.items flags) 0 (mark_size text) 0 (spans_of text) → IsPrunedTo text sheet flags
unfolding pruned cuts holders_of
pruned_to text names later sheet flags read count tame =
    let fs = with_flags sheet.items flags in
    let at = mark_size text in
    let ss = spans_of text in
    let is = sheet_of text names later (rules_of text) sheet read in
    let mark = mark_of text in
    let spans = spans_read 0 0 (behind_order_mark text) in
    let sizes = ap length mark.whole ∙ length-append mark.mark (behind_order_mark text) in
    let before : length mark.mark ≡ at = omega arith in
    let whole : text ≡ mark.mark ++ bytes_of ss = mark.whole ∙ ap (λ bs. mark.mark ++ bs) (sym spans.bytes) in
    let owned : AreOwned text fs 0 (rules_in (steps_at at ss)) = subst (AreOwned text fs 0) (rules_steps text) (owned_from text fs 0 (rules_of text) sheet.items flags is.items count (λ j less. refl)) in
    let rules : sheet.rules ≡ ranges_of (rules_in (steps_at at ss)) = is.rules ∙ ap ranges_of (rules_steps text) in
    let gone = gone_holders (owners_of text) (gone_rules text 0 sheet.rules fs) 0 (holders_of text) in
    let plan = planned text fs ss 0 at 0 0 [] gone mark.mark spans.read whole before owned tame in
    let rs = cuts text sheet flags in
    let cut : (x : ℕ) → IsCut rs x ≡ IsCut (ranges at plan.plans ss) x = λ x.
    cut_append (gone_ranges (wholes (holders_of text)) gone) _ x
    ∙ ap (λ (y : Bool). IsCut (gone_ranges (wholes (holders_of text)) gone) x || y) (cut_append (gone_ranges sheet.rules (gone_rules text 0 sheet.rules fs)) (lists_cuts text 0 sheet.rules fs) x)
    ∙ ap (λ (steps : List Step). IsCut (gone_ranges (wholes (holders_from text 0 [] steps)) gone) x || (IsCut (gone_ranges sheet.rules (gone_rules text 0 sheet.rules fs)) x || IsCut (lists_cuts text 0 sheet.rules fs) x)) (steps_are text)
    ∙ ap (λ (qs : List Range). IsCut (gone_ranges (wholes (holders_from text 0 [] (steps_at at ss))) gone) x || (IsCut (gone_ranges qs (gone_rules text 0 qs fs)) x || IsCut (lists_cuts text 0 qs fs) x)) rules
    ∙ plan.cut x
    in
    let by : IsCutBy rs 0 at plan.plans ss = λ k low. cut k ∙ none_less k (IsCut (ranges at plan.plans ss) k) in
    let left = plans_left (length text) at rs plan.plans ss spans.read plan.are (well_from at 0 0 plan.plans ss plan.are plan.well) by in
    let first : without rs 0 mark.mark ≡ mark.mark = kept_all rs 0 mark.mark (λ k low high. cut k ∙ none_before at k (ranges at plan.plans ss) (ranges_from at plan.plans ss plan.are) (omega arith)) in
    let size : 0 + length mark.mark ≡ at = omega arith in
    record {
      mark = mark.mark;
      plans = plan.plans;
      whole = whole;
      are = plan.are;
      flags_are = plan.flags;
      blocks_are = plan.blocks;
      text_is = ap (without rs 0) whole ∙ without_append rs 0 mark.mark (bytes_of ss) ∙ rw (first, size, left.text) refl;
      read = left.read;
    }

-- ---- what is judged closes its strings

closed_of_rule : (text : List ℕ) (k : ℕ) (fs : List Flagged) → AreClosed text fs → AreClosed text (of_rule k fs)
closed_of_rule text k [] are = tt
closed_of_rule text k (f ∷ fs) are = by (f.0.rule == k) (closed_of_rule text k fs are.1)
  where
    by : (test : Bool) → AreClosed text (of_rule k fs) → AreClosed text (if test then f ∷ of_rule k fs else of_rule k fs)
    by true later = (are.0, later)
    by false later = later

none_has : (text : List ℕ) (k : ℕ) (r : Range) (list : List Flagged) → is_fixed text k r list ≡ false → list_any (spec.has_string text) list ≡ false
unfolding is_fixed
none_has text k r list none = (or_parts _ _ none).1

tame_rule : (text : List ℕ) (fs : List Flagged) (k at d : ℕ) (pre : List ℕ) (len : ℕ) (bytes rest : List ℕ) → text ≡ pre ++ (bytes ++ rest) → length pre ≡ at
    → IsOwned text fs k (record { from = at; brace = at + len; to = at + length bytes }) → AreClosed text (of_rule k fs) → IsTame text fs k at d (record { front = Styles len; bytes = bytes }) rest (Styles len)
tame_rule text fs k at d pre len bytes rest whole before own judged free l =
    let text_is : text ≡ pre ++ (l.list ++ 123 ∷ l.block) = whole ∙ ap (λ bs. pre ++ bs) l.whole in
    let slice : slice_range text at (at + len) ≡ l.list = ap (λ bs. slice_range bs at (at + len)) text_is ∙ slice_at pre l.list (123 ∷ l.block) at (at + len) before (ap (λ n. at + n) l.size) in
    let places : map range_of own.own ≡ pieces (at + length l.list) l.list = own.places ∙ ap (pieces (at + len)) slice ∙ ap (λ n. pieces (at + n) l.list) (sym l.size) in
    all_closed (list_ends (nat_lt 0 d)) text pre l.list l.block at own.own own.flags text_is before places own.count
    (ap (list_any (spec.has_string text)) (sym own.list) ∙ none_has text k (record { from = at; to = at + length bytes }) (of_rule k fs) free)
    (subst (AreClosed text) own.list judged)

tame_by : (text : List ℕ) (fs : List Flagged) (k at d : ℕ) (pre : List ℕ) (f : Front) (bytes : List ℕ) (ss : List Span) → text ≡ pre ++ (bytes ++ bytes_of ss) → length pre ≡ at
    → AreOwned text fs k (rules_in (steps_at at ((record { front = f; bytes = bytes }) ∷ ss))) → AreClosed text fs
    → (AreOwned text fs (number_after k f) (rules_in (steps_at (at + length bytes) ss)) → AreTame text fs (number_after k f) (at + length bytes) (depth_after d f) ss)
    → AreTame text fs k at d ((record { front = f; bytes = bytes }) ∷ ss)
tame_by text fs k at d pre (Styles len) bytes ss whole before owned judged later = (tame_rule text fs k at d pre len bytes (bytes_of ss) whole before owned.0 (closed_of_rule text k fs judged), later owned.1)
tame_by text fs k at d pre Passed bytes ss whole before owned judged later = (tt, later owned)
tame_by text fs k at d pre Opens bytes ss whole before owned judged later = (tt, later owned)
tame_by text fs k at d pre Closes bytes ss whole before owned judged later = (tt, later owned)

tame_of : (text : List ℕ) (fs : List Flagged) (ss : List Span) (k at d : ℕ) (pre : List ℕ) → text ≡ pre ++ bytes_of ss → length pre ≡ at → AreOwned text fs k (rules_in (steps_at at ss)) → AreClosed text fs → AreTame text fs k at d ss
tame_of text fs [] k at d pre whole before owned judged = tt
tame_of text fs (s ∷ ss) k at d pre whole before owned judged =
    let size : length (pre ++ s.bytes) ≡ at + length s.bytes = length-append pre s.bytes ∙ ap (λ n. n + length s.bytes) before in
    let text_is : text ≡ (pre ++ s.bytes) ++ bytes_of ss = whole ∙ sym (append_assoc pre s.bytes (bytes_of ss)) in
    tame_by text fs k at d pre s.front s.bytes ss whole before owned judged (λ later. tame_of text fs ss (number_after k s.front) (at + length s.bytes) (depth_after d s.front) (pre ++ s.bytes) text_is size later judged)

-- The sheet that was read of a text: without the selectors that are flagged, it is spans that read as before, if each judged selector closes its strings.
pub pruned_left : (text : List ℕ) (names later : List Named) (sheet : Sheet) (flags : List Bool) → add_rules text empty_sheet names (rules_of text) ≡ (later, Ok sheet) → length flags ≡ length sheet.items
    → AreClosed text (with_flags sheet.items flags) → IsPrunedTo text sheet flags
pruned_left text names later sheet flags read count judged =
    let fs = with_flags sheet.items flags in
    let is = sheet_of text names later (rules_of text) sheet read in
    let mark = mark_of text in
    let spans = spans_read 0 0 (behind_order_mark text) in
    let sizes = ap length mark.whole ∙ length-append mark.mark (behind_order_mark text) in
    let whole : text ≡ mark.mark ++ bytes_of (spans_of text) = mark.whole ∙ ap (λ bs. mark.mark ++ bs) (sym spans.bytes) in
    let owned : AreOwned text fs 0 (rules_in (steps_at (mark_size text) (spans_of text))) = subst (AreOwned text fs 0) (rules_steps text) (owned_from text fs 0 (rules_of text) sheet.items flags is.items count (λ j less. refl)) in
    pruned_to text names later sheet flags read count (tame_of text fs (spans_of text) 0 (mark_size text) 0 mark.mark whole (omega arith) owned judged)

-- ---- the pruned text, read again

abbrev pub left_spans : (text : List ℕ) (sheet : Sheet) (flags : List Bool) → IsPrunedTo text sheet flags → List Span
left_spans text sheet flags is = left_of (fates_of 0 is.plans (spans_of text)) (spans_of text)

-- no byte order mark comes to the front that wasn't there
abbrev pub KeepsMark : (text : List ℕ) (sheet : Sheet) (flags : List Bool) → IsPrunedTo text sheet flags → Type 0
KeepsMark text sheet flags is = behind_order_mark (pruned text sheet flags) ≡ bytes_of (left_spans text sheet flags is)

-- behind a mark that stays, none is looked for
behind_mark_of : (mark rest : List ℕ) → mark ≡ 0xEF ∷ 0xBB ∷ 0xBF ∷ [] → behind_order_mark (mark ++ rest) ≡ rest
unfolding behind_order_mark
behind_mark_of mark rest is = rw is refl

pub marked_keeps : (text : List ℕ) (sheet : Sheet) (flags : List Bool) (is : IsPrunedTo text sheet flags) → is.mark ≡ 0xEF ∷ 0xBB ∷ 0xBF ∷ [] → KeepsMark text sheet flags is
marked_keeps text sheet flags is mark = ap behind_order_mark is.text_is ∙ behind_mark_of is.mark (bytes_of (left_spans text sheet flags is)) mark

-- its steps and its rules are those of the spans that are left
pub steps_again : (text : List ℕ) (sheet : Sheet) (flags : List Bool) (is : IsPrunedTo text sheet flags) → KeepsMark text sheet flags is → steps_of (pruned text sheet flags) ≡ steps_at (length is.mark) (left_spans text sheet flags is)
unfolding steps_of
steps_again text sheet flags is kept =
    let left = left_spans text sheet flags is in
    let size : length is.mark + length (bytes_of left) ≡ length (pruned text sheet flags) = sym (ap length is.text_is ∙ length-append is.mark (bytes_of left)) in
    ap (steps_from (length (pruned text sheet flags)) 0 0) kept ∙ read_steps (length (pruned text sheet flags)) 0 (length is.mark) left is.read size

pub rules_again : (text : List ℕ) (sheet : Sheet) (flags : List Bool) (is : IsPrunedTo text sheet flags) → KeepsMark text sheet flags is → rules_of (pruned text sheet flags) ≡ rules_in (steps_at (length is.mark) (left_spans text sheet flags is))
unfolding rules_of steps_of
rules_again text sheet flags is kept = rules_are (length (pruned text sheet flags)) 0 0 (behind_order_mark (pruned text sheet flags)) ∙ ap rules_in (steps_again text sheet flags is kept)

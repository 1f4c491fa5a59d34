-- The pruned text is read as the sheet without the selectors that go, and does what the sheet did.
use Rattle.std.proofs.Common.{◌≡◌, ℕ, ◌+◌, ◌==◌, not, Bool, true, false, if◌then◌else◌, List, [], ◌∷◌, ◌++◌, length, get_or, Ok, refl, sym, ap, ◌∙◌, subst, arith, length-append}
use Rattle.std.specs.Str.Lossy.{utf8_valid_len}
use Rattle.std.proofs.lemmas.Bool.Decides.{nat_tests}
use Rattle.std.proofs.lemmas.Str.{utf8_valid_len-IsUtf8}
use Rattle.text_bytes.specs.OrderMark.{behind_order_mark}
use Rattle.tp_base.specs.Names.{Named}
use Rattle.sel_text.specs.Selectors.{Selector}
use Rattle.css_read.specs.declared.sheets.Range.{Range}
use Rattle.css_read.specs.Effects.{Style, Scope, scopes_of, style_of, effect_in, effect, fixed_rules, stayed_in, stayed, number_left, IsSameOutcome, IsMoved, AreMoved, FailsTest, AllFail, KeepsSheet, KeepsSheets}
use Rattle.css_read.specs.Pruned.{with_flags, gone_rules, pruned}
use Rattle.css_read.specs.Reading.{add_rules, empty_sheet, read_sheet}
use Rattle.css_read.specs.Rules.{Rule, rules_of}
use Rattle.css_read.specs.Sheets.{Outcome, judged, skipped, Item, Sheet}
use Rattle.css_read.proofs.AgainLemmas.{AreKnownIn, sheet_known}
use Rattle.css_read.proofs.GoneRules.{gone_by, gone_are}
use Rattle.css_read.proofs.ItemLemmas.{ranges_of, sheet_of}
use Rattle.css_read.proofs.LeftLemmas.{IsLeftOf, sheet_left}
use Rattle.css_read.proofs.PrunedLemmas.{spans_of, mark_size, IsPrunedTo, left_spans, KeepsMark, steps_again, rules_again, steps_are, rules_steps}
use Rattle.css_read.proofs.PrunedText.{accepted}
use Rattle.css_read.proofs.RereadLemmas.{AreReread, AreSized, sized_of, reread_from}
use Rattle.css_read.proofs.RereadSheets.{IsReread, sheet_again, sheet_few}
use Rattle.css_read.proofs.RuleOrder.{AreRulesApart, rules_apart}
use Rattle.css_read.proofs.ScopeLemmas.{Stands, scopes_in, scopes_are, left_in, scopes_left, scope_left}
use Rattle.css_read.proofs.SpanLemmas.{bytes_of, steps_at, rules_in, spans_read}
use Rattle.css_read.proofs.StayLemmas.{AreNumbered, AreGroups, groups_from, known_stay, few_stay}

-- ---- effects

none_styled : (test : Selector → Bool) (scopes : List Scope) (i : Item) → FailsTest test (i, true) → style_of test scopes i.rule i.outcome ≡ []
none_styled test scopes i fails = by i.outcome fails
  where
    by : (o : Outcome) → FailsTest test (record { from = i.from; to = i.to; rule = i.rule; outcome = o }, true) → style_of test scopes i.rule o ≡ []
    by (judged s) fails = rw fails refl
    by (skipped why at) fails = refl

-- what goes does nothing
pub effect_stayed : (test : Selector → Bool) (scopes : List Scope) (fixed : List Bool) (items : List Item) (flags : List Bool) → length flags ≡ length items → AllFail test (with_flags items flags)
    → effect_in test scopes items ≡ effect_in test scopes (stayed_in fixed (with_flags items flags))
effect_stayed test scopes fixed [] flags count fails = refl
effect_stayed test scopes fixed (i ∷ items) [] count fails = absurd (omega arith)
effect_stayed test scopes fixed (i ∷ items) (false ∷ flags) count fails = ap (λ (styles : List Style). style_of test scopes i.rule i.outcome ++ styles) (effect_stayed test scopes fixed items flags (omega arith) fails.1)
effect_stayed test scopes fixed (i ∷ items) (true ∷ flags) count fails = by (not (get_or fixed i.rule false)) (effect_stayed test scopes fixed items flags (omega arith) fails.1)
  where
    by : (test_goes : Bool) → effect_in test scopes items ≡ effect_in test scopes (stayed_in fixed (with_flags items flags))
        → style_of test scopes i.rule i.outcome ++ effect_in test scopes items ≡ effect_in test scopes (if test_goes then stayed_in fixed (with_flags items flags) else i ∷ stayed_in fixed (with_flags items flags))
    by true later = rw (none_styled test scopes i fails.0) later
    by false later = ap (λ (styles : List Style). style_of test scopes i.rule i.outcome ++ styles) later

-- the rule of each selector stays
abbrev pub AreStaying : List Bool → List Item → Type 0
AreStaying gone [] = Unit {0}
AreStaying gone (i ∷ items) = (get_or gone i.rule true ≡ false) × AreStaying gone items

staying-append : (gone : List Bool) (xs ys : List Item) → AreStaying gone xs → AreStaying gone ys → AreStaying gone (xs ++ ys)
staying-append gone [] ys first later = later
staying-append gone (i ∷ xs) ys first later = (first.0, staying-append gone xs ys first.1 later)

numbered_stay : (gone : List Bool) (j : ℕ) (items : List Item) → AreNumbered gone j items → AreStaying gone items
numbered_stay gone j [] are = tt
numbered_stay gone j (i ∷ items) are = (are.1, numbered_stay gone j items are.2)

reread_stay : (text other : List ℕ) (gone : List Bool) (j : ℕ) (rs : List Rule) (items : List Item) → AreReread text other gone j rs items → AreStaying gone items
reread_stay text other gone j [] items are = subst (AreStaying gone) (sym are) tt
reread_stay text other gone j (r ∷ rs) items are = subst (AreStaying gone) (sym are.2) (staying-append gone are.0 are.1 (numbered_stay gone j are.0 are.4) (reread_stay text other gone (j + 1) rs are.1 are.5))

-- a rule that stays has the same block, and the same heads round it
abbrev pub KeepScopes : List Bool → List Scope → List Scope → Type 0
KeepScopes gone scopes others = (k : ℕ) → get_or gone k true ≡ false → get_or others (number_left gone k) ([], []) ≡ get_or scopes k ([], [])

abbrev styled : (Selector → Bool) → Scope → Selector → List Style
styled test scope s = if test s then (record { selector = s; block = scope.0; heads = scope.1 }) ∷ [] else []

same_style : (test : Selector → Bool) (scopes others : List Scope) (gone : List Bool) (i j : Item) → IsMoved gone i j → get_or gone i.rule true ≡ false → KeepScopes gone scopes others → style_of test scopes i.rule i.outcome ≡ style_of test others j.rule j.outcome
same_style test scopes others gone i j moved stays keeps = by i.outcome j.outcome moved.outcome
  where
    scope : get_or others j.rule ([], []) ≡ get_or scopes i.rule ([], [])
    scope = ap (λ (k : ℕ). get_or others k ([], [])) moved.rule ∙ keeps i.rule stays

    by : (o p : Outcome) → IsSameOutcome i.from o j.from p → style_of test scopes i.rule o ≡ style_of test others j.rule p
    by (judged s) (judged t) same = ap (λ (c : Scope). styled test c s) (sym scope) ∙ ap (λ (u : Selector). styled test (get_or others j.rule ([], [])) u) same
    by (judged s) (skipped why at) same = absurd same
    by (skipped why at) (judged t) same = absurd same
    by (skipped why at) (skipped cause place) same = refl

pub effect_moved : (test : Selector → Bool) (scopes others : List Scope) (gone : List Bool) (items new : List Item) → AreMoved gone items new → AreStaying gone items → KeepScopes gone scopes others → effect_in test scopes items ≡ effect_in test others new
effect_moved test scopes others gone [] [] moved stay keeps = refl
effect_moved test scopes others gone [] (j ∷ new) moved stay keeps = absurd moved
effect_moved test scopes others gone (i ∷ items) [] moved stay keeps = absurd moved
effect_moved test scopes others gone (i ∷ items) (j ∷ new) moved stay keeps = rw (same_style test scopes others gone i j moved.0 stay.0 keeps, effect_moved test scopes others gone items new moved.1 stay.1 keeps) refl

-- ---- the second reading

reading_from : (text : List ℕ) (names later : List Named) (sheet : Sheet) → utf8_valid_len text ≡ length text → add_rules text empty_sheet names (rules_of text) ≡ (later, Ok sheet) → read_sheet text names ≡ (later, Ok sheet)
unfolding read_sheet
reading_from text names later sheet valid read = rw (same_number (utf8_valid_len text) (length text) valid) read
  where
    same_number : (a b : ℕ) → a ≡ b → (a == b) ≡ true
    same_number a b same = grind (arith, nat_tests)

first_number : (gone : List Bool) → number_left gone 0 ≡ 0
first_number [] = refl
first_number (g ∷ gone) = refl

-- the text from its first span on
text_stands : (text : List ℕ) (sheet : Sheet) (flags : List Bool) → IsPrunedTo text sheet flags → Stands text (mark_size text) (spans_of text)
text_stands text sheet flags is =
    let spans = spans_read 0 0 (behind_order_mark text) in
    let size = ap length is.whole ∙ length-append is.mark (bytes_of (spans_of text)) in
    let last = ap length spans.bytes in
    record { pre = is.mark; whole = is.whole; before = omega arith }

left_stands : (text : List ℕ) (sheet : Sheet) (flags : List Bool) (is : IsPrunedTo text sheet flags) → Stands (pruned text sheet flags) (length is.mark) (left_spans text sheet flags is)
left_stands text sheet flags is = record { pre = is.mark; whole = is.text_is; before = refl }

-- the rules of the pruned text have the selectors that stay
pub left_reread : (text : List ℕ) (names later : List Named) (sheet : Sheet) (flags : List Bool) → add_rules text empty_sheet names (rules_of text) ≡ (later, Ok sheet) → length flags ≡ length sheet.items → (is : IsPrunedTo text sheet flags)
    → AreReread text (pruned text sheet flags) (gone_rules text 0 sheet.rules (with_flags sheet.items flags)) 0 (rules_in (steps_at (length is.mark) (left_spans text sheet flags is))) (stayed text sheet flags)
unfolding stayed
left_reread text names later sheet flags read count is =
    let fs = with_flags sheet.items flags in
    let gone = gone_rules text 0 sheet.rules fs in
    let fixed = fixed_rules text 0 sheet.rules fs in
    let at = mark_size text in
    let ss = spans_of text in
    let whole = sheet_of text names later (rules_of text) sheet read in
    let rules : sheet.rules ≡ ranges_of (rules_in (steps_at at ss)) = whole.rules ∙ ap ranges_of (rules_steps text) in
    let goes_by_spans : gone ≡ gone_by 0 is.plans ss = gone_are text sheet flags is rules in
    let groups : AreGroups text fs 0 (rules_in (steps_at at ss)) fs = subst (λ (rs : List Rule). AreGroups text fs 0 rs fs) (rules_steps text) (groups_from text fs 0 (rules_of text) sheet.items flags whole.items count (λ j less. refl)) in
    let sized : AreSized ss = sized_of 0 (length text) at ss (subst (AreRulesApart 0 (length text)) (rules_steps text) (rules_apart text)) in
    reread_from text (pruned text sheet flags) fs fixed gone ss at is.plans is.are (text_stands text sheet flags is) sized 0 0 0 (length is.mark) fs
    (record {
      flags = is.flags_are;
      there = left_stands text sheet flags is;
      groups = groups;
      fixes = record { front = []; whole = ap (λ (rs : List Range). fixed_rules text 0 rs fs) rules; size = refl };
      goes_from = record { front = []; whole = goes_by_spans; size = refl };
      number = first_number gone;
      rules = ap (λ (rs : List Range). gone_rules text 0 rs fs) (sym rules) ∙ goes_by_spans;
    })

-- the scopes of the rules that stay
pub scopes_keep : (text : List ℕ) (names later : List Named) (sheet : Sheet) (flags : List Bool) → add_rules text empty_sheet names (rules_of text) ≡ (later, Ok sheet) → (is : IsPrunedTo text sheet flags) → KeepsMark text sheet flags is
    → KeepScopes (gone_rules text 0 sheet.rules (with_flags sheet.items flags)) (scopes_of text) (scopes_of (pruned text sheet flags))
scopes_keep text names later sheet flags read is kept k stays =
    let fs = with_flags sheet.items flags in
    let gone = gone_rules text 0 sheet.rules fs in
    let at = mark_size text in
    let ss = spans_of text in
    let left = left_spans text sheet flags is in
    let whole = sheet_of text names later (rules_of text) sheet read in
    let rules : sheet.rules ≡ ranges_of (rules_in (steps_at at ss)) = whole.rules ∙ ap ranges_of (rules_steps text) in
    let own : scopes_of text ≡ scopes_in [] ss = scopes_are text at ss (text_stands text sheet flags is) (steps_are text) (rules_steps text) in
    let there : scopes_of (pruned text sheet flags) ≡ scopes_in [] left = scopes_are (pruned text sheet flags) (length is.mark) left (left_stands text sheet flags is) (steps_again text sheet flags is kept) (rules_again text sheet flags is kept) in
    let by_spans : scopes_in [] left ≡ left_in (gone_by 0 is.plans ss) (scopes_in [] ss) = scopes_left text fs ss at is.plans is.are 0 0 [] [] refl is.flags_are in
    let all : scopes_of (pruned text sheet flags) ≡ left_in gone (scopes_of text) =
    there ∙ by_spans ∙ ap (λ (gs : List Bool). left_in gs (scopes_in [] ss)) (sym (gone_are text sheet flags is rules)) ∙ ap (λ (xs : List Scope). left_in gone xs) (sym own)
    in
    ap (λ (xs : List Scope). get_or xs (number_left gone k) ([], [])) all ∙ scope_left gone (scopes_of text) k stays

-- The sheet that was read of a text, and what is read of the pruned one with the names known.
pub sheet_kept : (text : List ℕ) (names later : List Named) (sheet : Sheet) (flags : List Bool) → read_sheet text names ≡ (later, Ok sheet) → length flags ≡ length sheet.items → IsLeftOf text sheet flags → (again : Sheet) × KeepsSheet text later sheet flags again
unfolding effect stayed
sheet_kept text names later sheet flags reads count left =
    let is = left.spans in
    let fs = with_flags sheet.items flags in
    let gone = gone_rules text 0 sheet.rules fs in
    let fixed = fixed_rules text 0 sheet.rules fs in
    let other = pruned text sheet flags in
    let items = stayed_in fixed fs in
    let rs = rules_in (steps_at (length is.mark) (left_spans text sheet flags is)) in
    let read = (accepted text names later sheet reads).read in
    let are : AreReread text other gone 0 rs items = left_reread text names later sheet flags read count is in
    let known : AreKnownIn text later items = known_stay text later fixed sheet.items flags (sheet_known text names later (rules_of text) sheet read) in
    let few = few_stay fixed sheet.items flags in
    let most = sheet_few text names later (rules_of text) sheet read in
    let again : IsReread later gone empty_sheet items (add_rules other empty_sheet later rs) = sheet_again text other later gone empty_sheet rs items are known (omega (arith, few, most)) in
    let rules : add_rules other empty_sheet later (rules_of other) ≡ (later, Ok again.sheet) = ap (add_rules other empty_sheet later) (rules_again text sheet flags is left.mark) ∙ again.read in
    let scopes = scopes_keep text names later sheet flags read is left.mark in (
      again.sheet,
      record {
        reads = reading_from other later later again.sheet (utf8_valid_len-IsUtf8 other left.utf8) rules;
        items = subst (AreMoved gone items) (sym again.whole) again.moved;
        effects = λ test fails.
            ap (effect_in test (scopes_of other)) again.whole
            ∙ sym (effect_moved test (scopes_of text) (scopes_of other) gone items again.new again.moved (reread_stay text other gone 0 rs items are) scopes)
            ∙ sym (effect_stayed test (scopes_of text) fixed sheet.items flags count fails);
      },
    )

-- of each sheet that a text is read as, for all flags
pub sheets_kept : (text : List ℕ) → KeepsSheets text
sheets_kept text names later sheet flags reads count = sheet_kept text names later sheet flags reads count (sheet_left text names later sheet flags reads count)

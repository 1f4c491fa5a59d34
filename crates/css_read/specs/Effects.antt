-- The effect of a sheet, and what a pruned sheet has in common with the sheet before.
--     effect         for each selector that passes a test: its block, and the heads of the at-rules around it
--     stayed         the selectors that stay
--     AreMoved       the same selectors with the same outcomes, at other places
--     KeepsSheet     the pruned text reads as the sheet that stayed, with the same effects
--     KeepsSheets    the same for every sheet that the text reads as, and for all flags
use Rattle.std.specs.Prelude.{◌≡◌, ℕ, zero, suc, ◌+◌, ◌&&◌, not, Bool, true, false, if◌then◌else◌, List, [], ◌∷◌, ◌++◌, length, slice_range, Option, Some, None, get_or, Ok}
use Rattle.tp_base.specs.Names.{Named}
use Rattle.sel_text.specs.Selectors.{Selector}
use Rattle.css_read.specs.declared.holders.Holder.{Holder}
use Rattle.css_read.specs.Holders.{holders_of, owners_of}
use Rattle.css_read.specs.Pruned.{Flagged, goes, with_flags, of_rule, is_fixed, gone_rules, pruned}
use Rattle.css_read.specs.Reading.{read_sheet}
use Rattle.css_read.specs.Rules.{Rule, rules_of}
use Rattle.css_read.specs.Sheets.{Outcome, judged, skipped, Item, Sheet}
use Rattle.css_read.specs.declared.sheets.Range.{Range}

-- ---- effects

-- a selector, its block from `{` on, and the heads of the at-rules around it (each up to its `{`), the outermost first
pub record Style : Type 0 where
  pub selector : Selector
  pub block : List ℕ
  pub heads : List (List ℕ)

abbrev pub heads_at : List (List (List ℕ)) → Option ℕ → List (List ℕ)
heads_at heads None = []
heads_at heads (Some n) = get_or heads n []

-- the heads around each holder together with its own, appended to those found before
abbrev pub heads_from : List ℕ → List (List (List ℕ)) → List Holder → List (List (List ℕ))
heads_from text found [] = found
heads_from text found (h ∷ hs) = heads_from text (found ++ (heads_at found h.inside ++ slice_range text h.from h.brace ∷ []) ∷ []) hs

-- what a rule gives to its selectors: its block, and the heads around it
abbrev pub Scope : Type 0
Scope = List ℕ × List (List ℕ)

abbrev pub scopes_from : List ℕ → List (List (List ℕ)) → List Rule → List (Option ℕ) → List Scope
scopes_from text heads (r ∷ rs) (o ∷ owners) = (slice_range text r.brace r.to, heads_at heads o) ∷ scopes_from text heads rs owners
scopes_from text heads rs owners = []

unfoldable pub scopes_of : List ℕ → List Scope
scopes_of text = scopes_from text (heads_from text [] (holders_of text)) (rules_of text) (owners_of text)

abbrev pub style_of : (Selector → Bool) → List Scope → ℕ → Outcome → List Style
style_of test scopes k (judged s) = let scope = get_or scopes k ([], []) in if test s then (record { selector = s; block = scope.0; heads = scope.1 }) ∷ [] else []
style_of test scopes k (skipped why at) = []

-- The test stands for a page: it passes the selectors that match some node.
abbrev pub effect_in : (Selector → Bool) → List Scope → List Item → List Style
effect_in test scopes [] = []
effect_in test scopes (i ∷ items) = style_of test scopes i.rule i.outcome ++ effect_in test scopes items

unfoldable pub effect : (Selector → Bool) → List ℕ → Sheet → List Style
effect test text sheet = effect_in test (scopes_of text) sheet.items

-- ---- what stays

-- for each rule from a number on, whether it is fixed
abbrev pub fixed_rules : List ℕ → ℕ → List Range → List Flagged → List Bool
fixed_rules text k [] fs = []
fixed_rules text k (r ∷ rs) fs = is_fixed text k r (of_rule k fs) ∷ fixed_rules text (k + 1) rs fs

-- flagged selectors stay in the rules that are fixed
abbrev pub stayed_in : List Bool → List Flagged → List Item
stayed_in fixed [] = []
stayed_in fixed (f ∷ fs) = if goes f && not (get_or fixed f.0.rule false) then stayed_in fixed fs else f.0 ∷ stayed_in fixed fs

unfoldable pub stayed : List ℕ → Sheet → List Bool → List Item
stayed text sheet flags = let fs = with_flags sheet.items flags in stayed_in (fixed_rules text 0 sheet.rules fs) fs

-- the number of a rule after the rules that go are removed
abbrev pub number_left : List Bool → ℕ → ℕ
number_left [] k = k
number_left (g ∷ gone) zero = 0
number_left (g ∷ gone) (suc k) = (if g then 0 else 1) + number_left gone k

-- the same outcome at another place
abbrev pub IsSameOutcome : ℕ → Outcome → ℕ → Outcome → Type 0
IsSameOutcome from (judged s) later (judged t) = s ≡ t
IsSameOutcome from (skipped why at) later (skipped other other_at) = (why ≡ other) × (at + later ≡ other_at + from)
IsSameOutcome from o later p = ⊥

pub record IsMoved (gone : List Bool) (i j : Item) : Type 0 where
  pub outcome : IsSameOutcome i.from i.outcome j.from j.outcome
  pub size : i.to + j.from ≡ j.to + i.from
  pub rule : j.rule ≡ number_left gone i.rule

abbrev pub AreMoved : List Bool → List Item → List Item → Type 0
AreMoved gone [] [] = Unit {0}
AreMoved gone (i ∷ is) (j ∷ js) = IsMoved gone i j × AreMoved gone is js
AreMoved gone is js = ⊥

-- a flagged selector that is judged fails the test
abbrev pub FailsTest : (Selector → Bool) → Flagged → Type 0
FailsTest test (i, false) = Unit {0}
FailsTest test (i, true) = FailsAt i.outcome
  where
    FailsAt : Outcome → Type 0
    FailsAt (judged s) = test s ≡ false
    FailsAt (skipped why at) = Unit {0}

abbrev pub AllFail : (Selector → Bool) → List Flagged → Type 0
AllFail test [] = Unit {0}
AllFail test (f ∷ fs) = FailsTest test f × AllFail test fs

-- each flagged selector is judged, and none is skipped
abbrev pub AreJudged : List Flagged → Type 0
AreJudged [] = Unit {0}
AreJudged ((i, false) ∷ fs) = AreJudged fs
AreJudged ((i, true) ∷ fs) = IsJudged i.outcome × AreJudged fs
  where
    IsJudged : Outcome → Type 0
    IsJudged (judged s) = Unit {0}
    IsJudged (skipped why at) = ⊥

-- ---- the second reading

pub record KeepsSheet (text : List ℕ) (names : List Named) (sheet : Sheet) (flags : List Bool) (again : Sheet) : Type 0 where
  pub reads : read_sheet (pruned text sheet flags) names ≡ (names, Ok again)
  pub items : AreMoved (gone_rules text 0 sheet.rules (with_flags sheet.items flags)) (stayed text sheet flags) again.items
  pub effects : (test : Selector → Bool) → AllFail test (with_flags sheet.items flags) → effect test (pruned text sheet flags) again ≡ effect test text sheet

-- the pruned text is read with the names that are known after the first reading
abbrev pub KeepsSheets : List ℕ → Type 0
KeepsSheets text = (names later : List Named) (sheet : Sheet) (flags : List Bool) → read_sheet text names ≡ (later, Ok sheet) → length flags ≡ length sheet.items → (again : Sheet) × KeepsSheet text later sheet flags again

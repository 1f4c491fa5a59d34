-- Sheets that are alike are pruned alike: of a selector only its place, its rule and whether it is skipped are asked for.
use Rattle.std.proofs.Common.{◌≡◌, ℕ, suc, ◌+◌, ◌==◌, Bool, true, false, if◌then◌else◌, List, [], ◌∷◌, length, drop, Ok, refl, sym, ap, ◌∙◌}
use Rattle.std.specs.List.{list_any, list_all}
use Rattle.tp_base.specs.Names.{Named}
use Rattle.tree_sem.specs.Trees.{LabelTree}
use Rattle.jq_stmts.specs.Statements.{Statement}
use Rattle.css_read.specs.declared.sheets.Range.{Range}
use Rattle.css_read.specs.Effects.{effect}
use Rattle.css_read.specs.Pruned.{Flagged, goes, with_flags, of_rule, bytes_of, begins_at_rule, is_skipped, has_string, is_fixed, gone_rules, end_of_last, list_cuts, lists_cuts, cuts, pruned}
use Rattle.css_read.specs.Reading.{read_sheet}
use Rattle.css_read.specs.Shapes.{IsAlikeOutcome, IsAlike, AreAlike, AreAlikeSheets}
use Rattle.css_read.specs.Sheets.{Outcome, judged, skipped, Item, Sheet}
use Rattle.css_read.proofs.KeptLemmas.{sheets_kept}
use Rattle.css_read.proofs.ShapeLemmas.{one_shape}
use Rattle.css_prune.specs.Alike.{IsPrunedAlike, IsReadAgain, KeepsPageEffects}
use Rattle.css_prune.proofs.EffectLemmas.{effects_kept}

pub alike_length : (is js : List Item) → AreAlike is js → length is ≡ length js
alike_length [] [] are = refl
alike_length [] (j ∷ js) are = absurd are
alike_length (i ∷ is) [] are = absurd are
alike_length (i ∷ is) (j ∷ js) are = ap suc (alike_length is js are.1)

-- ---- selectors with their flags

record AreOne (f g : Flagged) : Type 0 where
  item : IsAlike f.0 g.0
  flag : f.1 ≡ g.1

abbrev AllOne : List Flagged → List Flagged → Type 0
AllOne [] [] = Unit {0}
AllOne (f ∷ fs) (g ∷ gs) = AreOne f g × AllOne fs gs
AllOne fs gs = ⊥

flagged_alike : (is js : List Item) (flags : List Bool) → AreAlike is js → AllOne (with_flags is flags) (with_flags js flags)
flagged_alike [] [] flags are = tt
flagged_alike [] (j ∷ js) flags are = absurd are
flagged_alike (i ∷ is) [] flags are = absurd are
flagged_alike (i ∷ is) (j ∷ js) [] are = tt
flagged_alike (i ∷ is) (j ∷ js) (g ∷ flags) are = (record { item = are.0; flag = refl }, flagged_alike is js flags are.1)

rule_alike : (k : ℕ) (fs gs : List Flagged) → AllOne fs gs → AllOne (of_rule k fs) (of_rule k gs)
rule_alike k [] [] are = tt
rule_alike k [] (g ∷ gs) are = absurd are
rule_alike k (f ∷ fs) [] are = absurd are
rule_alike k (f ∷ fs) (g ∷ gs) are = by (f.0.rule == k) (g.0.rule == k) (ap (λ n. n == k) are.0.item.rule) (rule_alike k fs gs are.1)
  where
    by : (a b : Bool) → a ≡ b → AllOne (of_rule k fs) (of_rule k gs) → AllOne (if a then f ∷ of_rule k fs else of_rule k fs) (if b then g ∷ of_rule k gs else of_rule k gs)
    by true true same later = (are.0, later)
    by true false same later = cc
    by false true same later = cc
    by false false same later = later

-- ---- tests of them

any_alike : (test : Flagged → Bool) → ((f g : Flagged) → AreOne f g → test f ≡ test g) → (fs gs : List Flagged) → AllOne fs gs → list_any test fs ≡ list_any test gs
any_alike test same [] [] are = refl
any_alike test same [] (g ∷ gs) are = absurd are
any_alike test same (f ∷ fs) [] are = absurd are
any_alike test same (f ∷ fs) (g ∷ gs) are = rw (same f g are.0, any_alike test same fs gs are.1) refl

later_alike : (test : Flagged → Bool) → ((f g : Flagged) → AreOne f g → test f ≡ test g) → (fs gs : List Flagged) → AllOne fs gs → list_any test (drop 1 fs) ≡ list_any test (drop 1 gs)
later_alike test same [] [] are = refl
later_alike test same [] (g ∷ gs) are = absurd are
later_alike test same (f ∷ fs) [] are = absurd are
later_alike test same (f ∷ fs) (g ∷ gs) are = any_alike test same fs gs are.1

all_go : (fs gs : List Flagged) → AllOne fs gs → list_all goes fs ≡ list_all goes gs
all_go [] [] are = refl
all_go [] (g ∷ gs) are = absurd are
all_go (f ∷ fs) [] are = absurd are
all_go (f ∷ fs) (g ∷ gs) are = rw (are.0.flag, all_go fs gs are.1) refl

skipped_alike : (o p : Outcome) → IsAlikeOutcome o p → is_skipped o ≡ is_skipped p
skipped_alike (judged s) (judged u) are = refl
skipped_alike (judged s) (skipped why at) are = absurd are
skipped_alike (skipped why at) (judged u) are = absurd are
skipped_alike (skipped why at) (skipped other other_at) are = refl

bytes_alike : (text : List ℕ) (f g : Flagged) → AreOne f g → bytes_of text f ≡ bytes_of text g
bytes_alike text f g are = rw (are.item.from, are.item.to) refl

begin_alike : (text : List ℕ) (f g : Flagged) → AreOne f g → begins_at_rule (bytes_of text f) ≡ begins_at_rule (bytes_of text g)
begin_alike text f g are = ap begins_at_rule (bytes_alike text f g are)

strings_alike : (text : List ℕ) (f g : Flagged) → AreOne f g → has_string text f ≡ has_string text g
strings_alike text f g are = rw (skipped_alike f.0.outcome g.0.outcome are.item.outcome, bytes_alike text f g are) refl

-- ---- rules

fixed_alike : (text : List ℕ) (k : ℕ) (r : Range) (fs gs : List Flagged) → AllOne fs gs → is_fixed text k r fs ≡ is_fixed text k r gs
unfolding is_fixed
fixed_alike text k r fs gs are =
    rw (
      later_alike (λ f. begins_at_rule (bytes_of text f)) (begin_alike text) fs gs are,
      any_alike (has_string text) (strings_alike text) fs gs are,
    )
    refl

gone_alike : (text : List ℕ) (k : ℕ) (rs : List Range) (fs gs : List Flagged) → AllOne fs gs → gone_rules text k rs fs ≡ gone_rules text k rs gs
unfolding gone_rules
gone_alike text k [] fs gs are = refl
gone_alike text k (r ∷ rs) fs gs are =
    let list = rule_alike k fs gs are in
    rw (all_go (of_rule k fs) (of_rule k gs) list, fixed_alike text k r (of_rule k fs) (of_rule k gs) list, gone_alike text (k + 1) rs fs gs are) refl

-- ---- ranges

end_alike : (to : ℕ) (fs gs : List Flagged) → AllOne fs gs → end_of_last to fs ≡ end_of_last to gs
end_alike to [] [] are = refl
end_alike to [] (g ∷ gs) are = absurd are
end_alike to (f ∷ fs) [] are = absurd are
end_alike to (f ∷ fs) (g ∷ gs) are = rw are.0.item.to (end_alike g.0.to fs gs are.1)

list_alike : (fs gs : List Flagged) → AllOne fs gs → list_cuts fs ≡ list_cuts gs
list_alike [] [] are = refl
list_alike [] (g ∷ gs) are = absurd are
list_alike (f ∷ fs) [] are = absurd are
list_alike (f ∷ []) (g ∷ []) are = refl
list_alike (f ∷ []) (g ∷ h ∷ gs) are = absurd are.1
list_alike (f ∷ e ∷ fs) (g ∷ []) are = absurd are.1
list_alike (f ∷ e ∷ fs) (g ∷ h ∷ gs) are =
    rw (
      are.0.flag,
      are.0.item.from,
      are.0.item.to,
      all_go (e ∷ fs) (h ∷ gs) are.1,
      are.1.0.item.from,
      are.1.0.item.to,
      end_alike h.0.to fs gs are.1.1,
      list_alike (e ∷ fs) (h ∷ gs) are.1,
    )
    refl

lists_alike : (text : List ℕ) (k : ℕ) (rs : List Range) (fs gs : List Flagged) → AllOne fs gs → lists_cuts text k rs fs ≡ lists_cuts text k rs gs
unfolding lists_cuts
lists_alike text k [] fs gs are = refl
lists_alike text k (r ∷ rs) fs gs are =
    let list = rule_alike k fs gs are in
    rw (fixed_alike text k r (of_rule k fs) (of_rule k gs) list, list_alike (of_rule k fs) (of_rule k gs) list, lists_alike text (k + 1) rs fs gs are) refl

cuts_alike : (text : List ℕ) (s u : Sheet) (flags : List Bool) → AreAlikeSheets s u → cuts text s flags ≡ cuts text u flags
unfolding cuts
cuts_alike text s u flags are =
    let fs = with_flags s.items flags in
    let gs = with_flags u.items flags in
    let all : AllOne fs gs = flagged_alike s.items u.items flags are.items in
    rw (are.rules, gone_alike text 0 u.rules fs gs all, lists_alike text 0 u.rules fs gs all) refl

-- ---- the text

pub pruned_alike : (text : List ℕ) (s u : Sheet) (flags : List Bool) → AreAlikeSheets s u → pruned text s flags ≡ pruned text u flags
unfolding pruned
pruned_alike text s u flags are = rw (cuts_alike text s u flags are) refl

pub readings_pruned_alike : (text : List ℕ) → IsPrunedAlike text
readings_pruned_alike text names others later last sheet other flags reads reads_other = pruned_alike text sheet other flags (one_shape text names others later last sheet other reads reads_other)

-- ---- a page's reading, and the one that the text is pruned by

as_many : (text : List ℕ) (names others later last : List Named) (sheet other : Sheet) (flags : List Bool) → read_sheet text names ≡ (later, Ok sheet) → read_sheet text others ≡ (last, Ok other) → length flags ≡ length other.items
    → length flags ≡ length sheet.items
as_many text names others later last sheet other flags reads reads_other count = count ∙ sym (alike_length sheet.items other.items (one_shape text names others later last sheet other reads reads_other).items)

pub read_again : (text : List ℕ) → IsReadAgain text
read_again text names others later last sheet other flags reads reads_other count =
    let kept = sheets_kept text names later sheet flags reads (as_many text names others later last sheet other flags reads reads_other count) in
    let same = readings_pruned_alike text names others later last sheet other flags reads reads_other in
    (kept.0, ap (λ bytes. read_sheet bytes later) (sym same) ∙ kept.1.reads)

pub page_effects_kept : (page : LabelTree) (stmts : List Statement) (text : List ℕ) → KeepsPageEffects page stmts text
page_effects_kept page stmts text names others later last sheet other again flags reads reads_other count reads_again unreached events legal v test tells =
    let many = as_many text names others later last sheet other flags reads reads_other count in
    let same = readings_pruned_alike text names others later last sheet other flags reads reads_other in
    ap (λ bytes. effect test bytes again) (sym same) ∙ effects_kept page stmts text names later sheet again flags reads many (ap (λ bytes. read_sheet bytes later) same ∙ reads_again) unreached events legal v test tells

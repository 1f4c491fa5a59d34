-- What goes of a list, and what of a rule doesn't hang on flags.
use Rattle.std.proofs.Common.{◌≡◌, ℕ, suc, ◌-◌, ◌<◌, ◌==◌, ◌&&◌, ◌||◌, not, Bool, true, false, if◌then◌else◌, List, [], ◌∷◌, ◌++◌, length, drop, map, Some, slice_get, refl, sym, ap, ◌∙◌, arith, append_assoc}
use Rattle.std.specs.List.{list_any, list_all}
use Rattle.std.proofs.lemmas.Bool.{ne_eqb}
use Rattle.std.proofs.lemmas.List.{length-map, append-nil}
use Rattle.css_read.specs.declared.sheets.Range.{Range}
use Rattle.css_read.specs.declared.sheets.SheetItem.{SheetItem}
use Rattle.css_read.specs.Pruned.{Flagged, goes, with_flags, list_cuts, end_of_last, is_fixed}
use Rattle.css_read.specs.Sheets.{Item}
use Rattle.css_read.specs.Views.{item_of}
use Rattle.css_prune.specs.Flags.{flagged, staying, end_of, begins_at_rule, has_string, is_fixed_by}
use Rattle.css_prune.specs.Lists.{item_cut, end_cut}

-- ---- flags alone

pub all_flags : (is : List Item) (gs : List Bool) → length gs ≡ length is → list_all goes (with_flags is gs) ≡ list_all (λ g. g) gs
all_flags [] [] count = refl
all_flags [] (g ∷ gs) count = absurd (omega arith)
all_flags (i ∷ is) [] count = absurd (omega arith)
all_flags (i ∷ is) (g ∷ gs) count = ap (λ t. g && t) (all_flags is gs (omega arith))

pub none_stays : (is : List Item) (gs : List Bool) → length gs ≡ length is → list_all goes (with_flags is gs) ≡ (staying gs == 0)
none_stays [] [] count = refl
none_stays [] (g ∷ gs) count = absurd (omega arith)
none_stays (i ∷ is) [] count = absurd (omega arith)
none_stays (i ∷ is) (true ∷ gs) count = none_stays is gs (omega arith)
none_stays (i ∷ is) (false ∷ gs) count = sym (ne_eqb (suc (staying gs)) 0 (λ e. omega arith))

-- ---- selectors alone

pub same_end : (to : ℕ) (is : List Item) (gs : List Bool) → length gs ≡ length is → end_of_last to (with_flags is gs) ≡ end_of to is
same_end to [] [] count = refl
same_end to [] (g ∷ gs) count = absurd (omega arith)
same_end to (i ∷ is) [] count = absurd (omega arith)
same_end to (i ∷ is) (g ∷ gs) count = same_end i.to is gs (omega arith)

any_item : (test : Item → Bool) (is : List Item) (gs : List Bool) → length gs ≡ length is → list_any (λ (f : Flagged). test f.0) (with_flags is gs) ≡ list_any test is
any_item test [] [] count = refl
any_item test [] (g ∷ gs) count = absurd (omega arith)
any_item test (i ∷ is) [] count = absurd (omega arith)
any_item test (i ∷ is) (g ∷ gs) count = ap (λ t. test i || t) (any_item test is gs (omega arith))

any_later : (test : Item → Bool) (is : List Item) (gs : List Bool) → length gs ≡ length is → list_any (λ (f : Flagged). test f.0) (drop 1 (with_flags is gs)) ≡ list_any test (drop 1 is)
any_later test [] [] count = refl
any_later test [] (g ∷ gs) count = absurd (omega arith)
any_later test (i ∷ is) [] count = absurd (omega arith)
any_later test (i ∷ is) (g ∷ gs) count = any_item test is gs (omega arith)

pub fixed_alone : (text : List ℕ) (k : ℕ) (r : Range) (is : List Item) (gs : List Bool) → length gs ≡ length is → is_fixed text k r (with_flags is gs) ≡ is_fixed_by text k r is
unfolding is_fixed
fixed_alone text k r is gs count = rw (any_later (begins_at_rule text) is gs count, any_item (has_string text) is gs count) refl

-- ---- a list, selector by selector

pub ends : (i j : Item) (js : List Item) (g h : Bool) (hs : List Bool) → length hs ≡ length js → staying (h ∷ hs) ≡ 0 → list_cuts (with_flags (i ∷ j ∷ js) (g ∷ h ∷ hs)) ≡ end_cut i g (j ∷ js)
ends i j js g h hs count none =
    let all : list_all goes (with_flags (j ∷ js) (h ∷ hs)) ≡ true = none_stays (j ∷ js) (h ∷ hs) (omega arith) ∙ ap (λ n. n == 0) none in
    rw (all, same_end j.to js hs count) refl

pub goes_on : (i j : Item) (js : List Item) (g h : Bool) (hs : List Bool) → length hs ≡ length js → 0 < staying (h ∷ hs)
    → list_cuts (with_flags (i ∷ j ∷ js) (g ∷ h ∷ hs)) ≡ item_cut i g j ++ list_cuts (with_flags (j ∷ js) (h ∷ hs))
goes_on i j js g h hs count some = rw (none_stays (j ∷ js) (h ∷ hs) (omega arith) ∙ ne_eqb (staying (h ∷ hs)) 0 (λ e. omega arith)) (by g)
  where
    by : (t : Bool) → (if t then (record { from = i.from; to = j.from }) ∷ list_cuts (with_flags (j ∷ js) (h ∷ hs)) else list_cuts (with_flags (j ∷ js) (h ∷ hs))) ≡ item_cut i t j ++ list_cuts (with_flags (j ∷ js) (h ∷ hs))
    by true = refl
    by false = refl

-- ---- the same for lists of the code

-- how many stay behind a selector
pub fewer : (flags later : List Bool) (g : Bool) (left n : ℕ) → flags ≡ g ∷ later → left ≡ staying flags → n ≡ (if g then left else left - 1) → n ≡ staying later
fewer flags later true left n first all is = is ∙ all ∙ ap staying first
fewer flags later false left n first all is = let count : staying flags ≡ suc (staying later) = ap staying first in omega arith

pub list_ends : (items later : List SheetItem) (i j : SheetItem) (flags later_flags : List Bool) (g : Bool) → items ≡ i ∷ later → flags ≡ g ∷ later_flags → length flags ≡ length items
    → Some j ≡ slice_get later 0 → staying later_flags ≡ 0 → list_cuts (flagged items flags) ≡ end_cut (item_of i) g (map item_of later)
list_ends items [] i j flags later_flags g first first_flag count next none = cc
list_ends items (k ∷ ks) i j flags [] g first first_flag count next none =
    let size : length items ≡ suc (suc (length ks)) = ap length first in
    let flag_size : length flags ≡ 1 = ap length first_flag in
    absurd (omega arith)
list_ends items (k ∷ ks) i j flags (h ∷ hs) g first first_flag count next none =
    let size : length items ≡ suc (suc (length ks)) = ap length first in
    let flag_size : length flags ≡ suc (suc (length hs)) = ap length first_flag in
    let same : length hs ≡ length (map item_of ks) = let mapped = length-map ks item_of in omega arith in
    rw (first, first_flag) (ends (item_of i) (item_of k) (map item_of ks) g h hs same none)

pub list_goes_on : (items later : List SheetItem) (i j : SheetItem) (flags later_flags : List Bool) (g : Bool) → items ≡ i ∷ later → flags ≡ g ∷ later_flags → length flags ≡ length items
    → Some j ≡ slice_get later 0 → 0 < staying later_flags → list_cuts (flagged items flags) ≡ item_cut (item_of i) g (item_of j) ++ list_cuts (flagged later later_flags)
list_goes_on items [] i j flags later_flags g first first_flag count next some = cc
list_goes_on items (k ∷ ks) i j flags [] g first first_flag count next some = absurd (omega arith)
list_goes_on items (k ∷ ks) i j flags (h ∷ hs) g first first_flag count next some =
    let size : length items ≡ suc (suc (length ks)) = ap length first in
    let flag_size : length flags ≡ suc (suc (length hs)) = ap length first_flag in
    let same : length hs ≡ length (map item_of ks) = let mapped = length-map ks item_of in omega arith in
    let is_next : j ≡ k = cc in
    rw (first, first_flag, is_next) (goes_on (item_of i) (item_of k) (map item_of ks) g h hs same some)

-- what is found, with one more piece, finished by what is left
pub one_found : (old new piece rest whole all : List Range) → new ≡ old ++ piece → whole ≡ piece ++ rest → old ++ whole ≡ all → new ++ rest ≡ all
one_found old new piece rest whole all found parts before = rw (found, append_assoc old piece rest, ← parts) before

-- ---- where all selectors stay

none_cut : (is : List Item) (gs : List Bool) → list_any (λ g. g) gs ≡ false → list_cuts (with_flags is gs) ≡ []
none_cut [] gs none = refl
none_cut (i ∷ is) [] none = refl
none_cut (i ∷ is) (true ∷ gs) none = cc
none_cut (i ∷ []) (false ∷ gs) none = refl
none_cut (i ∷ j ∷ js) (false ∷ []) none = refl
none_cut (i ∷ j ∷ js) (false ∷ true ∷ gs) none = cc
none_cut (i ∷ j ∷ js) (false ∷ false ∷ gs) none = none_cut (j ∷ js) (false ∷ gs) none

not_all : (gs : List Bool) → (not (length gs == 0) && not (list_any (λ g. g) gs)) ≡ true → list_all (λ g. g) gs ≡ false
not_all [] stay = cc
not_all (false ∷ gs) stay = refl
not_all (true ∷ gs) stay = absurd (wrong (length gs) stay)
  where
    wrong : (n : ℕ) → (not (suc n == 0) && false) ≡ true → ⊥
    wrong n is = by (not (suc n == 0)) is
      where
        by : (t : Bool) → (t && false) ≡ true → ⊥
        by true same = cc
        by false same = cc

no_flag : (t u : Bool) → (t && not u) ≡ true → u ≡ false
no_flag true false is = refl
no_flag true true is = cc
no_flag false true is = cc
no_flag false false is = refl

pub rule_kept : (old new : List Bool) (gs : List Bool) (fixed : Bool) → (not (length gs == 0) && not (list_any (λ g. g) gs)) ≡ true → new ≡ old ++ false ∷ [] → new ≡ old ++ (list_all (λ g. g) gs && not fixed) ∷ []
rule_kept old new gs fixed stay is = rw (not_all gs stay) is

pub list_kept : (old new : List Range) (is : List Item) (gs : List Bool) (fixed : Bool) → (not (length gs == 0) && not (list_any (λ g. g) gs)) ≡ true → new ≡ old → new ≡ old ++ (if fixed then [] else list_cuts (with_flags is gs))
list_kept old new is gs true stay same = same ∙ sym (append-nil old)
list_kept old new is gs false stay same = rw (none_cut is gs (no_flag (not (length gs == 0)) (list_any (λ g. g) gs) stay)) (same ∙ sym (append-nil old))

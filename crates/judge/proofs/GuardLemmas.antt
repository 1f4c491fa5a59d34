-- The guards of the selectors that are judged, item by item.
use Rattle.std.proofs.Common.{◌≡◌, List, ◌∷◌, ◌++◌, map, sym, ap, ◌∙◌, append_assoc}
use Rattle.std.proofs.lemmas.List.{map-append}
use Rattle.guard_sem.specs.Guards.{Guard}
use Rattle.guard_sem.specs.OfSelectors.{of_selector}
use Rattle.css_read.specs.declared.sheets.SheetItem.{SheetItem}
use Rattle.css_read.specs.Views.{outcome_of, item_of}
use Rattle.judge.specs.Answers.{judged_of, judged_in}

pub guards_next : (old new all : List Guard) (rest others : List SheetItem) (i : SheetItem) → rest ≡ i ∷ others → new ≡ old ++ map of_selector (judged_of (outcome_of i.outcome))
    → old ++ map of_selector (judged_in (map item_of rest)) ≡ all → new ++ map of_selector (judged_in (map item_of others)) ≡ all
guards_next old new all rest others i split more so_far =
    let here = judged_of (outcome_of i.outcome) in
    let behind = judged_in (map item_of others) in
    ap (λ z. z ++ map of_selector behind) more
    ∙ append_assoc old (map of_selector here) (map of_selector behind)
    ∙ ap (λ z. old ++ z) (sym (map-append of_selector here behind))
    ∙ ap (λ (z : List SheetItem). old ++ map of_selector (judged_in (map item_of z))) (sym split)
    ∙ so_far

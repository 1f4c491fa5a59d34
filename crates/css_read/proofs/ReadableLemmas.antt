-- What is judged stays readable while names come.
use Rattle.std.proofs.Common.{◌≡◌, List, [], ◌∷◌, ◌++◌, map, All, subst, sym}
use Rattle.std.proofs.lemmas.List.{map-append}
use Rattle.std.proofs.lemmas.List.Elements.{All-append, All-cons, All-nil, All-weaker}
use Rattle.tp_base.specs.Names.{Named}
use Rattle.sel_text.specs.Results.{IsFront}
use Rattle.sel_text.proofs.Sound.{readable_kept}
use Rattle.css_read.specs.declared.sheets.SheetItem.{SheetItem}
use Rattle.css_read.specs.Readable.{IsReadableOutcome, AllReadable}
use Rattle.css_read.specs.Sheets.{Outcome, judged, skipped, Item}
use Rattle.css_read.specs.Views.{item_of}

outcome_kept : (old new : List Named) → IsFront old new → (o : Outcome) → IsReadableOutcome old o → IsReadableOutcome new o
outcome_kept old new front (judged s) is = readable_kept old new front s is
outcome_kept old new front (skipped why at) is = tt

pub all_readable_kept : (old new : List Named) → IsFront old new → (items : List Item) → AllReadable old items → AllReadable new items
all_readable_kept old new front items all =
    let Before : Item → Type 0 = λ i. IsReadableOutcome old i.outcome in
    let After : Item → Type 0 = λ i. IsReadableOutcome new i.outcome in
    All-weaker Before After (λ i readable. outcome_kept old new front i.outcome readable) items all

-- one selector more, whose names came last
pub one_more : (old new : List Named) (found later : List SheetItem) (i : SheetItem) → later ≡ found ++ i ∷ [] → IsFront old new
    → AllReadable old (map item_of found) → IsReadableOutcome new (item_of i).outcome → AllReadable new (map item_of later)
one_more old new found later i is front all one =
    let After : Item → Type 0 = λ x. IsReadableOutcome new x.outcome in
    let kept = all_readable_kept old new front (map item_of found) all in
    subst (λ items. AllReadable new (map item_of items)) (sym is)
    (subst (All After) (sym (map-append item_of found (i ∷ []))) (All-append After (map item_of found) (item_of i ∷ []) kept (All-cons After (item_of i) [] one (All-nil After))))

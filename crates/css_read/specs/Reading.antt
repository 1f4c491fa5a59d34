-- Reading a sheet from left to right. The table gets each name when it is read.
--     add_item      reads one selector
--     add_items     reads those of a list
--     add_rule      reads one rule
--     add_rules     reads all rules
--     read_sheet    reads a file
use Rattle.std.specs.Prelude.{ℕ, ◌==◌, nat_lt, slice_range, if◌then◌else◌, List, [], ◌∷◌, ◌++◌, length, Result, Ok, Err}
use Rattle.std.specs.Str.Lossy.{utf8_valid_len}
use Rattle.tp_base.specs.Names.{Named}
use Rattle.sel_text.specs.declared.faults.SelFault.TheVariants as sel
use Rattle.sel_text.specs.Reading as one
use Rattle.sel_text.specs.Selectors.{Selector}
use Rattle.css_read.specs.declared.faults.SheetFault.{SheetFault}
use Rattle.css_read.specs.declared.faults.SheetFault.TheVariants.{NotUtf8, TooManySelectors, TooManyAtoms, Memory}
use Rattle.css_read.specs.declared.faults.TheConstants.{MOST_SELECTORS}
use Rattle.css_read.specs.declared.sheets.Range.{Range}
use Rattle.css_read.specs.Rules.{Rule, rules_of}
use Rattle.css_read.specs.Pieces.{pieces}
use Rattle.css_read.specs.Sheets.{Outcome, judged, skipped, Item, Sheet}

-- the names of the table at the end, and the result
abbrev pub Ending : Type 0 → Type 0
Ending A = List Named × Result A SheetFault

abbrev pub then_read : {A B : Type 0} → Ending A → (List Named → A → Ending B) → Ending B
then_read (names, Ok x) f = f names x
then_read (names, Err e) f = (names, Err e)

abbrev pub item : ℕ → Range → Outcome → Item
item rule piece outcome = record { from = piece.from; to = piece.to; rule = rule; outcome = outcome }

-- the selector of a sheet that comes of the reading of its text
abbrev pub item_from : ℕ → Range → one.Ending Selector → Ending Item
item_from rule piece (names, Ok s) = (names, Ok (item rule piece (judged s)))
item_from rule piece (names, Err (sel.Skipped why at)) = (names, Ok (item rule piece (skipped why at)))
item_from rule piece (names, Err sel.TooManyAtoms) = (names, Err (TooManyAtoms piece.from))
item_from rule piece (names, Err sel.Memory) = (names, Err Memory)

-- reads the selector at a range of a rule's list
unfoldable pub read_item : List ℕ → ℕ → List Named → Range → Ending Item
read_item text rule names piece = item_from rule piece (one.read_selector text piece.from piece.to names)

-- adds the selector at a range to those that were read before
unfoldable pub add_item : List ℕ → ℕ → List Item → List Named → Range → Ending (List Item)
add_item text rule found names piece =
    if nat_lt (length found) MOST_SELECTORS then then_read (read_item text rule names piece) (λ later i. (later, Ok (found ++ i ∷ [])))
    else (names, Err (TooManySelectors piece.from))

unfoldable pub add_items : List ℕ → ℕ → List Item → List Named → List Range → Ending (List Item)
add_items text rule found names [] = (names, Ok found)
add_items text rule found names (p ∷ ps) = then_read (add_item text rule found names p) (λ later more. add_items text rule more later ps)

abbrev pub pieces_of : List ℕ → Rule → List Range
pieces_of text rule = pieces rule.brace (slice_range text rule.from rule.brace)

-- adds a rule, from the first byte of its list to the end of its block, with its selectors
unfoldable pub add_rule : List ℕ → Sheet → List Named → Rule → Ending Sheet
add_rule text found names r =
    then_read (add_items text (length found.rules) found.items names (pieces_of text r))
    (λ later items. (later, Ok (record { items = items; rules = found.rules ++ (record { from = r.from; to = r.to }) ∷ [] })))

unfoldable pub add_rules : List ℕ → Sheet → List Named → List Rule → Ending Sheet
add_rules text found names [] = (names, Ok found)
add_rules text found names (r ∷ rs) = then_read (add_rule text found names r) (λ later more. add_rules text more later rs)

abbrev pub empty_sheet : Sheet
empty_sheet = record { items = []; rules = [] }

unfoldable pub read_sheet : List ℕ → List Named → Ending Sheet
read_sheet text names =
    if utf8_valid_len text == length text then add_rules text empty_sheet names (rules_of text) else (names, Err (NotUtf8 (utf8_valid_len text)))

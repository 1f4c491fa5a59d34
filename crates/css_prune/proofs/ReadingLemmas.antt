-- The selectors that are read of a text stand by their rules.
use Rattle.std.proofs.Common.{◌≡◌, ℕ, ◌≤◌, ◌==◌, if◌then◌else◌, nat_lt, List, [], ◌∷◌, ◌++◌, length, Ok, Err, subst, arith}
use Rattle.std.specs.Str.Lossy.{utf8_valid_len}
use Rattle.std.proofs.lemmas.List.{length_push}
use Rattle.tp_base.specs.Names.{Named}
use Rattle.sel_text.specs.Reading as one
use Rattle.css_read.specs.declared.faults.TheConstants.{MOST_SELECTORS}
use Rattle.css_read.specs.declared.faults.SheetFault.TheVariants.{NotUtf8, TooManySelectors}
use Rattle.css_read.specs.declared.sheets.Range.{Range}
use Rattle.css_read.specs.Reading.{then_read, item, read_item, add_item, add_items, pieces_of, add_rule, add_rules, empty_sheet, read_sheet}
use Rattle.css_read.specs.Rules.{Rule, rules_of}
use Rattle.css_read.specs.Sheets.{Item, Sheet}
use Rattle.css_read.proofs.ReadLemmas.{IfRead, after, choose, from_any}
use Rattle.css_prune.specs.Groups.{AreInOrder}

-- ---- selectors, up to the rule with a number

abbrev AreUpTo : ℕ → ℕ → List Item → Type 0
AreUpTo from to [] = from ≤ to
AreUpTo from to (i ∷ is) = (from ≤ i.rule) × AreUpTo i.rule to is

farther : (from to at : ℕ) (is : List Item) → to ≤ at → AreUpTo from to is → AreUpTo from at is
farther from to at [] less are = omega (arith, are)
farther from to at (i ∷ is) less are = (are.0, farther i.rule to at is less are.1)

one_more : (from to : ℕ) (found : List Item) (i : Item) → AreUpTo from to found → to ≤ i.rule → AreUpTo from i.rule (found ++ i ∷ [])
one_more from to [] i are less = (omega (arith, are), omega arith)
one_more from to (j ∷ js) i are less = (are.0, one_more j.rule to js i are.1 less)

in_order : (from to : ℕ) (is : List Item) → AreUpTo from to is → AreInOrder from is
in_order from to [] are = tt
in_order from to (i ∷ is) are = (are.0, in_order i.rule to is are.1)

item_added : (text : List ℕ) (rule : ℕ) (found : List Item) (names : List Named) (p : Range) → AreUpTo 0 rule found → IfRead (AreUpTo 0 rule) (add_item text rule found names p)
unfolding add_item read_item
item_added text rule found names p are =
    let P : Item → Type 0 = λ i. AreUpTo 0 rule (found ++ i ∷ []) in
    choose (AreUpTo 0 rule) (nat_lt (length found) MOST_SELECTORS) (then_read (read_item text rule names p) (λ later i. (later, Ok (found ++ i ∷ [])))) (names, Err (TooManySelectors p.from))
    (after P (AreUpTo 0 rule) (read_item text rule names p) (λ later i. (later, Ok (found ++ i ∷ [])))
    (from_any P rule p (one.read_selector text p.from p.to names) (λ o. one_more 0 rule found (item rule p o) are (omega arith)))
    (λ later i holds. holds))
    tt

items_added : (text : List ℕ) (rule : ℕ) (found : List Item) (names : List Named) (ps : List Range) → AreUpTo 0 rule found → IfRead (AreUpTo 0 rule) (add_items text rule found names ps)
unfolding add_items
items_added text rule found names [] are = are
items_added text rule found names (p ∷ ps) are =
    after (AreUpTo 0 rule) (AreUpTo 0 rule) (add_item text rule found names p) (λ later more. add_items text rule more later ps) (item_added text rule found names p are)
    (λ later more holds. items_added text rule more later ps holds)

abbrev StandByRules : Sheet → Type 0
StandByRules s = AreUpTo 0 (length s.rules) s.items

rule_added : (text : List ℕ) (found : Sheet) (names : List Named) (r : Rule) → StandByRules found → IfRead StandByRules (add_rule text found names r)
unfolding add_rule
rule_added text found names r are =
    let range : Range = record { from = r.from; to = r.to } in
    let longer : length found.rules ≤ length (found.rules ++ range ∷ []) = let more = length_push found.rules range in omega arith in
    after (AreUpTo 0 (length found.rules)) StandByRules (add_items text (length found.rules) found.items names (pieces_of text r)) _ (items_added text (length found.rules) found.items names (pieces_of text r) are)
    (λ later items holds. farther 0 (length found.rules) (length (found.rules ++ range ∷ [])) items longer holds)

rules_added : (text : List ℕ) (found : Sheet) (names : List Named) (rs : List Rule) → StandByRules found → IfRead StandByRules (add_rules text found names rs)
unfolding add_rules
rules_added text found names [] are = are
rules_added text found names (r ∷ rs) are =
    after StandByRules StandByRules (add_rule text found names r) (λ later more. add_rules text more later rs) (rule_added text found names r are) (λ later more holds. rules_added text more later rs holds)

all_added : (text : List ℕ) (names : List Named) → IfRead StandByRules (read_sheet text names)
unfolding read_sheet
all_added text names =
    choose StandByRules (utf8_valid_len text == length text) (add_rules text empty_sheet names (rules_of text)) (names, Err (NotUtf8 (utf8_valid_len text)))
    (rules_added text empty_sheet names (rules_of text) (omega arith)) tt

pub stand_by_rules : (text : List ℕ) (names later : List Named) (s : Sheet) → read_sheet text names ≡ (later, Ok s) → AreInOrder 0 s.items
stand_by_rules text names later s read = in_order 0 (length s.rules) s.items (subst (IfRead StandByRules) read (all_added text names))

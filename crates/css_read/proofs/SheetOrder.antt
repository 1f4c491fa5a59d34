-- The selectors of a sheet stand in its rules, and both in the order of the file.
use Rattle.std.proofs.Common.{◌≡◌, ℕ, zero, suc, ◌-◌, ◌≤◌, ◌<◌, if◌then◌else◌, nat_lt, List, [], ◌∷◌, ◌++◌, length, drop, map, All, Option, Some, slice_get, slice_range, Ok, Err, refl, sym, subst, arith}
use Rattle.std.specs.Option.{IsSomeAnd}
use Rattle.std.proofs.lemmas.List.{map-append, length-take}
use Rattle.std.proofs.lemmas.List.Elements.{All-nil, All-cons, All-head, All-tail, All-push, All-weaker}
use Rattle.tp_base.specs.Names.{Named}
use Rattle.sel_text.specs.Reading as one
use Rattle.css_read.specs.declared.faults.TheConstants.{MOST_SELECTORS}
use Rattle.css_read.specs.declared.faults.SheetFault.TheVariants.{TooManySelectors}
use Rattle.css_read.specs.declared.sheets.Range.{Range}
use Rattle.css_read.specs.declared.sheets.SheetItem.{SheetItem}
use Rattle.css_read.specs.Order.{AreApart, range_of, IsInRule, AreInRules}
use Rattle.css_read.specs.Reading.{item, read_item, add_item, add_items, pieces_of, add_rule, add_rules, empty_sheet}
use Rattle.css_read.specs.Rules.{Rule, rules_of}
use Rattle.css_read.specs.Sheets.{Outcome, Item, Sheet}
use Rattle.css_read.specs.Views.{item_of}
use Rattle.css_read.proofs.PieceOrder.{to_later, joined, in_order, pieces_apart}
use Rattle.css_read.proofs.RuleOrder.{AreRulesApart, rules_apart}
use Rattle.css_read.proofs.ReadLemmas.{IfRead, after, choose, from_any}

-- ---- one selector

item_if : (P : Item → Type 0) (text : List ℕ) (rule : ℕ) (names : List Named) (p : Range) → ((o : Outcome) → P (item rule p o)) → IfRead P (read_item text rule names p)
unfolding read_item
item_if P text rule names p holds = from_any P rule p (one.read_selector text p.from p.to names) holds

-- ---- selectors, up to an offset

pub record AreItems (rules : List Range) (to : ℕ) (items : List Item) : Type 0 where
  pub apart : AreApart 0 to (map range_of items)
  pub in_rules : All (IsInRule rules) items

items_later : (rules : List Range) (to at : ℕ) (items : List Item) → AreItems rules to items → to ≤ at → AreItems rules at items
items_later rules to at items are less = record { apart = to_later 0 to at (map range_of items) are.apart less; in_rules = are.in_rules }

item_more : (rules : List Range) (at : ℕ) (found : List Item) (i : Item) → AreItems rules at found → at ≤ i.from → i.from ≤ i.to → IsInRule rules i → AreItems rules i.to (found ++ i ∷ [])
item_more rules at found i are less order is =
    let last : AreApart at i.to (range_of i ∷ []) = (less, order, omega arith) in
    record {
      apart = subst (AreApart 0 i.to) (sym (map-append range_of found (i ∷ []))) (joined 0 at i.to (map range_of found) (range_of i ∷ []) are.apart last);
      in_rules = All-push (IsInRule rules) found i are.in_rules is;
    }

in_rule : (o : Option Range) (r : Range) (from to : ℕ) → o ≡ Some r → r.from ≤ from → to < r.to → IsSomeAnd o (λ r. (r.from ≤ from) × (to < r.to))
in_rule o r from to is first last = subst (λ (o : Option Range). IsSomeAnd o (λ r. (r.from ≤ from) × (to < r.to))) (sym is) (first, last)

item_added : (rules : List Range) (text : List ℕ) (rule at : ℕ) (found : List Item) (names : List Named) (p : Range) → AreItems rules at found → at ≤ p.from → p.from ≤ p.to
    → ((o : Outcome) → IsInRule rules (item rule p o)) → IfRead (AreItems rules p.to) (add_item text rule found names p)
unfolding add_item
item_added rules text rule at found names p are less order is =
    let P : Item → Type 0 = λ i. AreItems rules p.to (found ++ i ∷ []) in
    choose (AreItems rules p.to) (nat_lt (length found) MOST_SELECTORS) _ (names, Err (TooManySelectors p.from))
    (after P (AreItems rules p.to) (read_item text rule names p) (λ later i. (later, Ok (found ++ i ∷ [])))
    (item_if P text rule names p (λ o. item_more rules at found (item rule p o) are less order (is o)))
    (λ later i holds. holds))
    tt

items_added : (rules : List Range) (text : List ℕ) (rule at to : ℕ) (r : Range) (found : List Item) (names : List Named) (ps : List Range) → slice_get rules rule ≡ Some r → r.from ≤ at → to < r.to
    → AreItems rules at found → AreApart at to ps → IfRead (AreItems rules to) (add_items text rule found names ps)
unfolding add_items
items_added rules text rule at to r found names [] is first last are apart = items_later rules at to found are apart
items_added rules text rule at to r found names (p ∷ ps) is first last are apart =
    let before : p.to ≤ to = in_order p.to to ps apart.2 in
    after (AreItems rules p.to) (AreItems rules to) (add_item text rule found names p) (λ later more. add_items text rule more later ps)
    (item_added rules text rule at found names p are apart.0 apart.1 (λ o. in_rule (slice_get rules rule) r p.from p.to is (omega (arith, first, apart.0)) (omega (arith, before, last))))
    (λ later more holds. items_added rules text rule p.to to r more later ps is (omega (arith, first, apart.0, apart.1)) last holds apart.2)

-- ---- rules, up to an offset

pub record IsInOrder (to : ℕ) (s : Sheet) : Type 0 where
  pub rules : AreApart 0 to s.rules
  pub items : AreItems s.rules to s.items

get_kept : (rules others : List Range) (k : ℕ) (P : Range → Type 0) → IsSomeAnd (slice_get rules k) P → IsSomeAnd (slice_get (rules ++ others) k) P
get_kept [] others k P is = absurd is
get_kept (r ∷ rs) others zero P is = is
get_kept (r ∷ rs) others (suc k) P is = get_kept rs others k P is

get_last : (rules : List Range) (r : Range) → slice_get (rules ++ r ∷ []) (length rules) ≡ Some r
get_last [] r = refl
get_last (s ∷ rs) r = get_last rs r

rules_more : (rules others : List Range) (to : ℕ) (items : List Item) → AreItems rules to items → AreItems (rules ++ others) to items
rules_more rules others to items are = record {
  apart = are.apart;
  in_rules = All-weaker (IsInRule rules) (IsInRule (rules ++ others)) (λ i is. get_kept rules others i.rule (λ r. (r.from ≤ i.from) × (i.to < r.to)) is) items are.in_rules;
}

rule_added : (text : List ℕ) (at : ℕ) (found : Sheet) (names : List Named) (r : Rule) → IsInOrder at found → at ≤ r.from → r.from ≤ r.brace → r.brace < r.to → IfRead (IsInOrder r.to) (add_rule text found names r)
unfolding add_rule
rule_added text at found names r is less list block =
    let range : Range = record { from = r.from; to = r.to } in
    let rules : List Range = found.rules ++ range ∷ [] in
    let before : AreItems rules r.from found.items = items_later rules at r.from found.items (rules_more found.rules (range ∷ []) at found.items is.items) less in
    let count = length-take (r.brace - r.from) (drop r.from text) in
    let apart = pieces_apart r.from r.brace (slice_range text r.from r.brace) (omega arith) in
    let last : AreApart at r.to (range ∷ []) = (less, omega arith, omega arith) in
    after (AreItems rules r.brace) (IsInOrder r.to) (add_items text (length found.rules) found.items names (pieces_of text r)) _
    (items_added rules text (length found.rules) r.from r.brace range found.items names (pieces_of text r) (get_last found.rules range) (omega arith) block before apart)
    (λ later items holds. record { rules = joined 0 at r.to found.rules (range ∷ []) is.rules last; items = items_later rules r.brace r.to items holds (omega arith) })

rules_added : (text : List ℕ) (at to : ℕ) (found : Sheet) (names : List Named) (rs : List Rule) → IsInOrder at found → AreRulesApart at to rs → IfRead (IsInOrder to) (add_rules text found names rs)
unfolding add_rules
rules_added text at to found names [] is apart = record { rules = to_later 0 at to found.rules is.rules apart; items = items_later found.rules at to found.items is.items apart }
rules_added text at to found names (r ∷ rs) is apart =
    after (IsInOrder r.to) (IsInOrder to) (add_rule text found names r) (λ later more. add_rules text more later rs) (rule_added text at found names r is apart.0 apart.1 apart.2)
    (λ later more holds. rules_added text r.to to more later rs holds apart.3)

-- ---- a sheet

none : IsInOrder 0 empty_sheet
none = record { rules = omega arith; items = record { apart = omega arith; in_rules = All-nil (IsInRule []) } }

pub sheet_in_order : (text : List ℕ) (names later : List Named) (s : Sheet) → add_rules text empty_sheet names (rules_of text) ≡ (later, Ok s) → IsInOrder (length text) s
sheet_in_order text names later s read = subst (IfRead (IsInOrder (length text))) read (rules_added text 0 (length text) empty_sheet names (rules_of text) none (rules_apart text))

-- ---- the sheet of the code

seen : (rules : List Range) (items : List SheetItem) → All (IsInRule rules) (map item_of items) → AreInRules rules items
seen rules [] all = All-nil (λ i. IsInRule rules (item_of i))
seen rules (i ∷ items) all =
    All-cons (λ j. IsInRule rules (item_of j)) i items (All-head (IsInRule rules) (item_of i) (map item_of items) all) (seen rules items (All-tail (IsInRule rules) (item_of i) (map item_of items) all))

-- a rule that has something is one of them
is_one : (rules : List Range) (k : ℕ) (P : Range → Type 0) → IsSomeAnd (slice_get rules k) P → k < length rules
is_one [] k P is = absurd is
is_one (r ∷ rs) zero P is = omega arith
is_one (r ∷ rs) (suc k) P is = let others = is_one rs k P is in omega arith

pub numbered : (rules : List Range) (items : List SheetItem) → AreInRules rules items → All (λ i. i.rule < length rules) items
numbered rules items all = All-weaker (λ i. IsInRule rules (item_of i)) (λ i. i.rule < length rules) (λ i is. is_one rules i.rule (λ r. (r.from ≤ i.from) × (i.to < r.to)) is) items all

pub in_rules : (rules : List Range) (to : ℕ) (items : List SheetItem) → AreItems rules to (map item_of items) → AreInRules rules items
in_rules rules to items are = seen rules items are.in_rules

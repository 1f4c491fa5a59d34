-- Rules that have the selectors of a sheet are read as those selectors, where the names of the sheet are known.
use Rattle.std.proofs.Common.{◌≡◌, ℕ, suc, ◌+◌, ◌≤◌, ◌<◌, Bool, true, false, if◌then◌else◌, nat_lt, List, [], ◌∷◌, ◌++◌, length, Ok, Err, refl, sym, ap, ◌∙◌, subst, arith, length-append, append_assoc, append-nil}
use Rattle.std.proofs.lemmas.Bool.Decides.{nat_tests}
use Rattle.tp_base.specs.Names.{Named}
use Rattle.tp_base.proofs.Fronts.{front_itself}
use Rattle.tp_base.proofs.Truths.{is_less}
use Rattle.css_read.specs.declared.faults.TheConstants.{MOST_SELECTORS}
use Rattle.css_read.specs.declared.faults.SheetFault.TheVariants.{TooManySelectors}
use Rattle.css_read.specs.declared.sheets.Range.{Range}
use Rattle.css_read.specs.Effects.{IsSameOutcome, IsMoved, AreMoved, number_left}
use Rattle.css_read.specs.Reading.{Ending, then_read, read_item, add_item, add_items, pieces_of, add_rule, add_rules, empty_sheet}
use Rattle.css_read.specs.Rules.{Rule}
use Rattle.css_read.specs.Sheets.{Item, Sheet}
use Rattle.css_read.proofs.AgainLemmas.{AreKnownIn, IsReadAt, item_again}
use Rattle.css_read.proofs.RereadLemmas.{AreReread}
use Rattle.css_read.proofs.ShiftLemmas.{HaveBytes}
use Rattle.css_read.proofs.StayLemmas.{AreNumbered}
use Rattle.css_read.proofs.ReadLemmas.{IfRead, after}

-- ---- moved selectors

pub moved-append : (gone : List Bool) (is js more others : List Item) → AreMoved gone is js → AreMoved gone more others → AreMoved gone (is ++ more) (js ++ others)
moved-append gone [] [] more others first later = later
moved-append gone [] (j ∷ js) more others first later = absurd first
moved-append gone (i ∷ is) [] more others first later = absurd first
moved-append gone (i ∷ is) (j ∷ js) more others first later = (first.0, moved-append gone is js more others first.1 later)

moved_by : (known : List Named) (gone : List Bool) (i : Item) (number n : ℕ) (r : Range) (e : Ending Item) (is : IsReadAt known i number r e) → i.from + n ≡ i.to → r.from + n ≡ r.to → number_left gone i.rule ≡ number → IsMoved gone i is.item
moved_by known gone i number n r e is first second at =
    let from : is.item.from ≡ r.from = ap (λ (q : Range). q.from) is.place in
    let to : is.item.to ≡ r.to = ap (λ (q : Range). q.to) is.place in
    record {
      outcome = subst (λ (k : ℕ). IsSameOutcome i.from i.outcome k is.item.outcome) (sym from) is.outcome;
      size = omega arith;
      rule = is.number ∙ sym at;
    }

-- ---- the selectors of a list

record AreItemsAgain (names : List Named) (gone : List Bool) (found own : List Item) (e : Ending (List Item)) : Type 0 where
  new : List Item
  read : e ≡ (names, Ok (found ++ new))
  moved : AreMoved gone own new
  count : length new ≡ length own

item_added : (other : List ℕ) (rule : ℕ) (found : List Item) (names : List Named) (p : Range) (i : Item) → length found < MOST_SELECTORS → read_item other rule names p ≡ (names, Ok i) → add_item other rule found names p ≡ (names, Ok (found ++ i ∷ []))
unfolding add_item
item_added other rule found names p i less read = rw (is_less (length found) MOST_SELECTORS less, read) refl

items_again : (text other : List ℕ) (names : List Named) (gone : List Bool) (rule : ℕ) (found own : List Item) (ps : List Range) → HaveBytes text other own ps → AreKnownIn text names own → AreNumbered gone rule own → length found + length own ≤ MOST_SELECTORS
    → AreItemsAgain names gone found own (add_items other rule found names ps)
unfolding add_items
items_again text other names gone rule found [] [] have known number few = record { new = []; read = ap (λ (is : List Item). (names, Ok is)) (sym (append-nil found)); moved = tt; count = refl }
items_again text other names gone rule found [] (p ∷ ps) have known number few = absurd have
items_again text other names gone rule found (i ∷ own) [] have known number few = absurd have
items_again text other names gone rule found (i ∷ own) (p ∷ ps) have known number few =
    let has = have.0 in
    let is : IsReadAt names i rule p (read_item other rule names p) = item_again text other names names i rule p has.size known.0 (front_itself names names refl) has.same has.count has.first has.second in
    let size = length-append found (is.item ∷ []) in
    let added : add_item other rule found names p ≡ (names, Ok (found ++ is.item ∷ [])) = item_added other rule found names p is.item (omega arith) is.read in
    let later = items_again text other names gone rule (found ++ is.item ∷ []) own ps have.1 known.1 number.2 (omega arith) in
    record {
      new = is.item ∷ later.new;
      read = rw added (later.read ∙ ap (λ (is : List Item). (names, Ok is)) (append_assoc found (is.item ∷ []) later.new));
      moved = (moved_by names gone i rule has.size p (read_item other rule names p) is has.first has.second number.0, later.moved);
      count = ap (λ n. suc n) later.count;
    }

-- ---- the rules

abbrev range_at : Rule → Range
range_at r = record { from = r.from; to = r.to }

pub record IsReread (names : List Named) (gone : List Bool) (found : Sheet) (items : List Item) (e : Ending Sheet) : Type 0 where
  pub sheet : Sheet
  pub read : e ≡ (names, Ok sheet)
  pub new : List Item
  pub whole : sheet.items ≡ found.items ++ new
  pub moved : AreMoved gone items new

rule_added : (other : List ℕ) (found : Sheet) (names : List Named) (r : Rule) (items : List Item) → add_items other (length found.rules) found.items names (pieces_of other r) ≡ (names, Ok items)
    → add_rule other found names r ≡ (names, Ok (record { items = items; rules = found.rules ++ range_at r ∷ [] }))
unfolding add_rule
rule_added other found names r items read = rw read refl

known_parts : (text : List ℕ) (names : List Named) (own others : List Item) → AreKnownIn text names (own ++ others) → AreKnownIn text names own × AreKnownIn text names others
known_parts text names [] others known = (tt, known)
known_parts text names (i ∷ own) others known = let later = known_parts text names own others known.1 in ((known.0, later.0), later.1)

pub sheet_again : (text other : List ℕ) (names : List Named) (gone : List Bool) (found : Sheet) (rs : List Rule) (items : List Item) → AreReread text other gone (length found.rules) rs items → AreKnownIn text names items → length found.items + length items ≤ MOST_SELECTORS
    → IsReread names gone found items (add_rules other found names rs)
unfolding add_rules
sheet_again text other names gone found [] items are known few = record { sheet = found; read = refl; new = []; whole = sym (append-nil found.items); moved = subst (λ (is : List Item). AreMoved gone is []) (sym are) tt }
sheet_again text other names gone found (r ∷ rs) items are known few =
    let own = are.0 in
    let others = are.1 in
    let whole : items ≡ own ++ others = are.2 in
    let sizes = ap length whole ∙ length-append own others in
    let parts = known_parts text names own others (subst (AreKnownIn text names) whole known) in
    let first = items_again text other names gone (length found.rules) found.items own (pieces_of other r) are.3 parts.0 are.4 (omega arith) in
    let next : Sheet = record { items = found.items ++ first.new; rules = found.rules ++ range_at r ∷ [] } in
    let added : add_rule other found names r ≡ (names, Ok next) = rule_added other found names r (found.items ++ first.new) first.read in
    let number : length found.rules + 1 ≡ length next.rules = sym (length-append found.rules (range_at r ∷ [])) in
    let size : length next.items ≡ length found.items + length own = length-append found.items first.new ∙ ap (λ n. length found.items + n) first.count in
    let later = sheet_again text other names gone next rs others (subst (λ (j : ℕ). AreReread text other gone j rs others) number are.5) parts.1 (omega arith) in
    record {
      sheet = later.sheet;
      read = rw added later.read;
      new = first.new ++ later.new;
      whole = later.whole ∙ append_assoc found.items first.new later.new;
      moved = subst (λ (is : List Item). AreMoved gone is (first.new ++ later.new)) (sym whole) (moved-append gone own first.new others later.new first.moved later.moved);
    }

-- ---- no more selectors than were read before

abbrev Any : Item → Type 0
Any i = Unit {0}

abbrev Few : List Item → Type 0
Few items = length items ≤ MOST_SELECTORS

any_read : (e : Ending Item) → IfRead Any e
any_read (names, Ok i) = tt
any_read (names, Err e) = tt

one_few : (text : List ℕ) (rule : ℕ) (found : List Item) (names : List Named) (p : Range) → IfRead Few (add_item text rule found names p)
unfolding add_item
one_few text rule found names p = by (nat_lt (length found) MOST_SELECTORS) refl
  where
    below : (n most : ℕ) → nat_lt n most ≡ true → n < most
    below n most less = grind (arith, nat_tests)

    by : (test : Bool) → nat_lt (length found) MOST_SELECTORS ≡ test → IfRead Few (if test then then_read (read_item text rule names p) (λ later i. (later, Ok (found ++ i ∷ []))) else (names, Err (TooManySelectors p.from)))
    by true is = let less = below (length found) MOST_SELECTORS is in after Any Few (read_item text rule names p) (λ later i. (later, Ok (found ++ i ∷ []))) (any_read (read_item text rule names p)) (λ later i any. omega (arith, length-append found (i ∷ [])))
    by false is = tt

items_few : (text : List ℕ) (rule : ℕ) (found : List Item) (names : List Named) (ps : List Range) → Few found → IfRead Few (add_items text rule found names ps)
unfolding add_items
items_few text rule found names [] few = few
items_few text rule found names (p ∷ ps) few = after Few Few (add_item text rule found names p) (λ later more. add_items text rule more later ps) (one_few text rule found names p) (λ later more is. items_few text rule more later ps is)

abbrev FewIn : Sheet → Type 0
FewIn s = Few s.items

rule_few : (text : List ℕ) (found : Sheet) (names : List Named) (r : Rule) → FewIn found → IfRead FewIn (add_rule text found names r)
unfolding add_rule
rule_few text found names r few = after Few FewIn (add_items text (length found.rules) found.items names (pieces_of text r)) _ (items_few text (length found.rules) found.items names (pieces_of text r) few) (λ later items is. is)

rules_few : (text : List ℕ) (found : Sheet) (names : List Named) (rs : List Rule) → FewIn found → IfRead FewIn (add_rules text found names rs)
unfolding add_rules
rules_few text found names [] few = few
rules_few text found names (r ∷ rs) few = after FewIn FewIn (add_rule text found names r) (λ later more. add_rules text more later rs) (rule_few text found names r few) (λ later more is. rules_few text more later rs is)

pub sheet_few : (text : List ℕ) (names later : List Named) (rs : List Rule) (s : Sheet) → add_rules text empty_sheet names rs ≡ (later, Ok s) → length s.items ≤ MOST_SELECTORS
sheet_few text names later rs s read = subst (IfRead FewIn) read (rules_few text empty_sheet names rs (omega arith))

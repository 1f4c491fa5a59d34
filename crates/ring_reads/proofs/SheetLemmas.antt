-- A short sheet is read: no selector has more names than bytes, and no list of selectors more of these than bytes.
use Rattle.std.proofs.Common.{◌≡◌, ℕ, zero, suc, ◌+◌, ◌-◌, ◌≤◌, ◌<◌, ◌==◌, Bool, true, false, if◌then◌else◌, nat_lt, List, [], ◌∷◌, ◌++◌, length, take, drop, slice_range, codes, Option, Some, None, Ok, Err, arith, eq-eqb, length-append}
use Rattle.std.proofs.lemmas.Bool.{lt-ltb}
use Rattle.std.proofs.lemmas.List.{length-take}
use Rattle.std.specs.Option.{ok_or}
use Rattle.std.specs.Str.Lossy.{utf8_valid_len}
use Rattle.std.proofs.lemmas.Str.{utf8_valid_len-IsUtf8}
use Rattle.text_bytes.specs.Blanks.{is_blank}
use Rattle.tp_base.specs.Names.{Named, place_in, placed, with_name}
use Rattle.tp_base.specs.declared.atoms.AtomKind.{AtomKind}
use Rattle.tp_base.specs.declared.atoms.TheConstants.{MOST_ATOMS}
use Rattle.sel_text.specs.declared.faults.Skip.TheVariants.{Long, Bad}
use Rattle.sel_text.specs.declared.faults.SelFault.{SelFault}
use Rattle.sel_text.specs.declared.faults.SelFault.TheVariants as sel
use Rattle.sel_text.specs.declared.faults.TheConstants.{MOST_PARTS}
use Rattle.sel_text.specs.declared.selectors.Join.{Join}
use Rattle.sel_text.specs.declared.selectors.Join.TheVariants.{Inside, Child}
use Rattle.sel_text.specs.declared.selectors.Compound.{Compound}
use Rattle.sel_text.specs.Selectors.{Selector}
use Rattle.sel_text.specs.Bytes.{behind_gap, name_len}
use Rattle.sel_text.specs.Grammar.{Outcome, ◌>>=◌, is_empty, left_at, Word, Begun, whole, wanting, any_part, first_part, name_at, behind_child, behind_space, behind_near, join_at}
use Rattle.sel_text.specs.Syntax.{Syntax, Item, part, joined, ended, whole_part, first_item, behind_join, later_item, item_at, finished_after, begun_after, with_item, then_syntax, syntax_from, syntax_of}
use Rattle.sel_text.specs.Reading as one
use Rattle.css_read.specs.declared.faults.TheConstants.{MOST_SELECTORS}
use Rattle.css_read.specs.declared.sheets.Range.{Range}
use Rattle.css_read.specs.Order.{AreApart}
use Rattle.css_read.specs.Pieces.{from_comma, more_pieces, pieces}
use Rattle.css_read.specs.Reading.{Ending, then_read, item_from, read_item, add_item, add_items, pieces_of, add_rule, add_rules, empty_sheet, read_sheet}
use Rattle.css_read.specs.Rules.{Rule, rules_of}
use Rattle.css_read.specs.Sheets as sheets
use Rattle.css_read.specs.Sheets.{Sheet}
use Rattle.css_read.proofs.Lengths.{no_longer, gap_no_longer}
use Rattle.css_read.proofs.PieceOrder.{in_order, pieces_apart}
use Rattle.css_read.proofs.RuleOrder.{AreRulesApart, rules_apart}
use Rattle.ring_reads.specs.Readings.{IsRead, ReadsShortSheets}

-- ---- how many names a selector has

abbrev words_in : List (List Word) → ℕ
words_in [] = 0
words_in (c ∷ cs) = length c + words_in cs

abbrev words_of : Syntax → ℕ
words_of s = words_in (s.names ∷ s.others)

one_more : (i : Item) (s : Syntax) (n : ℕ) → words_of s ≤ n → words_of (with_item i s) ≤ suc n
one_more (part None) s n few = omega arith
one_more (part (Some w)) s n few = omega arith
one_more (joined j) s n few = omega arith
one_more ended s n few = omega arith

then_few : (r : Outcome (Item × List ℕ)) (f : Item → List ℕ → Syntax) (n : ℕ) → ((i : Item) (rest : List ℕ) → words_of (f i rest) ≤ n) → words_of (then_syntax r f) ≤ suc n
then_few (Ok (i, rest)) f n each = one_more i (f i rest) n (each i rest)
then_few (Err e) f n each = omega arith

few_words : (drops : Bool) (to n : ℕ) (begun : Bool) (skip : ℕ) (bs : List ℕ) → words_of (syntax_from drops to n begun skip bs) ≤ length bs
unfolding syntax_from
few_words drops to n begun skip [] = omega arith
few_words drops to n begun (suc skip) (b ∷ bs) = let others = few_words drops to n begun skip bs in omega arith
few_words drops to n begun zero (b ∷ bs) =
    then_few (item_at drops to n begun (b ∷ bs)) (λ i rest. syntax_from drops to (finished_after n i) (begun_after begun i) (length bs - length rest) bs) (length bs)
    (λ i rest. few_words drops to (finished_after n i) (begun_after begun i) (length bs - length rest) bs)

few_in_text : (drops : Bool) (to : ℕ) (text : List ℕ) → words_of (syntax_of drops to text) ≤ length text
unfolding syntax_of
few_in_text drops to text =
    let all = few_words drops to 0 false 0 (behind_gap true 0 text) in
    let gap = gap_no_longer true 0 text in
    omega arith

-- ---- reading a selector

-- the names have room, whatever is read
abbrev Fits : {A : Type 0} → ℕ → one.Ending A → Type 0
Fits n (names, Ok x) = length names ≤ n
Fits n (names, Err (sel.Skipped why at)) = length names ≤ n
Fits n (names, Err sel.TooManyAtoms) = ⊥
Fits n (names, Err sel.Memory) = ⊥

fits_then : {A B : Type 0} (n m : ℕ) (e : one.Ending A) (f : List Named → A → one.Ending B) → n ≤ m → Fits n e → ((names : List Named) (x : A) → length names ≤ n → Fits m (f names x)) → Fits m (one.then_read e f)
fits_then n m (names, Ok x) f less here later = later names x here
fits_then n m (names, Err (sel.Skipped why at)) f less here later = omega (arith, less, here)
fits_then n m (names, Err sel.TooManyAtoms) f less here later = absurd here
fits_then n m (names, Err sel.Memory) f less here later = absurd here

atom_fits : (names : List Named) (w : Word) → length names + 1 ≤ MOST_ATOMS → Fits (length names + 1) (one.atom_of names w)
unfolding with_name
atom_fits names w room = go (place_in names (one.table_name w))
  where
    go : (o : Option ℕ) → Fits (length names + 1) (one.placed names (placed o names (one.table_name w)))
    go (Some place) = omega arith
    go None = rw (lt-ltb (length names) MOST_ATOMS (omega (arith, room))) (omega (arith, length-append names (one.table_name w ∷ [])))

atoms_fit : (m : ℕ) (names : List Named) (words : List Word) → length names + length words ≤ m → m ≤ MOST_ATOMS → Fits m (one.atoms_of names words)
unfolding one.atoms_of
atoms_fit m names [] room most = omega arith
atoms_fit m names (w ∷ words) room most =
    fits_then (length names + 1) m (one.atom_of names w) _ (omega (arith, room)) (atom_fits names w (omega (arith, room, most))) (λ later a first.
    fits_then m m (one.atoms_of later words) (λ last atoms. (last, Ok (a ∷ atoms))) (omega arith) (atoms_fit m later words (omega (arith, room, first)) most) (λ last atoms few. few))

compounds_fit : (m : ℕ) (names : List Named) (cs : List (List Word)) → length names + words_in cs ≤ m → m ≤ MOST_ATOMS → Fits m (one.compounds_of names cs)
unfolding one.compounds_of
compounds_fit m names [] room most = omega arith
compounds_fit m names (c ∷ cs) room most =
    fits_then (length names + length c) m (one.atoms_of names c) _ (omega (arith, room)) (atoms_fit (length names + length c) names c (omega arith) (omega (arith, room, most))) (λ later atoms first.
    fits_then m m (one.compounds_of later cs) (λ last (compounds : List Compound). (last, Ok ((record { atoms = atoms }) ∷ compounds))) (omega arith) (compounds_fit m later cs (omega (arith, room, first)) most) (λ last compounds few. few))

-- ---- what is no selector is skipped

abbrev IsSkip : SelFault → Type 0
IsSkip (sel.Skipped why at) = Unit {0}
IsSkip sel.TooManyAtoms = ⊥
IsSkip sel.Memory = ⊥

abbrev Skips : {A : Type 0} → Outcome A → Type 0
Skips (Ok x) = Unit {0}
Skips (Err e) = IsSkip e

skips_then : {A B : Type 0} (r : Outcome A) (f : A → Outcome B) → Skips r → ((x : A) → Skips (f x)) → Skips (r >>= f)
skips_then (Ok x) f here later = later x
skips_then (Err e) f here later = here

skips_either : {A : Type 0} (test : Bool) (r s : Outcome A) → Skips r → Skips s → Skips (if test then r else s)
skips_either true r s first second = first
skips_either false r s first second = second

left_skips : (to : ℕ) (before at : List ℕ) → IsSkip (left_at to before at)
unfolding left_at
left_skips to before at = tt

or_skips : {A : Type 0} (o : Option A) (to : ℕ) (before at : List ℕ) → Skips (ok_or o (left_at to before at))
or_skips None to before at = left_skips to before at
or_skips (Some x) to before at = tt

name_skips : (to : ℕ) (k : AtomKind) (bs : List ℕ) → Skips (name_at to k bs)
unfolding name_at
name_skips to k bs =
    let at = behind_gap false 0 bs in
    skips_either (nat_lt 0 (name_len at)) (Ok (Some (k, take (name_len at) at), drop (name_len at) at)) (Err (left_at to bs at)) tt (left_skips to bs at)

part_skips : (to : ℕ) (b : Begun) → Skips (whole_part to b)
unfolding whole_part
part_skips to (whole w rest) = tt
part_skips to (wanting k bs) = skips_then (name_at to k bs) _ (name_skips to k bs) (λ p. tt)

first_skips : (drops : Bool) (to n : ℕ) (bs : List ℕ) → Skips (first_item drops to n bs)
unfolding first_item
first_skips drops to n bs = skips_then (ok_or (first_part drops bs) (left_at to bs bs)) _ (or_skips (first_part drops bs) to bs bs) (λ b. skips_either (nat_lt n MOST_PARTS) (whole_part to b) (Err (sel.Skipped Long (to - length bs))) (part_skips to b) tt)

child_skips : (to : ℕ) (bs : List ℕ) → Skips (behind_child to bs)
unfolding behind_child
child_skips to bs = let at = behind_gap true 0 bs in skips_either (is_empty at) (Err (left_at to bs at)) (Ok (Some Child, at)) (left_skips to bs at) tt

space_skips : (to : ℕ) (bs : List ℕ) → Skips (behind_space to bs)
unfolding behind_space
space_skips to [] = tt
space_skips to (b ∷ bs) = skips_either (b == 62) (behind_child to bs) (Ok (Some Inside, b ∷ bs)) (child_skips to bs) tt

near_skips : (to : ℕ) (bs : List ℕ) → Skips (behind_near to bs)
unfolding behind_near
near_skips to [] = tt
near_skips to (b ∷ bs) =
    skips_either (is_blank b) (behind_space to (behind_gap true 0 bs)) _ (space_skips to (behind_gap true 0 bs))
    (skips_either (b == 62) (behind_child to bs) (Ok (None, b ∷ bs)) (child_skips to bs) tt)

join_skips : (drops : Bool) (to : ℕ) (j : Option Join × List ℕ) → Skips (behind_join drops to j)
join_skips drops to (Some j, bs) = tt
join_skips drops to (None, []) = tt
join_skips drops to (None, b ∷ bs) = skips_then (ok_or (any_part drops (b ∷ bs)) (left_at to (b ∷ bs) (b ∷ bs))) (λ begun. whole_part to begun) (or_skips (any_part drops (b ∷ bs)) to (b ∷ bs) (b ∷ bs)) (λ begun. part_skips to begun)

later_skips : (drops : Bool) (to : ℕ) (bs : List ℕ) → Skips (later_item drops to bs)
unfolding later_item join_at
later_skips drops to bs = skips_then (behind_near to (behind_gap false 0 bs)) (λ j. behind_join drops to j) (near_skips to (behind_gap false 0 bs)) (λ j. join_skips drops to j)

item_skips : (drops : Bool) (to n : ℕ) (begun : Bool) (bs : List ℕ) → Skips (item_at drops to n begun bs)
unfolding item_at
item_skips drops to n begun bs = skips_either begun (later_item drops to bs) (first_item drops to n bs) (later_skips drops to bs) (first_skips drops to n bs)

abbrev IfFault : Option SelFault → Type 0
IfFault None = Unit {0}
IfFault (Some e) = IsSkip e

item_fault : (i : Item) (s : Syntax) → IfFault s.fault → IfFault (with_item i s).fault
item_fault (part None) s is = is
item_fault (part (Some w)) s is = is
item_fault (joined j) s is = is
item_fault ended s is = is

then_fault : (r : Outcome (Item × List ℕ)) (f : Item → List ℕ → Syntax) → Skips r → ((i : Item) (rest : List ℕ) → IfFault (f i rest).fault) → IfFault (then_syntax r f).fault
then_fault (Ok (i, rest)) f here each = item_fault i (f i rest) (each i rest)
then_fault (Err e) f here each = here

end_fault : (begun : Bool) (to : ℕ) → IfFault (if begun then None else Some (sel.Skipped Bad to))
end_fault true to = tt
end_fault false to = tt

fault_skips : (drops : Bool) (to n : ℕ) (begun : Bool) (skip : ℕ) (bs : List ℕ) → IfFault (syntax_from drops to n begun skip bs).fault
unfolding syntax_from
fault_skips drops to n begun skip [] = end_fault begun to
fault_skips drops to n begun (suc skip) (b ∷ bs) = fault_skips drops to n begun skip bs
fault_skips drops to n begun zero (b ∷ bs) =
    then_fault (item_at drops to n begun (b ∷ bs)) (λ i rest. syntax_from drops to (finished_after n i) (begun_after begun i) (length bs - length rest) bs) (item_skips drops to n begun (b ∷ bs))
    (λ i rest. fault_skips drops to (finished_after n i) (begun_after begun i) (length bs - length rest) bs)

-- ---- one selector of a sheet

text_fits : (m : ℕ) (drops : Bool) (to : ℕ) (text : List ℕ) (names : List Named) → length names + length text ≤ m → m ≤ MOST_ATOMS → Fits m (one.read_piece drops to text names)
unfolding one.read_piece one.read_syntax syntax_of
text_fits m drops to text names room most =
    let s = syntax_of drops to text in
    let few = few_in_text drops to text in
    fits_then m m (one.compounds_of names (s.names ∷ s.others)) _ (omega arith) (compounds_fit m names (s.names ∷ s.others) (omega (arith, room, few)) most)
    (λ later compounds first. go later compounds s.joins s.fault (fault_skips drops to 0 false 0 (behind_gap true 0 text)) first)
  where
    go : (later : List Named) (compounds : List Compound) (joins : List Join) (o : Option SelFault) → IfFault o → length later ≤ m → Fits m (later, one.selector_or o compounds joins)
    go later compounds joins None is first = first
    go later compounds joins (Some (sel.Skipped why at)) is first = first
    go later compounds joins (Some sel.TooManyAtoms) is first = absurd is
    go later compounds joins (Some sel.Memory) is first = absurd is

-- ---- what is read of a sheet

-- it is read, and this holds of it and of the names then
abbrev Reads : {A : Type 0} → (List Named → A → Type 0) → Ending A → Type 0
Reads P (names, Ok x) = P names x
Reads P (names, Err e) = ⊥

reads_then : {A B : Type 0} (P : List Named → A → Type 0) (Q : List Named → B → Type 0) (e : Ending A) (f : List Named → A → Ending B) → Reads P e → ((names : List Named) (x : A) → P names x → Reads Q (f names x)) → Reads Q (then_read e f)
reads_then P Q (names, Ok x) f here later = later names x here
reads_then P Q (names, Err e) f here later = absurd here

item_reads : (m rule : ℕ) (piece : Range) (e : one.Ending Selector) → Fits m e → Reads (λ names i. length names ≤ m) (item_from rule piece e)
item_reads m rule piece (names, Ok s) fits = fits
item_reads m rule piece (names, Err (sel.Skipped why at)) fits = fits
item_reads m rule piece (names, Err sel.TooManyAtoms) fits = absurd fits
item_reads m rule piece (names, Err sel.Memory) fits = absurd fits

-- no more names than these, and no more selectors
record IsFew (m n : ℕ) (known : List Named) (found : List sheets.Item) : Type 0 where
  names : length known ≤ m
  items : length found ≤ n

one_item : (text : List ℕ) (rule m n : ℕ) (found : List sheets.Item) (names : List Named) (p : Range) → length names + (p.to - p.from) ≤ m → m ≤ MOST_ATOMS → length found ≤ n → n < MOST_SELECTORS
    → Reads (IsFew m (suc n)) (add_item text rule found names p)
unfolding add_item read_item one.read_selector
one_item text rule m n found names p room most few less =
    let count = length-take (p.to - p.from) (drop p.from text) in
    rw (lt-ltb (length found) MOST_SELECTORS (omega (arith, few, less)))
    (reads_then (λ names i. length names ≤ m) (IsFew m (suc n)) (read_item text rule names p) (λ later i. (later, Ok (found ++ i ∷ [])))
    (item_reads m rule p (one.read_piece true p.to (slice_range text p.from p.to) names) (text_fits m true p.to (slice_range text p.from p.to) names (omega (arith, room, count)) most))
    (λ later i first. record { names = first; items = omega (arith, few, length-append found (i ∷ [])) }))

items_read : (text : List ℕ) (rule m n at to : ℕ) (found : List sheets.Item) (names : List Named) (ps : List Range) → AreApart at to ps → length names + (to - at) ≤ m → m ≤ MOST_ATOMS → length found + length ps ≤ n → n ≤ MOST_SELECTORS
    → Reads (IsFew m n) (add_items text rule found names ps)
unfolding add_items
items_read text rule m n at to found names [] apart room most few less = record { names = omega (arith, room); items = omega (arith, few) }
items_read text rule m n at to found names (p ∷ ps) apart room most few less =
    let before = in_order p.to to ps apart.2 in
    let here = length names + (p.to - p.from) in
    reads_then (IsFew here (suc (length found))) (IsFew m n) (add_item text rule found names p) (λ later more. add_items text rule more later ps)
    (one_item text rule here (length found) found names p (omega arith) (omega (arith, room, most, apart.0, apart.1, before)) (omega arith) (omega (arith, few, less)))
    (λ later more first. items_read text rule m n p.to to more later ps apart.2 (omega (arith, room, first.names, apart.0, apart.1, before)) most (omega (arith, few, first.items)) less)

-- ---- how many selectors a list has

more_count : (to skip : ℕ) (bs : List ℕ) → length (more_pieces to skip bs) ≤ length bs
unfolding more_pieces
more_count to skip [] = omega arith
more_count to (suc skip) (b ∷ bs) = let others = more_count to skip bs in omega arith
more_count to zero (b ∷ bs) = let others = more_count to (length bs - length (from_comma bs)) bs in omega arith

pieces_count : (to : ℕ) (bs : List ℕ) → length (pieces to bs) ≤ suc (length bs)
unfolding pieces
pieces_count to bs =
    let others = more_count to 0 (from_comma bs) in
    let rest = no_longer (codes ",") [] 0 bs in
    omega arith

-- ---- rules

one_rule : (text : List ℕ) (m n : ℕ) (found : Sheet) (names : List Named) (r : Rule) → r.from ≤ r.brace → r.brace < r.to → length names + (r.to - r.from) ≤ m → m ≤ MOST_ATOMS → length found.items + (r.to - r.from) ≤ n → n ≤ MOST_SELECTORS
    → Reads (λ later (s : Sheet). IsFew m n later s.items) (add_rule text found names r)
unfolding add_rule
one_rule text m n found names r list block room most few less =
    let part = slice_range text r.from r.brace in
    let count = length-take (r.brace - r.from) (drop r.from text) in
    let selectors = pieces_count r.brace part in
    reads_then (IsFew m n) (λ later (s : Sheet). IsFew m n later s.items) (add_items text (length found.rules) found.items names (pieces_of text r)) _
    (items_read text (length found.rules) m n r.from r.brace found.items names (pieces_of text r) (pieces_apart r.from r.brace part (omega arith)) (omega (arith, room, list, block)) most (omega (arith, few, list, block, selectors, count)) less)
    (λ later items first. first)

rules_order : (from to : ℕ) (rs : List Rule) → AreRulesApart from to rs → from ≤ to
rules_order from to [] apart = apart
rules_order from to (r ∷ rs) apart = let others = rules_order r.to to rs apart.3 in omega (arith, apart.0, apart.1, apart.2)

rules_read : (text : List ℕ) (m n at to : ℕ) (found : Sheet) (names : List Named) (rs : List Rule) → AreRulesApart at to rs → length names + (to - at) ≤ m → m ≤ MOST_ATOMS → length found.items + (to - at) ≤ n → n ≤ MOST_SELECTORS
    → Reads (λ later (s : Sheet). length later ≤ m) (add_rules text found names rs)
unfolding add_rules
rules_read text m n at to found names [] apart room most few less = omega (arith, room)
rules_read text m n at to found names (r ∷ rs) apart room most few less =
    let after = rules_order r.to to rs apart.3 in
    let named = length names + (r.to - r.from) in
    let counted = length found.items + (r.to - r.from) in
    reads_then (λ later (s : Sheet). IsFew named counted later s.items) (λ later (s : Sheet). length later ≤ m) (add_rule text found names r) (λ later more. add_rules text more later rs)
    (one_rule text named counted found names r apart.1 apart.2 (omega arith) (omega (arith, room, most, after, apart.0, apart.1, apart.2)) (omega arith) (omega (arith, few, less, after, apart.0, apart.1, apart.2)))
    (λ later more first. rules_read text m n r.to to more later rs apart.3 (omega (arith, room, first.names, after, apart.0, apart.1, apart.2)) most (omega (arith, few, first.items, after, apart.0, apart.1, apart.2)) less)

-- ---- a sheet

as_read : (m : ℕ) (e : Ending Sheet) → Reads (λ later (s : Sheet). length later ≤ m) e → IsRead m e
as_read m (names, Ok s) is = is
as_read m (names, Err e) is = absurd is

pub reads_short : ReadsShortSheets
unfolding read_sheet
reads_short text names utf8 short room =
    let whole : (utf8_valid_len text == length text) ≡ true = eq-eqb (utf8_valid_len text) (length text) (utf8_valid_len-IsUtf8 text utf8) in
    rw whole (as_read (length names + length text) (add_rules text empty_sheet names (rules_of text))
    (rules_read text (length names + length text) (length text) 0 (length text) empty_sheet names (rules_of text) (rules_apart text) (omega arith) room (omega arith) short))

-- Two readings of one sheet are alike, whatever names were there before.
use Rattle.std.proofs.Common.{◌≡◌, ◌⊎◌, ℕ, Bool, true, false, nat_lt, ◌==◌, if◌then◌else◌, List, [], ◌∷◌, ◌++◌, length, Option, Some, None, Ok, Err, refl, sym, ap, ◌∙◌, subst, inl, inr}
use Rattle.std.specs.Prelude.{slice_range}
use Rattle.std.specs.Str.Lossy.{utf8_valid_len}
use Rattle.tp_base.specs.Names.{Named, with_name}
use Rattle.sel_text.specs.declared.faults.Skip.{Skip}
use Rattle.sel_text.specs.declared.faults.SelFault.{SelFault}
use Rattle.sel_text.specs.declared.faults.SelFault.TheVariants as sel
use Rattle.sel_text.specs.declared.selectors.Compound.{Compound}
use Rattle.sel_text.specs.Grammar as grammar
use Rattle.sel_text.specs.Reading as one
use Rattle.sel_text.specs.Selectors.{Selector}
use Rattle.sel_text.specs.Syntax.{Syntax, syntax_of}
use Rattle.css_read.specs.declared.faults.SheetFault.{SheetFault}
use Rattle.css_read.specs.declared.faults.SheetFault.TheVariants.{NotUtf8, TooManySelectors}
use Rattle.css_read.specs.declared.sheets.Range.{Range}
use Rattle.css_read.specs.declared.faults.TheConstants.{MOST_SELECTORS}
use Rattle.css_read.specs.Rules.{Rule, rules_of}
use Rattle.css_read.specs.Sheets.{Item, Sheet}
use Rattle.css_read.specs.Reading.{Ending, then_read, item_from, read_item, add_item, add_items, pieces_of, add_rule, add_rules, empty_sheet, read_sheet}
use Rattle.css_read.specs.Shapes.{IsAlike, AreAlike, AreAlikeSheets, HasOneShape}

alike_more : (items others : List Item) (i j : Item) → AreAlike items others → IsAlike i j → AreAlike (items ++ i ∷ []) (others ++ j ∷ [])
alike_more [] [] i j are is = (is, tt)
alike_more [] (y ∷ others) i j are is = absurd are
alike_more (x ∷ items) [] i j are is = absurd are
alike_more (x ∷ items) (y ∷ others) i j are is = (are.0, alike_more items others i j are.1 is)

-- ---- two readings, where neither is refused

module _ {A : Type 0} (R : A → A → Type 0) where
  abbrev AlikeEnds : Ending A → Ending A → Type 0
  AlikeEnds (names, Ok x) (others, Ok y) = R x y
  AlikeEnds (names, Ok x) (others, Err e) = Unit {0}
  AlikeEnds (names, Err e) other = Unit {0}

  refused_right : (x : Ending A) (names : List Named) (e : SheetFault) → AlikeEnds x (names, Err e)
  refused_right (later, Ok x) names e = tt
  refused_right (later, Err f) names e = tt

then_alike : {A B : Type 0} (R : A → A → Type 0) (Q : B → B → Type 0) (x y : Ending A) (f g : List Named → A → Ending B) → AlikeEnds R x y → ((n m : List Named) (a b : A) → R a b → AlikeEnds Q (f n a) (g m b))
    → AlikeEnds Q (then_read x f) (then_read y g)
then_alike R Q (n, Ok a) (m, Ok b) f g are all = all n m a b are
then_alike R Q (n, Ok a) (m, Err e) f g are all = refused_right Q (f n a) m e
then_alike R Q (n, Err e) y f g are all = tt

-- ---- a selector is read by its text alone, as long as there is room for its names

module _ {A : Type 0} where
  abbrev IsRoomy : one.Ending A → Type 0
  IsRoomy (names, Ok x) = Unit {0}
  IsRoomy (names, Err e) = e ≡ sel.TooManyAtoms

then_roomy : {A B : Type 0} (e : one.Ending A) (f : List Named → A → one.Ending B) → IsRoomy e → ((names : List Named) (x : A) → IsRoomy (f names x)) → IsRoomy (one.then_read e f)
then_roomy (names, Ok x) f is all = all names x
then_roomy (names, Err e) f is all = is

placed_roomy : (names : List Named) (o : Option (ℕ × List Named)) → IsRoomy (one.placed names o)
placed_roomy names None = refl
placed_roomy names (Some e) = tt

atoms_roomy : (names : List Named) (words : List grammar.Word) → IsRoomy (one.atoms_of names words)
unfolding one.atoms_of
atoms_roomy names [] = tt
atoms_roomy names (w ∷ words) =
    then_roomy (one.atom_of names w) (λ later a. one.then_read (one.atoms_of later words) (λ last atoms. (last, Ok (a ∷ atoms)))) (placed_roomy names (with_name names (one.table_name w)))
    (λ later a. then_roomy (one.atoms_of later words) (λ last atoms. (last, Ok (a ∷ atoms))) (atoms_roomy later words) (λ last atoms. tt))

compounds_roomy : (names : List Named) (cs : List (List grammar.Word)) → IsRoomy (one.compounds_of names cs)
unfolding one.compounds_of
compounds_roomy names [] = tt
compounds_roomy names (c ∷ cs) =
    then_roomy (one.atoms_of names c) (λ later atoms. one.then_read (one.compounds_of later cs) (λ last compounds. (last, Ok ((record { atoms = atoms }) ∷ compounds)))) (atoms_roomy names c)
    (λ later atoms. then_roomy (one.compounds_of later cs) (λ last compounds. (last, Ok ((record { atoms = atoms }) ∷ compounds))) (compounds_roomy later cs) (λ last compounds. tt))

abbrev IsBy : Option SelFault → one.Ending Selector → Type 0
IsBy None (names, Ok s) = Unit {0}
IsBy None (names, Err e) = e ≡ sel.TooManyAtoms
IsBy (Some f) (names, Ok s) = ⊥
IsBy (Some f) (names, Err e) = (e ≡ sel.TooManyAtoms) ⊎ (e ≡ f)

syntax_by : (s : Syntax) (names : List Named) → IsBy s.fault (one.read_syntax s names)
unfolding one.read_syntax
syntax_by s names = go (one.compounds_of names (s.names ∷ s.others)) (compounds_roomy names (s.names ∷ s.others)) s.fault
  where
    go : (e : one.Ending (List Compound)) → IsRoomy e → (fault : Option SelFault) → IsBy fault (one.then_read e (λ later compounds. (later, one.selector_or fault compounds s.joins)))
    go (later, Ok compounds) is None = tt
    go (later, Ok compounds) is (Some f) = inr refl
    go (later, Err e) is None = is
    go (later, Err e) is (Some f) = inl is

abbrev why_in : Skip → SelFault → Skip
why_in d (sel.Skipped why at) = why
why_in d sel.TooManyAtoms = d
why_in d sel.Memory = d

abbrev at_in : SelFault → ℕ
at_in (sel.Skipped why at) = at
at_in sel.TooManyAtoms = 0
at_in sel.Memory = 0

module _ (k k' : ℕ) (piece : Range) (same : k ≡ k') where
  skips_alike : (fault : Option SelFault) (n : List Named) (why : Skip) (at : ℕ) (e : one.Ending Selector) → IsBy fault (n, Err (sel.Skipped why at)) → IsBy fault e
      → AlikeEnds IsAlike (item_from k piece (n, Err (sel.Skipped why at))) (item_from k' piece e)
  skips_alike None n why at e is is' = absurd cc
  skips_alike (Some f) n why at (m, Ok s) is is' = absurd is'
  skips_alike (Some f) n why at (m, Err sel.TooManyAtoms) is is' = tt
  skips_alike (Some f) n why at (m, Err sel.Memory) is is' = tt
  skips_alike (Some f) n why at (m, Err (sel.Skipped why' at')) (inl is) is' = absurd cc
  skips_alike (Some f) n why at (m, Err (sel.Skipped why' at')) (inr is) (inl is') = absurd cc
  skips_alike (Some f) n why at (m, Err (sel.Skipped why' at')) (inr is) (inr is') =
      record { from = refl; to = refl; rule = same; outcome = (ap (why_in why) (is ∙ sym is'), ap at_in (is ∙ sym is')) }

  judged_alike : (n : List Named) (s : Selector) (e : one.Ending Selector) → IsBy None e → AlikeEnds IsAlike (item_from k piece (n, Ok s)) (item_from k' piece e)
  judged_alike n s (m, Ok u) is = record { from = refl; to = refl; rule = same; outcome = tt }
  judged_alike n s (m, Err sel.TooManyAtoms) is = tt
  judged_alike n s (m, Err sel.Memory) is = tt
  judged_alike n s (m, Err (sel.Skipped why at)) is = absurd cc

  item_alike : (fault : Option SelFault) (e e' : one.Ending Selector) → IsBy fault e → IsBy fault e' → AlikeEnds IsAlike (item_from k piece e) (item_from k' piece e')
  item_alike None (n, Ok s) e' is is' = judged_alike n s e' is'
  item_alike (Some f) (n, Ok s) e' is is' = absurd is
  item_alike fault (n, Err sel.TooManyAtoms) e' is is' = tt
  item_alike fault (n, Err sel.Memory) e' is is' = tt
  item_alike fault (n, Err (sel.Skipped why at)) e' is is' = skips_alike fault n why at e' is is'

  read_alike : (text : List ℕ) (names others : List Named) → AlikeEnds IsAlike (read_item text k names piece) (read_item text k' others piece)
  unfolding read_item one.read_selector one.read_piece
  read_alike text names others = let s = syntax_of true piece.to (slice_range text piece.from piece.to) in item_alike s.fault (one.read_syntax s names) (one.read_syntax s others) (syntax_by s names) (syntax_by s others)

  add_alike : (text : List ℕ) (found found' : List Item) (names others : List Named) → AreAlike found found' → AlikeEnds AreAlike (add_item text k found names piece) (add_item text k' found' others piece)
  unfolding add_item
  add_alike text found found' names others are = go (nat_lt (length found) MOST_SELECTORS) (nat_lt (length found') MOST_SELECTORS)
    where
      go : (b c : Bool)
          → AlikeEnds AreAlike (if b then then_read (read_item text k names piece) (λ later i. (later, Ok (found ++ i ∷ []))) else (names, Err (TooManySelectors piece.from)))
          (if c then then_read (read_item text k' others piece) (λ later i. (later, Ok (found' ++ i ∷ []))) else (others, Err (TooManySelectors piece.from)))
      go true true =
          then_alike IsAlike AreAlike (read_item text k names piece) (read_item text k' others piece) (λ later i. (later, Ok (found ++ i ∷ []))) (λ later i. (later, Ok (found' ++ i ∷ []))) (read_alike text names others)
          (λ n m i j is. alike_more found found' i j are is)
      go true false = refused_right AreAlike (then_read (read_item text k names piece) (λ later i. (later, Ok (found ++ i ∷ [])))) others (TooManySelectors piece.from)
      go false c = tt

all_alike : (text : List ℕ) (k k' : ℕ) (found found' : List Item) (names others : List Named) (ps : List Range) → k ≡ k' → AreAlike found found' → AlikeEnds AreAlike (add_items text k found names ps) (add_items text k' found' others ps)
unfolding add_items
all_alike text k k' found found' names others [] same are = are
all_alike text k k' found found' names others (p ∷ ps) same are =
    then_alike AreAlike AreAlike (add_item text k found names p) (add_item text k' found' others p) (λ later more. add_items text k more later ps) (λ later more. add_items text k' more later ps)
    (add_alike k k' p same text found found' names others are) (λ n m more more' these. all_alike text k k' more more' n m ps same these)

rule_alike : (text : List ℕ) (found found' : Sheet) (names others : List Named) (r : Rule) → AreAlikeSheets found found' → AlikeEnds AreAlikeSheets (add_rule text found names r) (add_rule text found' others r)
unfolding add_rule
rule_alike text found found' names others r are =
    then_alike AreAlike AreAlikeSheets (add_items text (length found.rules) found.items names (pieces_of text r)) (add_items text (length found'.rules) found'.items others (pieces_of text r))
    (λ later items. (later, Ok (record { items = items; rules = found.rules ++ (record { from = r.from; to = r.to }) ∷ [] })))
    (λ later items. (later, Ok (record { items = items; rules = found'.rules ++ (record { from = r.from; to = r.to }) ∷ [] })))
    (all_alike text (length found.rules) (length found'.rules) found.items found'.items names others (pieces_of text r) (ap length are.rules) are.items)
    (λ n m items items' these. record { items = these; rules = ap (λ rs. rs ++ (record { from = r.from; to = r.to }) ∷ []) are.rules })

rules_alike : (text : List ℕ) (found found' : Sheet) (names others : List Named) (rs : List Rule) → AreAlikeSheets found found' → AlikeEnds AreAlikeSheets (add_rules text found names rs) (add_rules text found' others rs)
unfolding add_rules
rules_alike text found found' names others [] are = are
rules_alike text found found' names others (r ∷ rs) are =
    then_alike AreAlikeSheets AreAlikeSheets (add_rule text found names r) (add_rule text found' others r) (λ later more. add_rules text more later rs) (λ later more. add_rules text more later rs)
    (rule_alike text found found' names others r are) (λ n m more more' these. rules_alike text more more' n m rs these)

pub sheet_alike : (text : List ℕ) (names others : List Named) → AlikeEnds AreAlikeSheets (read_sheet text names) (read_sheet text others)
unfolding read_sheet
sheet_alike text names others = go (utf8_valid_len text == length text)
  where
    go : (b : Bool) → AlikeEnds AreAlikeSheets (if b then add_rules text empty_sheet names (rules_of text) else (names, Err (NotUtf8 (utf8_valid_len text)))) (if b then add_rules text empty_sheet others (rules_of text) else (others, Err (NotUtf8 (utf8_valid_len text))))
    go true = rules_alike text empty_sheet empty_sheet names others (rules_of text) (record { items = tt; rules = refl })
    go false = tt

pub one_shape : (text : List ℕ) → HasOneShape text
one_shape text names others later last s u is other =
    subst (λ (e : Ending Sheet). AlikeEnds AreAlikeSheets (later, Ok s) e) other (subst (λ (e : Ending Sheet). AlikeEnds AreAlikeSheets e (read_sheet text others)) is (sheet_alike text names others))

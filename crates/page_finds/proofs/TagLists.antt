-- Small facts on tags: the names that the code writes down, words that are spelled, and findings one after the other.
use Rattle.std.proofs.Common.{◌≡◌, ℕ, ◌==◌, ◌≤◌, ◌<◌, nat_lt, nat_eq, true, false, List, [], ◌∷◌, ◌++◌, length, map, suc, drop, drop-cons, get_or, Option, Some, None, refl, ap₂, arith, append_assoc, Bool, codes, ◌||◌}
use Rattle.std.proofs.lemmas.Bool.{ne_eqb}
use Rattle.std.proofs.lemmas.Bool.Decides.{nat_tests}
use Rattle.std.specs.Char.{to_ascii_lowercase}
use Rattle.std.specs.List.{list_any}
use Rattle.std.proofs.lemmas.List.{drop_all}
use Rattle.std.specs.Str.{str_eq_ignore_ascii_case}
use Rattle.html_tokens.specs.Attributes.{value_of}
use Rattle.page_finds.specs.Tags.{Placed}
use Rattle.page_finds.specs.Views.{placed_of}
use Rattle.html_tokens.specs.Bytes.{lowered}
use Rattle.html_tokens.specs.Words.{words_from}
use Rattle.page_finds.specs.declared.tags.Placed as code_placed
use Rattle.premise_finds.specs.declared.findings.Finding.{Finding}
use Rattle.page_finds.specs.declared.tag_names.TheConstants.{SCRIPT_TYPES, FRAMING_NAMES, SHEET_WORD}
use Rattle.page_finds.specs.TagNames.{script_types, framing_names, spells}

pub two : (old a b : List Finding) → (old ++ a) ++ b ≡ old ++ (a ++ b)
two old a b = append_assoc old a b

pub four : (old a b c d : List Finding) → (((old ++ a) ++ b) ++ c) ++ d ≡ old ++ (((a ++ b) ++ c) ++ d)
four old a b c d = simp append_assoc

pub six : (old a b c d e f : List Finding) → (((((old ++ a) ++ b) ++ c) ++ d) ++ e) ++ f ≡ old ++ (((((a ++ b) ++ c) ++ d) ++ e) ++ f)
six old a b c d e f = simp append_assoc

pub nine : (old a b c d e f g h i : List Finding) → ((((((((old ++ a) ++ b) ++ c) ++ d) ++ e) ++ f) ++ g) ++ h) ++ i ≡ old ++ ((((((((a ++ b) ++ c) ++ d) ++ e) ++ f) ++ g) ++ h) ++ i)
nine old a b c d e f g h i = simp append_assoc

pub script_types_are : map (λ w. lowered w.now) SCRIPT_TYPES ≡ script_types
unfolding words_from
script_types_are = refl

pub framing_names_are : map (λ w. lowered w.now) FRAMING_NAMES ≡ framing_names
unfolding words_from
framing_names_are = refl

pub sheet_word_is : map (λ w. lowered w.now) SHEET_WORD ≡ codes "stylesheet" ∷ []
sheet_word_is = refl

-- ---- spelling

pub spells_nothing : (word bs : List ℕ) → length word ≡ 0 → spells word bs ≡ true
unfolding spells
spells_nothing [] bs none = refl
spells_nothing (w ∷ ws) bs none = absurd (omega arith)

pub spells_too_few : (w : ℕ) (ws bs : List ℕ) → length bs ≡ 0 → spells (w ∷ ws) bs ≡ false
unfolding spells
spells_too_few w ws [] none = refl
spells_too_few w ws (b ∷ bs) none = absurd (omega arith)

pub passes_blank : (w b : ℕ) (ws bs : List ℕ) → b ≤ 32 → spells (w ∷ ws) (b ∷ bs) ≡ spells (w ∷ ws) bs
unfolding spells
passes_blank w b ws bs low = let no : nat_lt 32 b ≡ false = grind (arith) in rw no refl

pub spells_on : (w b : ℕ) (ws bs : List ℕ) → 32 < b → to_ascii_lowercase b ≡ w → spells (w ∷ ws) (b ∷ bs) ≡ spells ws bs
unfolding spells
spells_on w b ws bs high same = let seen : nat_lt 32 b ≡ true = grind (arith) in let is : (to_ascii_lowercase b == w) ≡ true = grind (arith) in rw (seen, is) refl

pub spells_other : (w b : ℕ) (ws bs : List ℕ) → 32 < b → (to_ascii_lowercase b ≡ w → ⊥) → spells (w ∷ ws) (b ∷ bs) ≡ false
unfolding spells
spells_other w b ws bs high other = let seen : nat_lt 32 b ≡ true = grind (arith) in let no : (to_ascii_lowercase b == w) ≡ false = ne_eqb (to_ascii_lowercase b) w other in rw (seen, no) refl

-- ---- hyphens

same_hyphen : (b : ℕ) → nat_eq (to_ascii_lowercase b) 45 ≡ nat_eq b 45
same_hyphen b = grind (arith, nat_tests)

pub same_hyphens : (name : List ℕ) → list_any (λ b. nat_eq b 45) (lowered name) ≡ list_any (λ b. nat_eq b 45) name
same_hyphens [] = refl
same_hyphens (b ∷ bs) = ap₂ (λ (x y : Bool). x || y) (same_hyphen b) (same_hyphens bs)

-- ---- the value of an attribute

pub value_here : (name : List ℕ) (ps items : List code_placed.Placed) (i : ℕ) (d : code_placed.Placed) (all : Option (List ℕ)) → ps ≡ items → i < length ps
    → value_of name (map (λ (p : Placed). p.attribute) (map placed_of (drop i items))) ≡ all → str_eq_ignore_ascii_case (get_or ps i d).attribute.name.now name ≡ true
    → Some (get_or ps i d).attribute.value.now ≡ all
unfolding value_of
value_here name ps items i d all same within found is =
    let here : drop i items ≡ get_or ps i d ∷ drop (suc i) ps = rw (← same) (drop-cons ps i d within) in
    rw (here, is) at found

pub value_none : (name : List ℕ) (ps items : List code_placed.Placed) (i : ℕ) (all : Option (List ℕ)) → ps ≡ items → length ps ≤ i
    → value_of name (map (λ (p : Placed). p.attribute) (map placed_of (drop i items))) ≡ all → None ≡ all
unfolding value_of
value_none name ps items i all same past found =
    let here : drop i items ≡ [] = rw (← same) (drop_all i ps past) in
    rw here at found

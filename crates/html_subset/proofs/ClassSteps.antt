-- Adding classes, as a loop does.
use Rattle.std.proofs.Common.{◌≡◌, ℕ, true, false, List, [], ◌∷◌, length, take, drop, Some, Ok, Err, refl, arith}
use Rattle.tp_base.specs.Names.{Named, with_name}
use Rattle.tp_base.specs.declared.atoms.AtomKind.TheVariants.{Class}
use Rattle.html_subset.specs.declared.faults.PageFault.{PageFault}
use Rattle.text_bytes.specs.Blanks.{is_blank}
use Rattle.html_tokens.specs.Words.{word_len, words_from}
use Rattle.html_tokens.proofs.WordLemmas.{next_word}
use Rattle.html_subset.specs.Labels.{Outcome, class_names, and_one, labelled}

-- a label with the classes of a value
unfoldable pub with_value : ℕ → List ℕ → List ℕ → List Named → Outcome (List ℕ × List Named)
with_value at value label table = labelled at (class_names (Some value)) label table

pub opened : (at : ℕ) (value label : List ℕ) (table : List Named) → labelled at (class_names (Some value)) label table ≡ with_value at value label table
unfolding with_value
opened at value label table = refl

pub blank : (at b : ℕ) (bs label : List ℕ) (table : List Named) → is_blank b ≡ true → with_value at (b ∷ bs) label table ≡ with_value at bs label table
unfolding with_value words_from
blank at b bs label table is = rw is refl

pub goes_on : (at b : ℕ) (bs label more : List ℕ) (table later : List Named) → is_blank b ≡ false
    → and_one at label table (with_name table (Class, take (word_len (b ∷ bs)) (b ∷ bs))) ≡ Ok (more, later)
    → with_value at (b ∷ bs) label table ≡ with_value at (drop (word_len (b ∷ bs)) (b ∷ bs)) more later
unfolding with_value labelled
goes_on at b bs label more table later is step = rw (next_word b bs is, step) refl

pub fails : (at b : ℕ) (bs label : List ℕ) (table : List Named) (e : PageFault × List Named) → is_blank b ≡ false
    → and_one at label table (with_name table (Class, take (word_len (b ∷ bs)) (b ∷ bs))) ≡ Err e
    → with_value at (b ∷ bs) label table ≡ Err e
unfolding with_value labelled
fails at b bs label table e is step = rw (next_word b bs is, step) refl

pub ends : (at : ℕ) (bs label : List ℕ) (table : List Named) → length bs ≡ 0 → with_value at bs label table ≡ Ok (label, table)
unfolding with_value words_from labelled
ends at [] label table none = refl
ends at (b ∷ bs) label table none = absurd (omega arith)

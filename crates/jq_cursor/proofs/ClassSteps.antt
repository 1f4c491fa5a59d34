-- The classes of an argument, one by one.
use Rattle.std.proofs.Common.{◌≡◌, ℕ, true, false, List, [], ◌∷◌, length, take, drop, Ok, Err, refl, arith}
use Rattle.tp_base.specs.Names.{Named, with_name}
use Rattle.tp_base.specs.declared.atoms.AtomKind.TheVariants.{Class}
use Rattle.text_bytes.specs.Blanks.{is_blank}
use Rattle.html_tokens.specs.Words.{word_len, words_from, words}
use Rattle.html_tokens.proofs.WordLemmas.{next_word}
use Rattle.jq_words.specs.declared.faults.ScriptFault.{ScriptFault}
use Rattle.jq_words.specs.Words.{Outcome}
use Rattle.jq_cursor.specs.Selections.{and_class, with_classes}

-- a set with the classes of a text
unfoldable pub with_value : ℕ → List ℕ → List ℕ → List Named → Outcome (List ℕ × List Named)
with_value at value set names = with_classes at (words value) set names

pub opened : (at : ℕ) (value set : List ℕ) (names : List Named) → with_classes at (words value) set names ≡ with_value at value set names
unfolding with_value
opened at value set names = refl

pub blank : (at b : ℕ) (bs set : List ℕ) (names : List Named) → is_blank b ≡ true → with_value at (b ∷ bs) set names ≡ with_value at bs set names
unfolding with_value words_from
blank at b bs set names is = rw is refl

pub goes_on : (at b : ℕ) (bs set more : List ℕ) (names later : List Named) → is_blank b ≡ false
    → and_class at set (with_name names (Class, take (word_len (b ∷ bs)) (b ∷ bs))) ≡ Ok (more, later)
    → with_value at (b ∷ bs) set names ≡ with_value at (drop (word_len (b ∷ bs)) (b ∷ bs)) more later
unfolding with_value with_classes
goes_on at b bs set more names later is step = rw (next_word b bs is, step) refl

pub fails : (at b : ℕ) (bs set : List ℕ) (names : List Named) (e : ScriptFault) → is_blank b ≡ false
    → and_class at set (with_name names (Class, take (word_len (b ∷ bs)) (b ∷ bs))) ≡ Err e
    → with_value at (b ∷ bs) set names ≡ Err e
unfolding with_value with_classes
fails at b bs set names e is step = rw (next_word b bs is, step) refl

pub ends : (at : ℕ) (bs set : List ℕ) (names : List Named) → length bs ≡ 0 → with_value at bs set names ≡ Ok (set, names)
unfolding with_value words_from with_classes
ends at [] set names none = refl
ends at (b ∷ bs) set names none = absurd (omega arith)

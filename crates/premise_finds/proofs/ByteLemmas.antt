-- The words of a text, one after the other.
use Rattle.std.proofs.Common.{◌≡◌, ℕ, true, false, List, [], ◌∷◌, length, take, drop, refl, arith}
use Rattle.text_bytes.specs.Blanks.{is_blank}
use Rattle.html_tokens.specs.Bytes.{lowered}
use Rattle.html_tokens.specs.Names.{is_among}
use Rattle.html_tokens.specs.Words.{word_len, words_from}
use Rattle.html_tokens.proofs.WordLemmas.{next_word}
use Rattle.premise_finds.specs.Texts.{has_word}

pub blank_first : (names : List (List ℕ)) (b : ℕ) (bs : List ℕ) → is_blank b ≡ true → has_word names (b ∷ bs) ≡ has_word names bs
unfolding has_word words_from
blank_first names b bs is = rw is refl

pub word_found : (names : List (List ℕ)) (b : ℕ) (bs : List ℕ) → is_blank b ≡ false → is_among names (lowered (take (word_len (b ∷ bs)) (b ∷ bs))) ≡ true → has_word names (b ∷ bs) ≡ true
unfolding has_word
word_found names b bs is there = rw (next_word b bs is, there) refl

pub other_word : (names : List (List ℕ)) (b : ℕ) (bs : List ℕ) → is_blank b ≡ false → is_among names (lowered (take (word_len (b ∷ bs)) (b ∷ bs))) ≡ false
    → has_word names (b ∷ bs) ≡ has_word names (drop (word_len (b ∷ bs)) (b ∷ bs))
unfolding has_word
other_word names b bs is other = rw (next_word b bs is, other) refl

pub no_words : (names : List (List ℕ)) (bs : List ℕ) → length bs ≡ 0 → has_word names bs ≡ false
unfolding has_word words_from
no_words names [] none = refl
no_words names (b ∷ bs) none = absurd (omega arith)

-- The words of a text, one after the other.
use Rattle.std.proofs.Common.{◌≡◌, ℕ, Bool, true, false, if◌then◌else◌, List, [], ◌∷◌, ◌++◌, length, take, drop, filter, refl, sym, ap, ◌∙◌, arith}
use Rattle.std.proofs.lemmas.List.{append_assoc}
use Rattle.text_bytes.specs.Blanks.{is_blank}
use Rattle.html_tokens.specs.Words.{word_len, words_from}
use Rattle.html_tokens.proofs.WordLemmas.{next_word}

pub blank_first : (b : ℕ) (bs : List ℕ) → is_blank b ≡ true → words_from 0 (b ∷ bs) ≡ words_from 0 bs
unfolding words_from
blank_first b bs is = rw is refl

pub word_first : (b : ℕ) (bs : List ℕ) → is_blank b ≡ false → words_from 0 (b ∷ bs) ≡ take (word_len (b ∷ bs)) (b ∷ bs) ∷ words_from 0 (drop (word_len (b ∷ bs)) (b ∷ bs))
word_first b bs is = next_word b bs is

pub no_words : (bs : List ℕ) → length bs ≡ 0 → words_from 0 bs ≡ []
unfolding words_from
no_words [] none = refl
no_words (b ∷ bs) none = absurd (omega arith)

-- ---- words that are kept

pub kept_first : (keeps : List ℕ → Bool) (w : List ℕ) (ws : List (List ℕ)) → filter keeps (w ∷ ws) ≡ filter keeps (w ∷ []) ++ filter keeps ws
kept_first keeps w ws = elim (keeps w) as (λ b. (if b then w ∷ filter keeps ws else filter keeps ws) ≡ (if b then w ∷ [] else []) ++ filter keeps ws) [
  | true ↦ refl
  | false ↦ refl
]

pub kept_next : (keeps : List ℕ → Bool) (found : List (List ℕ)) (w : List ℕ) (ws total : List (List ℕ)) → found ++ filter keeps (w ∷ ws) ≡ total → (found ++ filter keeps (w ∷ [])) ++ filter keeps ws ≡ total
kept_next keeps found w ws total is = append_assoc found (filter keeps (w ∷ [])) (filter keeps ws) ∙ ap (λ vs. found ++ vs) (sym (kept_first keeps w ws)) ∙ is

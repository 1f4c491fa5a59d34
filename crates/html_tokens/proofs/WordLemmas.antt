-- The words of a text, one after the other.
use Rattle.std.proofs.Common.{◌≡◌, ℕ, zero, suc, ◌+◌, ◌-◌, false, List, [], ◌∷◌, take, drop, refl, ap, arith}
use Rattle.text_bytes.specs.Blanks.{is_blank}
use Rattle.html_tokens.specs.Words.{word_len, words_from}

skips : (n : ℕ) (bs : List ℕ) → words_from n bs ≡ words_from 0 (drop n bs)
unfolding words_from
skips zero bs = refl
skips (suc n) [] = refl
skips (suc n) (b ∷ bs) = skips n bs

pub some_word : (b : ℕ) (bs : List ℕ) → is_blank b ≡ false → word_len (b ∷ bs) ≡ 1 + word_len bs
some_word b bs is = rw is refl

behind_word : (m n b : ℕ) (bs : List ℕ) → m ≡ 1 + n → words_from (m - 1) bs ≡ words_from 0 (drop m (b ∷ bs))
behind_word m n b bs more =
    let whole : m ≡ suc n = omega arith in
    let less : suc n - 1 ≡ n = omega arith in
    rw (whole, less) (skips n bs)

pub next_word : (b : ℕ) (bs : List ℕ) → is_blank b ≡ false → words_from 0 (b ∷ bs) ≡ take (word_len (b ∷ bs)) (b ∷ bs) ∷ words_from 0 (drop (word_len (b ∷ bs)) (b ∷ bs))
unfolding words_from
next_word b bs is = rw is (rw is at (ap (λ ws. take (word_len (b ∷ bs)) (b ∷ bs) ∷ ws) (behind_word (word_len (b ∷ bs)) (word_len bs) b bs (some_word b bs is))))

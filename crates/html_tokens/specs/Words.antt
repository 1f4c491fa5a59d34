-- The words of a text, which white space parts.
use Rattle.std.specs.Prelude.{ℕ, zero, suc, ◌-◌, not, if◌then◌else◌, List, [], ◌∷◌, take}
use Rattle.std.specs.List.{prefix_len}
use Rattle.text_bytes.specs.Blanks.{is_blank}

-- the length of the word that a text begins with
abbrev pub word_len : List ℕ → ℕ
word_len bs = prefix_len (λ b. not (is_blank b)) bs

-- The words of a text, which white space parts. `skip` bytes are left of the last one.
unfoldable pub words_from : ℕ → List ℕ → List (List ℕ)
words_from skip [] = []
words_from (suc skip) (b ∷ bs) = words_from skip bs
words_from zero (b ∷ bs) = if is_blank b then words_from 0 bs else take (word_len (b ∷ bs)) (b ∷ bs) ∷ words_from (word_len (b ∷ bs) - 1) bs

abbrev pub words : List ℕ → List (List ℕ)
words text = words_from 0 text

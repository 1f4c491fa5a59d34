-- Small questions about a text's bytes.
use Rattle.std.specs.Prelude.{ℕ, ◌==◌, not, nat_eq, Bool, true, false, if◌then◌else◌, List, [], ◌∷◌, length, take, drop}
use Rattle.std.specs.List.{starts_with, prefix_len, list_any}
use Rattle.std.specs.Str.{str_eq_ignore_ascii_case}
use Rattle.text_bytes.specs.Blanks.{is_blank}
use Rattle.html_tokens.specs.Names.{is_among}
use Rattle.html_tokens.specs.Bytes.{lowered}
use Rattle.html_tokens.specs.Words.{words}

abbrev pub begins : List ℕ → List ℕ → Bool
begins front bs = starts_with nat_eq bs front

abbrev pub past_blanks : List ℕ → List ℕ
past_blanks bs = drop (prefix_len is_blank bs) bs

-- whether a text has more than white space
abbrev pub is_seen : List ℕ → Bool
is_seen bs = not (prefix_len is_blank bs == length bs)

-- whether a text begins with a word, without regard to ASCII case
abbrev pub begins_word : List ℕ → List ℕ → Bool
begins_word word bs = str_eq_ignore_ascii_case (take (length word) bs) word

-- whether a word stands anywhere in a text, without regard to ASCII case
unfoldable pub has_somewhere : List ℕ → List ℕ → Bool
has_somewhere word [] = false
has_somewhere word (b ∷ bs) = if begins_word word (b ∷ bs) then true else has_somewhere word bs

-- whether one of the words of a text is among these, without regard to ASCII case
unfoldable pub has_word : List (List ℕ) → List ℕ → Bool
has_word names text = list_any (λ w. is_among names (lowered w)) (words text)

-- Strings that are joined by `+`.
use Rattle.std.specs.Prelude.{ℕ, ◌==◌, ◌&&◌, ◌||◌, Bool, false, if◌then◌else◌, List, [], ◌∷◌, ◌++◌, drop, codes, Option, Some, None, option_map}
use Rattle.std.specs.List.{prefix_len}
use Rattle.std.specs.Str.{byte}
use Rattle.text_bytes.specs.Blanks.{is_blank}
use Rattle.jq_words.specs.Words.{Word, is_mark, is_text, letters_of, is_form}

unfoldable pub with_letters : List ℕ → Option (List ℕ) → Option (List ℕ)
with_letters letters more = option_map (λ l. letters ++ l) more

-- the letters of words that are nothing but Texts, joined
unfoldable pub texts : List Word → Option (List ℕ)
texts [] = None
texts (t ∷ []) = if is_text t then Some (letters_of t) else None
texts (t ∷ m ∷ ws) = if is_text t && is_mark (codes "+") m then with_letters (letters_of t) (texts ws) else None

-- the same, before a closing bracket that is the last word
unfoldable pub closed_texts : List Word → Option (List ℕ)
closed_texts [] = None
closed_texts (t ∷ []) = None
closed_texts (t ∷ m ∷ ws) =
    if is_text t && is_mark (codes "+") m then with_letters (letters_of t) (closed_texts ws)
    else if is_text t && is_form (is_mark (codes ")") ∷ []) (m ∷ ws) then Some (letters_of t)
    else None

-- whether the words begin with Texts, joined, and a closing bracket
unfoldable pub holds_texts : List Word → Bool
holds_texts [] = false
holds_texts (t ∷ []) = false
holds_texts (t ∷ m ∷ ws) = is_text t && (is_mark (codes ")") m || (is_mark (codes "+") m && holds_texts ws))

abbrev pub begins_angle : List ℕ → Bool
begins_angle [] = false
begins_angle (b ∷ bs) = b == byte "<"

-- letters are markup where the first past white space is `<`
unfoldable pub is_markup : List ℕ → Bool
is_markup letters = begins_angle (drop (prefix_len is_blank letters) letters)

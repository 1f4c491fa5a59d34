-- Where markup begins, and how far what is passed over goes.
use Rattle.std.specs.Prelude.{ℕ, ◌==◌, ◌||◌, ◌&&◌, Bool, false, if◌then◌else◌, nat_eq, List, [], ◌∷◌, length, take, drop, codes}
use Rattle.std.specs.Char.{is_ascii_alphabetic}
use Rattle.std.specs.List.{starts_with}
use Rattle.std.specs.Str.{byte, str_eq_ignore_ascii_case}
use Rattle.text_bytes.specs.Marks.{behind_mark}
use Rattle.html_tokens.specs.Bytes.{ends_tag_name}

-- behind the first `>`, or the end
abbrev pub behind_angle : List ℕ → List ℕ
behind_angle bs = behind_mark (codes ">") bs

-- behind the first `-->`, or the end
abbrev pub behind_arrow : List ℕ → List ℕ
behind_arrow bs = behind_mark (codes "-->") bs

-- whether the first byte ends the name of a tag
abbrev pub is_ended : List ℕ → Bool
is_ended [] = false
is_ended (b ∷ bs) = ends_tag_name b

-- whether an end tag of this name begins here
unfoldable pub begins_end_of : List ℕ → List ℕ → Bool
begins_end_of name bs =
    starts_with nat_eq bs (codes "</") && str_eq_ignore_ascii_case (take (length name) (drop 2 bs)) name && is_ended (drop (length name) (drop 2 bs))

-- from the first end tag of this name on, or the end
unfoldable pub behind_raw : List ℕ → List ℕ → List ℕ
behind_raw name [] = []
behind_raw name (b ∷ bs) = if begins_end_of name (b ∷ bs) then b ∷ bs else behind_raw name bs

-- whether a byte behind `<` makes it markup
abbrev pub opens_markup : ℕ → Bool
opens_markup b = is_ascii_alphabetic b || b == byte "/" || b == byte "!" || b == byte "?"

-- whether markup begins here; any other byte is text
unfoldable pub begins_markup : List ℕ → Bool
begins_markup (b ∷ c ∷ bs) = b == byte "<" && opens_markup c
begins_markup bs = false

-- from the first markup on, or the end
unfoldable pub behind_text : List ℕ → List ℕ
behind_text [] = []
behind_text (b ∷ bs) = if begins_markup (b ∷ bs) then b ∷ bs else behind_text bs

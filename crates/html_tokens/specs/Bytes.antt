-- Classes of the bytes of a page, and where names and values end.
use Rattle.std.specs.Prelude.{ℕ, ◌==◌, ◌||◌, Bool, not, List}
use Rattle.std.specs.Str.{byte, str_to_ascii_lowercase}
use Rattle.text_bytes.specs.Blanks.{is_blank}

-- what stands between the attributes of a tag
abbrev pub is_filler : ℕ → Bool
is_filler b = is_blank b || b == byte "/"

-- ends the name of a tag
abbrev pub ends_tag_name : ℕ → Bool
ends_tag_name b = is_filler b || b == byte ">"

abbrev pub in_tag_name : ℕ → Bool
in_tag_name b = not (ends_tag_name b)

-- goes on in an attribute's name, which may also begin with a `=`
abbrev pub in_attribute_name : ℕ → Bool
in_attribute_name b = not (ends_tag_name b || b == byte "=")

-- goes on in a value without quotes
abbrev pub in_bare_value : ℕ → Bool
in_bare_value b = not (is_blank b || b == byte ">")

abbrev pub is_not : ℕ → ℕ → Bool
is_not other b = not (b == other)

-- a name without its case
abbrev pub lowered : List ℕ → List ℕ
lowered = str_to_ascii_lowercase

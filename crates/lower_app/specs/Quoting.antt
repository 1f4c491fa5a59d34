-- Texts of the output, in quotes.
use Rattle.std.specs.Prelude.{ℕ, ◌==◌, ◌||◌, if◌then◌else◌, List, [], ◌∷◌, ◌++◌, codes}
use Rattle.std.specs.List.{flat_map}
use Rattle.std.specs.Str.{byte}

-- a byte in quotes
abbrev pub in_quotes : ℕ → List ℕ
in_quotes b =
    if b == byte "\\" || b == byte "'" then byte "\\" ∷ b ∷ []
    else if b == 10 then codes "\\n"
    else b ∷ []

-- a text in quotes
unfoldable pub quoted : List ℕ → List ℕ
quoted text = codes "'" ++ flat_map in_quotes text ++ codes "'"

-- Marks that write.
use Rattle.std.specs.Prelude.{ℕ, ◌&&◌, ◌||◌, Bool, false, if◌then◌else◌, List, [], ◌∷◌, Option, Some, None, codes}
use Rattle.code_scan.specs.declared.token.Token.{Token}
use Rattle.code_scan.specs.Spellings.{is_written}
use Rattle.code_places.specs.declared.place.Write.{Write}
use Rattle.code_places.specs.declared.place.Write.TheVariants.{Whole, Made}
use Rattle.code_places.specs.Words.{begins, begins_mark}

-- the value behind these is what is written, if anything is
abbrev pub whole_marks : List (List ℕ)
whole_marks = codes "=" ∷ codes "||=" ∷ codes "&&=" ∷ codes "??=" ∷ []

-- what these write is made of what was there
abbrev pub made_marks : List (List ℕ)
made_marks = codes "+=" ∷ codes "-=" ∷ codes "++" ∷ codes "--" ∷ []

-- so do these before what is an `=`, `<=` or `>=` by itself
abbrev pub signs : List (List ℕ)
signs = codes "*" ∷ codes "**" ∷ codes "/" ∷ codes "%" ∷ codes "&" ∷ codes "|" ∷ codes "^" ∷ codes "<" ∷ codes ">" ∷ []

abbrev pub equals : List (List ℕ)
equals = codes "=" ∷ codes "<=" ∷ codes ">=" ∷ []

-- `>` `>=`
unfoldable pub shifts : List ℕ → List Token → Bool
shifts text [] = false
shifts text (t ∷ ts) = is_written text (codes ">") t && begins text (codes ">=") ts

unfoldable pub begins_signed : List ℕ → List Token → Bool
begins_signed text [] = false
begins_signed text (t ∷ ts) = begins_mark text signs (t ∷ ts) && (begins_mark text equals ts || shifts text ts)

-- what tokens write that stand behind a member
unfoldable pub write_of : List ℕ → List Token → Option Write
write_of text ts =
    if begins_mark text whole_marks ts then Some Whole
    else if begins_mark text made_marks ts || begins_signed text ts then Some Made
    else None

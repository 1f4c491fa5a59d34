-- Lines, as JavaScript counts them.
use Rattle.std.specs.Prelude.{ℕ, ◌&&◌, ◌||◌, ◌==◌, not, Bool, true, false, if◌then◌else◌, List, [], ◌∷◌, nat_eq}
use Rattle.std.specs.List.{starts_with}

-- whether a line ends at the front: at an LF, at a CR that no LF follows, at one of the characters U+2028 and U+2029
unfoldable pub begins_break : List ℕ → Bool
begins_break [] = false
begins_break (b ∷ bs) =
    b == 10 || (b == 13 && not (starts_with nat_eq bs (10 ∷ [])))
    || starts_with nat_eq (b ∷ bs) (0xE2 ∷ 0x80 ∷ 0xA8 ∷ []) || starts_with nat_eq (b ∷ bs) (0xE2 ∷ 0x80 ∷ 0xA9 ∷ [])

-- the bytes from the end of the line on
unfoldable pub behind_line : List ℕ → List ℕ
behind_line [] = []
behind_line (b ∷ bs) = if begins_break (b ∷ bs) then b ∷ bs else behind_line bs

-- whether a line ends anywhere in the bytes
unfoldable pub has_break : List ℕ → Bool
has_break [] = false
has_break (b ∷ bs) = if begins_break (b ∷ bs) then true else has_break bs

-- Names.
use Rattle.std.specs.Prelude.{ℕ, ◌&&◌, ◌||◌, nat_le, is_none, Bool, false, if◌then◌else◌, List, [], ◌∷◌}
use Rattle.js_scan.specs.Bytes.{is_in_name}
use Rattle.code_scan.specs.Blanks.{wide_blank}

-- whether a byte of a character past ASCII stands at the front, which is no white space
abbrev pub begins_letter : List ℕ → Bool
begins_letter [] = false
begins_letter (b ∷ bs) = nat_le 128 b && is_none (wide_blank (b ∷ bs))

-- whether a byte that a name may go on with stands at the front
abbrev pub goes_on : List ℕ → Bool
goes_on [] = false
goes_on (b ∷ bs) = is_in_name b || begins_letter (b ∷ bs)

-- the bytes behind those
unfoldable pub behind_name : List ℕ → List ℕ
behind_name [] = []
behind_name (b ∷ bs) = if goes_on (b ∷ bs) then behind_name bs else b ∷ bs

-- What is said of a finding: the first bytes of its text.
use Rattle.std.specs.Prelude.{ℕ, zero, suc, ◌==◌, ◌||◌, not, nat_lt, Bool, true, if◌then◌else◌, List, [], ◌∷◌, length, take, drop, slice_range}
use Rattle.std.specs.List.{prefix_len}
use Rattle.premise_finds.specs.declared.findings.Finding.{Finding}
use Rattle.premise_finds.specs.declared.details.TheConstants.{MOST_SHOWN}

-- a line goes on
abbrev pub in_line : ℕ → Bool
in_line b = not (b == 10 || b == 13)

-- whether a character begins with the byte, if there is one
abbrev pub begins_character : List ℕ → Bool
begins_character [] = true
begins_character (b ∷ bs) = nat_lt b 128 || nat_lt 191 b

-- how many of the first n bytes are whole characters
unfoldable pub whole_len : ℕ → List ℕ → ℕ
whole_len zero bs = zero
whole_len (suc n) bs = if begins_character (drop (suc n) bs) then suc n else whole_len n bs

-- the bytes of a finding up to the end of its line, no more than a line of the report shows of them
unfoldable pub shown_of : List ℕ → List ℕ
shown_of found = let line = take (prefix_len in_line found) found in if nat_lt MOST_SHOWN (length line) then take (whole_len MOST_SHOWN line) line else line

abbrev pub found_text : List ℕ → Finding → List ℕ
found_text text f = slice_range text f.from f.to

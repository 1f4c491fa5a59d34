-- The line and the column of a place in a text.
use Rattle.std.specs.Prelude.{ℕ, ◌+◌, ◌==◌, not, List, take, count_by}
use Rattle.std.specs.List.{suffix_len}
use Rattle.tp_base.specs.declared.places.Place.{Place}

-- 1, and the line feeds before the place
abbrev pub line_of : List ℕ → ℕ → ℕ
line_of text at = 1 + count_by (λ b. b == 10) (take at text)

-- 1, and the bytes behind the last line feed before the place
abbrev pub column_of : List ℕ → ℕ → ℕ
column_of text at = 1 + suffix_len (λ b. not (b == 10)) (take at text)

-- both; behind the text's end they are those of the end
abbrev pub place_at : List ℕ → ℕ → Place
place_at text at = record { line = line_of text at; column = column_of text at }

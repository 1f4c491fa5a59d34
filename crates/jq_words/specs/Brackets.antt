-- Brackets, and how far an argument reaches.
--     brackets_behind     those that are open behind a word
--     argument_len        how many words an argument has
--     argument_count      how many arguments a list has
use Rattle.std.specs.Prelude.{ℕ, ◌+◌, ◌&&◌, ◌||◌, not, Bool, true, false, if◌then◌else◌, List, [], ◌∷◌, take, drop, codes, Option, Some, None, is_some}
use denote.Enum.Bare.{sameb}
use Rattle.jq_words.specs.contracts.brackets.Bracket.{the_type}
use Rattle.jq_words.specs.declared.brackets.Bracket.{Bracket}
use Rattle.jq_words.specs.declared.brackets.Bracket.TheVariants.{Round, Square, Curly}
use Rattle.jq_words.specs.Words.{Word, is_mark}

unfoldable pub opened_by : Word → Option Bracket
opened_by w =
    if is_mark (codes "(") w then Some Round
    else if is_mark (codes "[") w then Some Square
    else if is_mark (codes "{") w then Some Curly
    else None

unfoldable pub closed_by : Word → Option Bracket
closed_by w =
    if is_mark (codes ")") w then Some Round
    else if is_mark (codes "]") w then Some Square
    else if is_mark (codes "}") w then Some Curly
    else None

-- whether this is the innermost of the open brackets, which stand from the innermost outward
abbrev pub is_innermost : Bracket → List Bracket → Bool
is_innermost b [] = false
is_innermost b (o ∷ os) = sameb the_type o b

abbrev pub is_empty : {A : Type 0} → List A → Bool
is_empty [] = true
is_empty (x ∷ xs) = false

abbrev pub closes_other : Option Bracket → List Bracket → Bool
closes_other None os = false
closes_other (Some b) os = not (is_innermost b os)

-- whether a word closes a bracket that isn't the innermost open one
unfoldable pub closes_outer : List Bracket → Word → Bool
closes_outer os w = closes_other (closed_by w) os

abbrev pub pushed : Option Bracket → List Bracket → List Bracket
pushed None os = os
pushed (Some b) os = b ∷ os

-- the brackets that are open behind a word, which closes none but the innermost
unfoldable pub brackets_behind : List Bracket → Word → List Bracket
brackets_behind os w = if is_some (closed_by w) then drop 1 os else pushed (opened_by w) os

-- those behind some words
unfoldable pub left_open : List Bracket → List Word → List Bracket
left_open os [] = os
left_open os (w ∷ ws) = left_open (brackets_behind os w) ws

-- An argument goes up to a bracket that it doesn't open, or to a `;` outside brackets; up to a `,` too, where there may be others.
unfoldable pub ends_argument : Bool → List Bracket → Word → Bool
ends_argument others os w = closes_outer os w || (is_empty os && (is_mark (codes ";") w || (others && is_mark (codes ",") w)))

-- how many words are left of an argument in which these brackets are open
unfoldable pub argument_len : Bool → List Bracket → List Word → ℕ
argument_len others os [] = 0
argument_len others os (w ∷ ws) = if ends_argument others os w then 0 else 1 + argument_len others (brackets_behind os w) ws

-- the next argument
abbrev pub argument : List Word → List Word
argument ws = take (argument_len true [] ws) ws

-- what is behind it
abbrev pub behind_argument : List Word → List Word
behind_argument ws = drop (argument_len true [] ws) ws

-- all arguments, with the commas between them; or the one argument where there are no others
abbrev pub arguments : List Word → List Word
arguments ws = take (argument_len false [] ws) ws

-- what is behind them
abbrev pub behind_arguments : List Word → List Word
behind_arguments ws = drop (argument_len false [] ws) ws

-- how many `,` stand outside brackets
unfoldable pub commas : List Bracket → List Word → ℕ
commas os [] = 0
commas os (w ∷ ws) = (if is_empty os && is_mark (codes ",") w then 1 else 0) + commas (brackets_behind os w) ws

-- how many arguments a list has, which begins with these words
unfoldable pub argument_count : List Word → ℕ
argument_count ws = if is_empty (arguments ws) then 0 else 1 + commas [] (arguments ws)

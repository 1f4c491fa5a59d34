-- Arguments of calls, as words and as Texts.
--     some_argument       the words of one
--     text_argument       the letters of Texts
use Rattle.std.specs.Prelude.{ℕ, if◌then◌else◌, List, length, drop, Option, Some, None, Ok, Err}
use Rattle.jq_words.specs.declared.faults.ScriptFault.TheVariants.{ComplexArgument}
use Rattle.jq_words.specs.Words.{Word, place, Outcome, unexpected}
use Rattle.jq_words.specs.Brackets.{is_empty, argument, behind_argument}
use Rattle.jq_words.specs.Texts.{texts}

-- an argument, of which there has to be something, and what is behind it
unfoldable pub some_argument : ℕ → List Word → Outcome (List Word × List Word)
some_argument size ws = if is_empty (argument ws) then unexpected size ws else Ok (argument ws, behind_argument ws)

abbrev pub text_or : ℕ → List Word → Option (List ℕ) → Outcome (List ℕ × ℕ × List Word)
text_or size ws None = Err (ComplexArgument (place size ws))
text_or size ws (Some letters) = Ok (letters, place size ws, drop (length (argument ws)) ws)

-- Texts, as an argument: their letters, the offset of the first, and the words behind them
unfoldable pub text_argument : ℕ → List Word → Outcome (List ℕ × ℕ × List Word)
text_argument size ws = if is_empty (argument ws) then unexpected size ws else text_or size ws (texts (argument ws))

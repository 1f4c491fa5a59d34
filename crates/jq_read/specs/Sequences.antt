-- Sequences of statements as they are read one after another, with a count of the branches that are open.
--     turn      a statement, or a condition, and what stands between it and the next
use Rattle.std.specs.Prelude.{ℕ, ◌+◌, ◌-◌, ◌==◌, ◌&&◌, ◌||◌, not, Bool, true, false, if◌then◌else◌, List, [], drop, codes, Ok, Err}
use Rattle.jq_words.specs.declared.faults.ScriptFault.TheVariants.{UnknownForm}
use Rattle.jq_words.specs.Words.{Word, is_mark, begins_name, Outcome, ◌>>=◌}
use Rattle.jq_read.specs.declared.sequences.Between.{Between}
use Rattle.jq_read.specs.States.{Context, State, size}
use Rattle.jq_read.specs.Statements.{Blocks, statement_as, is_branch, form_at}

-- Between two statements none is wanted. Behind a condition and behind `else` a statement is wanted. An `else` goes with the innermost
-- `if` that has none yet; `ifs` counts those that may still get one.
abbrev pub begin : Between
begin = record { wanted = false; ifs = 0 }

abbrev pub behind_condition : Between → Between
behind_condition b = record { wanted = true; ifs = b.ifs + 1 }

-- behind a statement, before some words: whether its `if` goes on
abbrev pub goes_else : Between → List Word → Bool
goes_else b ws = not (b.ifs == 0) && begins_name (codes "else") ws

abbrev pub behind_statement : Between → List Word → Between
behind_statement b ws = if goes_else b ws then record { wanted = true; ifs = b.ifs - 1 } else begin

abbrev pub behind_else : Between → List Word → List Word
behind_else b ws = if goes_else b ws then drop 1 ws else ws

unfoldable pub is_over : Bool → Between → Word → Bool
is_over in_block b w = in_block && not b.wanted && is_mark (codes "}") w

-- what is behind a statement, or behind a condition
abbrev pub and_between : Bool → Between → State × List Word → Between × State × List Word
and_between true b r = (behind_condition b, r.0, r.1)
and_between false b r = (behind_statement b r.1, r.0, behind_else b r.1)

unfoldable pub turn : Blocks → ℕ → Context → Between → State → List Word → Outcome (Between × State × List Word)
turn blocks room c b s ws = statement_as (form_at s ws) blocks room c s ws >>= λ r. Ok (and_between (is_branch (form_at s ws)) b r)

-- where a block isn't closed, or a statement is wanted, the file may not end
unfoldable pub at_file_end : Bool → Between → Context → State → Outcome (State × List Word)
at_file_end in_block b c s = if in_block || b.wanted then Err (UnknownForm (size c)) else Ok (s, [])

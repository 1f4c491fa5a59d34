-- What stands before the blocks of functions, and between the arguments of a call.
use Rattle.std.specs.Prelude.{ℕ, ◌==◌, Bool, if◌then◌else◌, List, drop, codes, Ok}
use Rattle.jq_words.specs.Words.{Word, is_any_name, is_name_among, first_is, begins_name, Outcome, ◌>>=◌, unexpected, want, want_open}
use Rattle.jq_words.specs.FreeLists.{Rules, free}

-- the words behind `function`
unfoldable pub want_function : ℕ → List Word → Outcome (List Word)
want_function size ws = if begins_name (codes "function") ws then Ok (drop 1 ws) else unexpected size ws

-- behind the name of a function, which it needn't have
unfoldable pub behind_name : List Word → List Word
behind_name ws = if first_is is_any_name ws then drop 1 ws else ws

-- what is handed over that is no function: the name of a declared one, which is read where it stands, or a list, where one may stand
unfoldable pub handed_other : Bool → ℕ → Rules → List Word → Outcome (List Word)
handed_other lists size r ws =
    if lists then free size r ws
    else if first_is (is_name_among r.declared) ws then Ok (drop 1 ws)
    else unexpected size ws

-- behind one of several: a comma where others follow
unfoldable pub behind_one : ℕ → ℕ → List Word → Outcome (List Word)
behind_one size others ws = if others == 0 then Ok ws else want size (codes ",") ws

-- behind J: the words behind `(document).ready`
unfoldable pub behind_document : ℕ → ℕ → List Word → Outcome (List Word)
behind_document size room ws = want_open size room (codes "(") ws >>= λ inside. Ok (drop 4 inside)

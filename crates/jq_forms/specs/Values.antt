-- Whether a declared value is a chain: it begins like one, a script may have each of its calls, and none reads a value.
use Rattle.std.specs.Prelude.{ℕ, zero, suc, ◌-◌, ◌==◌, ◌&&◌, ◌||◌, not, Bool, true, if◌then◌else◌, List, [], ◌∷◌, length, drop, codes, is_some}
use Rattle.jq_words.specs.Words.{Word, is_mark, is_any_name, is_among, is_name_among, fits, first_is, begins, spelled}
use Rattle.jq_words.specs.Brackets.{argument_count}
use Rattle.jq_words.specs.Calls.{row_of}
use Rattle.jq_cursor.specs.Keywords.{jquery, is_name_besides}
use Rattle.jq_cursor.specs.Lists.{Extent, extent}

-- so many arguments read a value: `val` and `text` without one, `attr` with one, `css` and `data` without one or with a single one that doesn't begin with a brace
abbrev pub reads_with : List ℕ → ℕ → List Word → Bool
reads_with name count inside =
    (is_among (codes "val" ∷ codes "text" ∷ []) name && count == 0)
    || (is_among (codes "attr" ∷ []) name && count == 1)
    || (is_among (codes "css" ∷ codes "data" ∷ []) name && (count == 0 || (count == 1 && not (begins (codes "{") inside))))

unfoldable pub reads_value : List ℕ → List Word → Bool
reads_value name inside = reads_with name (argument_count inside) inside

-- The words behind a list and its closing bracket; where it isn't closed, none, so that nothing more is asked.
abbrev pub behind_extent : Extent → List Word
behind_extent e = if e.whole && begins (codes ")") e.behind then drop 1 e.behind else []

unfoldable pub behind_list : List Word → List Word
behind_list inside = behind_extent (extent inside)

-- whether a script may have a call
abbrev pub is_known : Bool → List ℕ → Bool
is_known exact name = is_some (row_of exact name)

-- a name behind a `.`, with its arguments: a call that a script may have and that reads no value
unfoldable pub is_chain_call : Bool → List Word → Bool
is_chain_call exact ws = fits (is_any_name ∷ is_mark (codes "(") ∷ []) ws && is_known exact (spelled ws) && not (reads_value (spelled ws) (drop 2 ws))

-- The calls of a value, each with its `.`; `skip` words are left of the last one.
unfoldable pub are_chain_calls : Bool → ℕ → List Word → Bool
are_chain_calls exact skip [] = true
are_chain_calls exact (suc skip) (w ∷ ws) = are_chain_calls exact skip ws
are_chain_calls exact zero (w ∷ ws) =
    if is_mark (codes ".") w && first_is is_any_name ws
    then is_chain_call exact ws && are_chain_calls exact (length ws - length (behind_list (drop 2 ws))) ws
    else true

-- whether a name stands first, which may be bound to a chain, and isn't J
abbrev pub begins_bound : Bool → List Word → Bool
begins_bound bound ws = first_is (is_name_besides jquery) ws && bound

-- whether a value that begins with these words, the first of which may be bound to a chain, is a chain
unfoldable pub is_chain : Bool → Bool → List Word → Bool
is_chain exact bound ws =
    if fits (is_name_among jquery ∷ is_mark (codes "(") ∷ []) ws then are_chain_calls exact 0 (behind_list (drop 2 ws))
    else begins_bound bound ws && are_chain_calls exact 0 (drop 1 ws)

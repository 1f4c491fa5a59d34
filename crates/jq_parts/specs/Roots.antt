-- The beginnings of chains. J stands for `$` or `jQuery`, and Texts for string literals joined by `+`.
use Rattle.std.specs.Prelude.{ℕ, if◌then◌else◌, List, [], ◌∷◌, drop, codes, Option, Some, None, Ok, Err}
use Rattle.jq_words.specs.declared.faults.ScriptFault.TheVariants.{ComplexArgument}
use Rattle.jq_words.specs.Words.{Word, is_mark, is_name, is_any_name, is_name_among, fits, is_form, place, spelled, Outcome, ◌>>=◌, unexpected, want, want_open}
use Rattle.jq_words.specs.Brackets.{is_empty, arguments, behind_arguments}
use Rattle.jq_words.specs.Texts.{texts, is_markup}
use Rattle.jq_cursor.specs.Keywords.{jquery, pages}
use Rattle.jq_parts.specs.Bindings.{Value, elements, everywhere, markup}
use Rattle.jq_parts.specs.Scopes.{Scope, used, this_at, matched_chain}
use Rattle.jq_cursor.specs.Selections.{selectors}
use Rattle.jq_parts.specs.Markup.{Grown, grown, forest}

-- the value of `this`, of document or window, or of a bound name
unfoldable pub named_root : ℕ → Scope → List Word → Outcome Value
named_root size scope ws =
    if is_form (is_name (codes "this") ∷ []) ws then (this_at scope (place size ws) >>= λ chain. Ok (elements chain))
    else if is_form (is_name_among pages ∷ []) ws then Ok everywhere
    else if is_form (is_any_name ∷ []) ws then used scope (spelled ws) (place size ws)
    else Err (ComplexArgument (place size ws))

-- the value of Texts at the offset `at`: markup, or the elements that a list of selectors matches
unfoldable pub lettered_root : ℕ → List ℕ → Grown → Outcome (Value × Grown)
lettered_root at letters g =
    if is_markup letters then (forest at letters g >>= λ f. Ok (markup f.0, f.1))
    else (selectors at letters g.names >>= λ r. Ok (elements (matched_chain r.0), grown r.1 g.nodes))

abbrev pub root_of : ℕ → Scope → List Word → Grown → Option (List ℕ) → Outcome (Value × Grown)
root_of size scope ws g (Some letters) = lettered_root (place size ws) letters g
root_of size scope ws g None = named_root size scope ws >>= λ v. Ok (v, g)

-- the value of the argument of J
unfoldable pub jquery_argument : ℕ → Scope → List Word → Grown → Outcome (Value × Grown)
jquery_argument size scope ws g = root_of size scope ws g (texts ws)

-- the value of the argument of J, in brackets; at most `room` brackets may still be opened
unfoldable pub wrapped_root : ℕ → ℕ → Scope → Grown → List Word → Outcome (Value × Grown × List Word)
wrapped_root size room scope g ws = do
  inside ← want_open size room (codes "(") ws
  given ← (if is_empty (arguments inside) then unexpected size inside else Ok (arguments inside))
  r ← jquery_argument size scope given g
  rest ← want size (codes ")") (behind_arguments inside)
  Ok (r.0, r.1, rest)

-- the value of J with its argument, or of a bound name
unfoldable pub root : ℕ → ℕ → Scope → Grown → List Word → Outcome (Value × Grown × List Word)
root size room scope g ws =
    if fits (is_name_among jquery ∷ is_mark (codes "(") ∷ []) ws then wrapped_root size room scope g (drop 1 ws)
    else (used scope (spelled ws) (place size ws) >>= λ v. Ok (v, g, drop 1 ws))

-- The parameters of a function.
use Rattle.std.specs.Prelude.{ℕ, if◌then◌else◌, List, [], ◌∷◌, ◌++◌, drop, codes, None, Ok, Err}
use Rattle.jq_words.specs.declared.faults.ScriptFault.TheVariants.{UnknownForm}
use Rattle.jq_words.specs.Words.{Word, is_mark, is_any_name, begins, Outcome, ◌>>=◌, want, want_name, want_open}
use Rattle.jq_parts.specs.Bindings.{Declaration}

-- a parameter hides earlier declarations of its name
abbrev pub hidden : List ℕ → Declaration
hidden name = record { name = name; value = None; under = [] }

-- further parameters, each behind a comma
unfoldable pub more_parameters : ℕ → List Declaration → List Word → Outcome (List Declaration × List Word)
more_parameters size ds [] = Ok (ds, [])
more_parameters size ds (w ∷ []) = if is_mark (codes ",") w then Err (UnknownForm size) else Ok (ds, w ∷ [])
more_parameters size ds (w ∷ n ∷ ws) =
    if is_mark (codes ",") w then (if is_any_name n then more_parameters size (ds ++ hidden n.spelling ∷ []) ws else Err (UnknownForm n.at))
    else Ok (ds, w ∷ n ∷ ws)

-- one or more parameters, and the closing bracket
unfoldable pub named_parameters : ℕ → List Declaration → List Word → Outcome (List Declaration × List Word)
named_parameters size ds ws = do
  first ← want_name size ws
  all ← more_parameters size (ds ++ hidden first.0 ∷ []) first.1
  rest ← want size (codes ")") all.1
  Ok (all.0, rest)

-- parameters in brackets; at most `room` brackets may still be opened
unfoldable pub parameters : ℕ → ℕ → List Declaration → List Word → Outcome (List Declaration × List Word)
parameters size room ds ws =
    want_open size room (codes "(") ws >>= λ inside. if begins (codes ")") inside then Ok (ds, drop 1 inside) else named_parameters size ds inside

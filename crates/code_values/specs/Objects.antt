-- Objects that are written out.
use Rattle.std.specs.Prelude.{ℕ, ◌+◌, ◌==◌, ◌&&◌, Bool, false, if◌then◌else◌, List, [], ◌∷◌, get_or, Option, Some, None, codes}
use Rattle.code_scan.specs.declared.token.Token.{Token}
use Rattle.code_scan.specs.Spellings.{is_written}
use Rattle.code_tokens.specs.declared.code.Code.{Code}
use Rattle.code_values.specs.declared.objects.Part.{Part}
use Rattle.code_values.specs.declared.objects.Part.TheVariants.{Pair, Other}
use Rattle.code_values.specs.declared.spans.Span.{Span}
use Rattle.code_values.specs.Arguments.{arguments}
use Rattle.code_values.specs.Outer.{span, begins, from_at, tokens_in}
use Rattle.code_values.specs.Values.{is_word}

-- whether the last token of a range is the bracket that belongs to its first one
abbrev pub closes_at : Span → Option ℕ → Bool
closes_at s None = false
closes_at s (Some other) = other + 1 == s.to

-- whether a value is `{ .. }`
abbrev pub is_object : List ℕ → Code → Span → Bool
is_object text code s = begins text (codes "{") (from_at code s.from) && closes_at s (get_or code.others s.from None)

-- whether tokens begin with a Name, a Text or a Number, and a `:`
unfoldable pub begins_pair : List ℕ → List Token → Bool
begins_pair text [] = false
begins_pair text (t ∷ []) = false
begins_pair text (t ∷ u ∷ ts) = is_word t.kind && is_written text (codes ":") u

-- `key: value`, or another part
unfoldable pub part_at : List ℕ → Code → Span → Part
part_at text code s = if begins_pair text (tokens_in code s) then Pair s.from (span (s.from + 2) s.to) else Other s

unfoldable pub parts_at : List ℕ → Code → List Span → List Part
parts_at text code [] = []
parts_at text code (s ∷ ss) = part_at text code s ∷ parts_at text code ss

-- the parts of an object, between the commas in its brackets; none where the value isn't one
unfoldable pub object_parts : List ℕ → Code → Span → List Part
object_parts text code s = if is_object text code s then parts_at text code (arguments text code s.from) else []

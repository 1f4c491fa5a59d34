-- Where the tokens of the subset are those of code as it is written.
use Rattle.std.specs.Prelude.{◌≡◌, ℕ, zero, suc, ◌-◌, ◌&&◌, ◌||◌, ◌==◌, not, is_none, Bool, true, false, List, [], ◌∷◌, take, map, Ok, nat_eq, codes}
use Rattle.std.specs.List.{starts_with}
use Rattle.std.specs.Str.{byte}
use Rattle.text_bytes.specs.OrderMark.{behind_order_mark}
use Rattle.js_scan.specs.declared.token.Token as script_token
use Rattle.js_scan.specs.declared.token.TokenKind as script_kind
use Rattle.js_scan.specs.Tokens.{script_tokens}
use Rattle.code_scan.specs.declared.state.Before.{Before}
use Rattle.code_scan.specs.declared.state.Before.TheVariants.{Keyword, Head}
use Rattle.code_scan.specs.declared.token.Token.{Token}
use Rattle.code_scan.specs.declared.token.TokenKind.{TokenKind}
use Rattle.code_scan.specs.declared.token.TokenKind.TheVariants.{Name, Number, Text, Mark}
use Rattle.code_scan.specs.Fronts.{front, begins_optional, further_len, begins_comment}
use Rattle.code_scan.specs.Lines.{begins_break}
use Rattle.code_scan.specs.States.{State, start, after}
use Rattle.code_scan.specs.Tokens.{found_in}

-- ---- plain texts

-- an LF ends each line, perhaps behind a CR, and no backslash is before a CR
abbrev pub is_plain_byte : ℕ → List ℕ → Bool
is_plain_byte b bs = (not (begins_break (b ∷ bs)) || b == 10) && not (b == byte "\\" && starts_with nat_eq bs (13 ∷ []))

unfoldable pub has_plain_lines : List ℕ → Bool
has_plain_lines [] = true
has_plain_lines (b ∷ bs) = is_plain_byte b bs && has_plain_lines bs

-- whether it isn't sure that a slash divides
abbrev pub is_unsure : Before → Bool
is_unsure Keyword = true
is_unsure Head = true
is_unsure before = false

abbrev pub is_plain_slash : Before → ℕ → List ℕ → Bool
is_plain_slash before b bs = not (b == byte "/" && is_unsure before) || starts_with nat_eq bs (codes "/") || starts_with nat_eq bs (codes "*")

-- what stands here is neither a mark that the subset doesn't have, nor a comment in the way of HTML, nor a slash that may begin a regular
-- expression
unfoldable pub is_plain_front : State → ℕ → List ℕ → Bool
is_plain_front s b bs =
    is_plain_slash s.before b bs && not (begins_comment s.new_line (b ∷ bs)) && not (begins_optional (b ∷ bs)) && is_none (further_len (b ∷ bs))

unfoldable pub are_plain_fronts : State → ℕ → List ℕ → Bool
are_plain_fronts s skip [] = true
are_plain_fronts s (suc skip) (b ∷ bs) = are_plain_fronts s skip bs
are_plain_fronts s zero (b ∷ bs) =
    let f = front s (b ∷ bs) in
    is_plain_front s b bs && are_plain_fronts (after s f.piece (take f.len (b ∷ bs))) (f.len - 1) bs

unfoldable pub is_plain_text : List ℕ → Bool
is_plain_text text = has_plain_lines (behind_order_mark text) && are_plain_fronts start 0 (behind_order_mark text)

-- ---- the same tokens

abbrev pub kind_as : script_kind.TokenKind → TokenKind
kind_as script_kind.TheVariants.Name = Name
kind_as script_kind.TheVariants.Number = Number
kind_as (script_kind.TheVariants.Text letters) = Text letters
kind_as script_kind.TheVariants.Mark = Mark

-- a token without what the subset's doesn't tell
abbrev pub Spot : Type 0
Spot = TokenKind × ℕ × ℕ

abbrev pub spot_of : Token → Spot
spot_of t = (t.kind, t.from, t.to)

abbrev pub spot_as : script_token.Token → Spot
spot_as t = (kind_as t.kind, t.from, t.to)

-- what the scanner of the subset reads of a plain text is what stands in it, kind for kind and byte for byte
pub record ReadsTheSame (text : List ℕ) : Type 0 where
  pub same : (ts : List script_token.Token) → script_tokens text ≡ Ok ts → is_plain_text text ≡ true → map spot_of (found_in text).tokens ≡ map spot_as ts

-- Tokens: what stands at a place, and a whole file of them.
use Rattle.std.specs.Prelude.{◌≡◌, ◌≤◌, ◌<◌, ℕ, zero, suc, ◌+◌, ◌-◌, ◌==◌, ◌||◌, not, Bool, true, false, if◌then◌else◌, List, [], ◌∷◌, ◌++◌, length, take, drop, Option, Some, None, Ok, Err, nat_eq, codes, bytes_eq}
use Rattle.std.specs.List.{starts_with, prefix_len}
use Rattle.std.specs.Str.{byte}
use Rattle.std.specs.Char.{is_ascii_digit}
use Rattle.std.specs.Str.Lossy.{utf8_valid_len}
use Rattle.text_bytes.specs.Blanks.{is_blank}
use Rattle.text_bytes.specs.OrderMark.{behind_order_mark}
use Rattle.js_scan.specs.declared.token.Token.{Token}
use Rattle.js_scan.specs.declared.token.TokenKind.{TokenKind}
use Rattle.js_scan.specs.declared.token.TokenKind.TheVariants.{Name, Number, Text, Mark}
use Rattle.js_scan.specs.declared.token.ScanFault.TheVariants.{NotUtf8, Regexp, BadByte}
use Rattle.js_scan.specs.Bytes.{begins_name, is_in_name, is_in_number, is_quote}
use Rattle.js_scan.specs.Comments.{is_in_line, behind_close}
use Rattle.js_scan.specs.Texts.{Outcome, ok_or, ◌>>=◌, quoted}
use Rattle.js_scan.specs.Marks.{mark_len}

-- what stands at a place, a token or nothing that counts, and how many bytes it has
abbrev pub Front : Type 0
Front = Outcome (Option TokenKind × ℕ)

-- a Text behind its opening quote
unfoldable pub text_front : ℕ → List ℕ → ℕ → Front
text_front quote behind at = do
  t ← quoted quote at behind
  Ok (Some (Text t.0), 1 + length behind - length t.1)

-- a comment behind its `/*`
unfoldable pub block_comment : List ℕ → ℕ → Front
block_comment behind at = do
  rest ← ok_or (behind_close behind) (BadByte at)
  Ok (None, 2 + length behind - length rest)

-- Behind a `/`: a comment, or the slash of a division, or else that of a regular expression.
unfoldable pub slash : Bool → List ℕ → ℕ → Front
slash divides behind at =
    if starts_with nat_eq behind (codes "/") then Ok (None, 1 + prefix_len is_in_line behind)
    else (if starts_with nat_eq behind (codes "*") then block_comment (drop 1 behind) at
    else (if divides then Ok (Some Mark, 1) else Err (Regexp at)))

unfoldable pub mark_front : List ℕ → ℕ → Front
mark_front bs at = do
  len ← ok_or (mark_len bs) (BadByte at)
  Ok (Some Mark, len)

-- what stands at the front of the bytes, which is the place `at` of the file; `divides` says whether a slash divides here
unfoldable pub front : Bool → List ℕ → ℕ → Front
front divides [] at = Err (BadByte at)
front divides (b ∷ bs) at =
    if is_blank b then Ok (None, 1)
    else (if begins_name b then Ok (Some Name, 1 + prefix_len is_in_name bs)
    else (if is_ascii_digit b then Ok (Some Number, 1 + prefix_len is_in_number bs)
    else (if is_quote b then text_front b bs at
    else (if b == byte "/" then slash divides bs at
    else mark_front (b ∷ bs) at))))

-- whether a slash divides behind a token of this kind and spelling; where it doesn't, it begins a regular expression
abbrev pub divides_behind : TokenKind → List ℕ → Bool
divides_behind Name spelling = not (bytes_eq spelling (codes "return") || bytes_eq spelling (codes "typeof"))
divides_behind Mark spelling = bytes_eq spelling (codes ")") || bytes_eq spelling (codes "]") || bytes_eq spelling (codes "}")
divides_behind Number spelling = true
divides_behind (Text letters) spelling = true

-- the same behind a front, where what is no token changes nothing
unfoldable pub divides_next : Option TokenKind → List ℕ → Bool → Bool
divides_next None spelling divides = divides
divides_next (Some kind) spelling divides = divides_behind kind spelling

-- what is left of a front: a token where there is one
abbrev pub tokens_of : Option TokenKind → ℕ → ℕ → List Token
tokens_of None from to = []
tokens_of (Some kind) from to = (record { kind = kind; from = from; to = to }) ∷ []

-- The tokens of the last bytes of a file of so many bytes. `skip` bytes are left of what was read last.
unfoldable pub tokens_from : ℕ → Bool → ℕ → List ℕ → Outcome (List Token)
tokens_from size divides skip [] = Ok []
tokens_from size divides (suc skip) (b ∷ bs) = tokens_from size divides skip bs
tokens_from size divides zero (b ∷ bs) = do
  let at = size - length (b ∷ bs)
  f ← front divides (b ∷ bs) at
  others ← tokens_from size (divides_next f.0 (take f.1 (b ∷ bs)) divides) (f.1 - 1) bs
  Ok (tokens_of f.0 at (at + f.1) ++ others)

-- The tokens of a file's bytes behind a byte order mark. No token stands before the first, so a slash divides only later.
abbrev pub tokens : List ℕ → Outcome (List Token)
tokens bs = tokens_from (length bs) false 0 (behind_order_mark bs)

-- the tokens of a file, which has to be UTF-8
abbrev pub script_tokens : List ℕ → Outcome (List Token)
script_tokens bs = if utf8_valid_len bs == length bs then tokens bs else Err (NotUtf8 (utf8_valid_len bs))

-- each span is within the bytes from `low` to `high`, has a byte at least, and begins where the one before it ends or later
abbrev pub InOrder : ℕ → ℕ → List Token → Type 0
InOrder low high [] = low ≤ high
InOrder low high (t ∷ ts) = (low ≤ t.from) × (t.from < t.to) × InOrder t.to high ts

-- a token's bytes, read by themselves, are that token
abbrev pub IsSpelled : List ℕ → Token → Type 0
IsSpelled bs t = front true (take (t.to - t.from) (drop t.from bs)) t.from ≡ Ok (Some t.kind, t.to - t.from)

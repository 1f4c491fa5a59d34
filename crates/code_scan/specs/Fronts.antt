-- What stands at a place of code.
use Rattle.std.specs.Prelude.{ℕ, ◌+◌, ◌-◌, ◌==◌, ◌&&◌, ◌||◌, nat_le, nat_eq, not, Bool, true, false, if◌then◌else◌, List, [], ◌∷◌, length, take, drop, Option, Some, None, codes}
use Rattle.std.specs.List.{starts_with, prefix_len}
use Rattle.std.specs.Str.{byte}
use Rattle.std.specs.Char.{is_ascii_digit}
use Rattle.text_bytes.specs.Blanks.{is_blank}
use Rattle.js_scan.specs.Bytes.{begins_name, is_in_number, is_quote}
use Rattle.js_scan.specs.Comments.{behind_close}
use Rattle.js_scan.specs.Marks.{first_len, mark_len}
use Rattle.code_scan.specs.declared.state.Before.{Before}
use Rattle.code_scan.specs.declared.state.Before.TheVariants.{Operator, Dot, Value, Keyword, Head, Block}
use Rattle.code_scan.specs.declared.texts.Ending.{Ending}
use Rattle.code_scan.specs.declared.texts.Ending.TheVariants.{Hole, Cut}
use Rattle.code_scan.specs.declared.token.TokenKind.TheVariants.{Name, Number, Text, Mark, Regex}
use Rattle.code_scan.specs.declared.token.Front.{Front}
use Rattle.code_scan.specs.declared.token.Piece.{Piece}
use Rattle.code_scan.specs.declared.token.Piece.TheVariants.{Passed, One, Opened, Shut, Reopened}
use Rattle.code_scan.specs.Blanks.{wide_blank}
use Rattle.code_scan.specs.Lines.{begins_break, behind_line, has_break}
use Rattle.code_scan.specs.Names.{behind_name}
pub use Rattle.code_scan.specs.Regexes.{behind_regex}
use Rattle.code_scan.specs.States.{State, is_in_hole}
pub use Rattle.code_scan.specs.Texts.{Quoted, read_quoted}

abbrev pub sure_front : Piece → ℕ → Front
sure_front piece len = record { piece = piece; len = len; sure = true }

-- ---- texts

abbrev pub text_piece : Ending → List ℕ → Piece
text_piece Hole letters = Opened letters
text_piece ending letters = One (Text letters)

abbrev pub hole_piece : Ending → List ℕ → Piece
hole_piece Hole letters = Reopened letters
hole_piece ending letters = Shut letters

abbrev pub is_cut : Ending → Bool
is_cut Cut = true
is_cut ending = false

-- a Text behind its opening quote, which is as much as stands before its end
abbrev pub text_front : List ℕ → Quoted → Front
text_front bs q = record { piece = text_piece q.ending q.letters; len = 1 + length bs - length q.rest; sure = q.sure && not (is_cut q.ending) }

-- the part of a template behind the `}` of a hole
abbrev pub hole_front : List ℕ → Quoted → Front
hole_front bs q = record { piece = hole_piece q.ending q.letters; len = 1 + length bs - length q.rest; sure = q.sure && not (is_cut q.ending) }

-- ---- what begins with a slash

-- a comment up to the end of its line, behind its first byte
abbrev pub line_comment : List ℕ → Bool → Front
line_comment bs sure = record { piece = Passed false; len = 1 + length bs - length (behind_line bs); sure = sure }

-- a comment behind its `/*`
abbrev pub comment_front : List ℕ → Option (List ℕ) → Front
comment_front bs None = record { piece = Passed true; len = 2 + length bs; sure = false }
comment_front bs (Some rest) = sure_front (Passed (has_break (take (length bs - length rest) bs))) (2 + length bs - length rest)

unfoldable pub block_comment : List ℕ → Front
block_comment bs = comment_front bs (behind_close bs)

-- a regular expression behind its slash; where none ends on the line, the slash is a mark
abbrev pub regex_front : Bool → List ℕ → Option (List ℕ) → Front
regex_front sure bs None = record { piece = One Mark; len = 1; sure = false }
regex_front sure bs (Some rest) = record { piece = One Regex; len = 1 + length bs - length (behind_name rest); sure = sure }

-- a slash that begins no comment
unfoldable pub lone_slash : Before → List ℕ → Front
lone_slash Value bs = sure_front (One Mark) 1
lone_slash Block bs = record { piece = One Mark; len = 1; sure = false }
lone_slash Operator bs = regex_front true bs (behind_regex false false bs)
lone_slash Dot bs = regex_front true bs (behind_regex false false bs)
lone_slash Keyword bs = regex_front false bs (behind_regex false false bs)
lone_slash Head bs = regex_front false bs (behind_regex false false bs)

unfoldable pub slash : Before → List ℕ → Front
slash before bs =
    if starts_with nat_eq bs (codes "/") then line_comment bs true
    else if starts_with nat_eq bs (codes "*") then block_comment (drop 1 bs)
    else lone_slash before bs

-- ---- comments in the way of HTML

unfoldable pub begins_comment : Bool → List ℕ → Bool
begins_comment new_line bs = starts_with nat_eq bs (codes "<!--") || (new_line && starts_with nat_eq bs (codes "-->"))

-- whether there is nothing but white space up to the end of the line
unfoldable pub is_empty_line : List ℕ → Bool
is_empty_line bs = nat_le (length bs - length (behind_line bs)) (prefix_len is_blank bs)

-- Behind the first byte. A module has no `<!--`, so that it isn't sure where more is on the line.
unfoldable pub html_comment : Bool → List ℕ → Front
html_comment opens bs = line_comment bs (not opens || is_empty_line (drop 3 bs))

-- ---- marks

-- those that the marks of the subset don't have
abbrev pub further : List (List ℕ)
further = codes "||=" ∷ codes "&&=" ∷ codes "??=" ∷ codes "..." ∷ codes "??" ∷ codes "**" ∷ []

abbrev pub begins_digit : List ℕ → Bool
begins_digit [] = false
begins_digit (b ∷ bs) = is_ascii_digit b

-- `?.`, which is a `?` where a digit follows
unfoldable pub begins_optional : List ℕ → Bool
begins_optional bs = starts_with nat_eq bs (codes "?.") && not (begins_digit (drop 2 bs))

unfoldable pub further_len : List ℕ → Option ℕ
further_len bs = first_len further bs

abbrev pub or_len : Option ℕ → Option ℕ → Option ℕ
or_len None other = other
or_len (Some len) other = Some len

-- the length of the longest mark at the front
unfoldable pub wide_mark_len : List ℕ → Option ℕ
wide_mark_len bs = if begins_optional bs then Some 2 else or_len (further_len bs) (mark_len bs)

-- any other byte is a mark by itself, but nobody knows what a backslash is meant for
abbrev pub mark_of : ℕ → Option ℕ → Front
mark_of b (Some len) = sure_front (One Mark) len
mark_of b None = record { piece = One Mark; len = 1; sure = not (b == byte "\\") }

-- the mark at the front, whose first byte is given besides
unfoldable pub mark_front : ℕ → List ℕ → Front
mark_front b bs = mark_of b (wide_mark_len bs)

-- ---- all

abbrev pub name_front : List ℕ → Front
name_front bs = sure_front (One Name) (1 + length bs - length (behind_name bs))

-- a byte that begins neither a name of ASCII nor a number, a text, a comment or a slash
abbrev pub other_front : ℕ → List ℕ → Option ℕ → Front
other_front b bs (Some len) = sure_front (Passed (begins_break (b ∷ bs))) len
other_front b bs None = if nat_le 128 b then name_front bs else mark_front b (b ∷ bs)

unfoldable pub rare_front : ℕ → List ℕ → Front
rare_front b bs = other_front b bs (wide_blank (b ∷ bs))

-- behind a state; of nothing there is nothing
unfoldable pub front : State → List ℕ → Front
front s [] = sure_front (Passed false) 0
front s (b ∷ bs) =
    if is_blank b then sure_front (Passed (begins_break (b ∷ bs))) 1
    else if begins_name b then name_front bs
    else if is_ascii_digit b then sure_front (One Number) (1 + prefix_len is_in_number bs)
    else if is_quote b then text_front bs (read_quoted b bs)
    else if b == byte "/" then slash s.before bs
    else if b == byte "}" && is_in_hole s.brackets then hole_front bs (read_quoted (byte "`") bs)
    else if begins_comment s.new_line (b ∷ bs) then html_comment (b == byte "<") bs
    else rare_front b bs

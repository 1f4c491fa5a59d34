-- String literals.
use Rattle.std.specs.Prelude.{ℕ, zero, suc, ◌+◌, ◌-◌, ◌&&◌, ◌==◌, not, Bool, if◌then◌else◌, List, [], ◌∷◌, ◌++◌, take, Option, Some, None, Result, Ok, Err, nat_eq, codes}
pub use Rattle.std.specs.Option.{ok_or}
use Rattle.std.specs.Str.{byte}
use Rattle.std.specs.List.{starts_with, prefix_len}
pub use Rattle.tp_base.specs.Outcomes.{◌>>=◌}
use Rattle.js_scan.specs.declared.token.ScanFault.{ScanFault}
use Rattle.js_scan.specs.declared.token.ScanFault.TheVariants.{BadString, Template}
use Rattle.js_scan.specs.Bytes.{is_plain}
use Rattle.js_scan.specs.Escapes.{Piece, escape}

-- what was read, or the first fault
abbrev pub Outcome : Type 0 → Type 0
Outcome A = Result A ScanFault

-- only between backquotes
abbrev pub is_backquote : ℕ → Bool
is_backquote quote = quote == byte "`"

abbrev pub begins_template : ℕ → List ℕ → Bool
begins_template quote bs = is_backquote quote && starts_with nat_eq bs (codes "${")

-- The next piece of a Text: an escape, or a character with the plain ones behind it, which stand for themselves.
-- Only between backquotes one of them may be an LF.
unfoldable pub next_piece : ℕ → List ℕ → Option Piece
next_piece quote [] = None
next_piece quote (b ∷ bs) =
    if b == byte "\\" then escape bs
    else (if b == 10 && not (is_backquote quote) then None
    else (let len = 1 + prefix_len is_plain bs in Some (take len (b ∷ bs), len)))

-- the letters of a Text, and the bytes behind it
abbrev pub Read : Type 0
Read = Outcome (List ℕ × List ℕ)

abbrev pub with_letters : List ℕ → Read → Read
with_letters letters r = r >>= λ t. Ok (letters ++ t.0, t.1)

-- The letters up to the closing quote, and the bytes behind it. The Text begins at `at`, which is the place of each
-- fault. `skip` bytes are left of the piece that was read last.
unfoldable pub text_from : ℕ → ℕ → ℕ → List ℕ → Read
text_from quote at skip [] = Err (BadString at)
text_from quote at (suc skip) (b ∷ bs) = text_from quote at skip bs
text_from quote at zero (b ∷ bs) =
    if b == quote then Ok ([], bs)
    else (if begins_template quote (b ∷ bs) then Err (Template at)
    else (ok_or (next_piece quote (b ∷ bs)) (BadString at) >>= λ p. with_letters p.0 (text_from quote at (p.1 - 1) bs)))

-- behind an opening quote
abbrev pub quoted : ℕ → ℕ → List ℕ → Read
quoted quote at bs = text_from quote at 0 bs

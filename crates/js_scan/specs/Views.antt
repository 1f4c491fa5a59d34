-- The results of the scanner, as the definitions see them.
use Rattle.std.specs.Prelude.{◌≡◌, ◌≢◌, ℕ, List, [], ◌∷◌, take, Option, Some, None, Result, Ok, Err, encode_utf8}
use Rattle.tp_base.specs.Outcomes.{GivesUnless}
use Rattle.js_scan.specs.declared.token.ScanFault.{ScanFault}
use Rattle.js_scan.specs.declared.token.ScanFault.TheVariants.{Memory}
use Rattle.js_scan.specs.declared.escapes.Meaning.{Meaning}
use Rattle.js_scan.specs.declared.escapes.Meaning.TheVariants.{Nothing, Byte, Char}
use Rattle.js_scan.specs.Escapes.{Piece}
use Rattle.js_scan.specs.Texts.{Outcome}

-- the result is what is read, seen by view, unless memory ran out
abbrev pub Gives : {X Y : Type 0} → (X → Y) → Result X ScanFault → Outcome Y → Type 0
Gives = GivesUnless Memory

-- the bytes that an escape stands for
abbrev pub bytes_of : Meaning → List ℕ
bytes_of Nothing = []
bytes_of (Byte b) = b ∷ []
bytes_of (Char c) = encode_utf8 c

abbrev pub piece_of : Meaning × ℕ → Piece
piece_of p = (bytes_of p.0, p.1)

-- what a front of a Text stands for: its escape, or itself
abbrev pub meant : Option Meaning → List ℕ → List ℕ
meant (Some m) front = bytes_of m
meant None front = front

abbrev pub piece_in : List ℕ → Option Meaning × ℕ → Piece
piece_in bs p = (meant p.0 (take p.1 bs), p.1)

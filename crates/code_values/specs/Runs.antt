-- Runs: Texts that are joined by `+`, with what else is joined to them.
use Rattle.std.specs.Prelude.{ℕ, ◌+◌, ◌-◌, ◌==◌, ◌&&◌, ◌||◌, Bool, true, false, if◌then◌else◌, List, [], ◌∷◌, ◌++◌, length, drop, codes}
use Rattle.text_bytes.specs.Attributes.{is_among}
use Rattle.code_scan.specs.declared.token.Token.{Token}
use Rattle.code_scan.specs.declared.token.TokenKind.{TokenKind}
use Rattle.code_scan.specs.declared.token.TokenKind.TheVariants.{Number}
use Rattle.code_scan.specs.Spellings.{spelling, is_written}
use Rattle.code_scan.specs.States.{is_mark}
use Rattle.code_tokens.specs.declared.code.Code.{Code}
use Rattle.code_tokens.specs.Members.{is_text, letters_of}
use Rattle.code_tokens.specs.Pairs.{is_closer}
use Rattle.text_pieces.specs.declared.pieces.Piece.{Piece}
use Rattle.text_pieces.specs.declared.pieces.Piece.TheVariants.{Letters, Hole}
use Rattle.code_values.specs.declared.runs.Run.{Run}
use Rattle.code_values.specs.declared.runs.Mode.{Mode}
use Rattle.code_values.specs.declared.runs.Mode.TheVariants.{Joined, Asked, Operand, Ended}
use Rattle.code_values.specs.Outer.{span, outer, from_at}
use Rattle.text_pieces.specs.Pieces.{pieces_of}
use Rattle.code_values.specs.Texts.{is_plus}

-- ---- one run

-- a part of a run
pub record Drawn : Type 0 where
  pub mode : Mode
  -- the letters behind the last operand
  pub letters : List ℕ
  -- the pieces before these
  pub pieces : List Piece
  -- the numbers of the Texts behind the first one
  pub texts : List ℕ

abbrev pub is_number : TokenKind → Bool
is_number Number = true
is_number kind = false

-- marks that an operand ends before, besides `+` and closing brackets: an assignment, a choice, a comparison and what parts statements and values
abbrev pub operand_ends : List (List ℕ)
operand_ends =
    codes "," ∷ codes ";" ∷ codes "?" ∷ codes ":" ∷ codes "=" ∷ codes "<" ∷ codes ">" ∷ codes "<=" ∷ codes ">=" ∷ codes "==" ∷ codes "!="
    ∷ codes "===" ∷ codes "!==" ∷ codes "&&" ∷ codes "||" ∷ codes "??" ∷ []

-- A Text outside of its brackets ends an operand, too, and begins a run of its own.
unfoldable pub ends_operand : List ℕ → Token → Bool
ends_operand text t = is_text t.kind || is_closer text t || is_mark t.kind && is_among operand_ends (spelling text t)

abbrev pub with_mode : Mode → Drawn → Drawn
with_mode mode d = record { mode = mode; letters = d.letters; pieces = d.pieces; texts = d.texts }

unfoldable pub mode_in_operand : List ℕ → Token → Mode
mode_in_operand text t = if is_plus text t then Asked else if ends_operand text t then Ended else Operand

unfoldable pub mode_behind_part : List ℕ → Token → Mode
mode_behind_part text t = if is_plus text t then Asked else Ended

unfoldable pub with_text : ℕ → Token → Drawn → Drawn
with_text at t d = record { mode = Joined; letters = d.letters ++ letters_of t.kind; pieces = d.pieces; texts = d.texts ++ at ∷ [] }

unfoldable pub with_zero : Drawn → Drawn
with_zero d = record { mode = Joined; letters = d.letters ++ codes "0"; pieces = d.pieces; texts = d.texts }

unfoldable pub with_operand : Mode → Drawn → Drawn
with_operand mode d = record { mode = mode; letters = []; pieces = (d.pieces ++ pieces_of d.letters) ++ Hole [] ∷ []; texts = d.texts }

-- Behind a `+` a Text and a Number are letters, and all else begins an operand.
unfoldable pub behind_plus : List ℕ → ℕ → Token → Drawn → Drawn
behind_plus text at t d =
    if is_text t.kind then with_text at t d else if is_number t.kind then with_zero d else with_operand (mode_in_operand text t) d

abbrev pub step : Mode → List ℕ → ℕ → Token → Drawn → Drawn
step Joined text at t d = with_mode (mode_behind_part text t) d
step Asked text at t d = behind_plus text at t d
step Operand text at t d = with_mode (mode_in_operand text t) d
step Ended text at t d = d

unfoldable pub step_at : List ℕ → ℕ → List Token → Drawn → Drawn
step_at text at [] d = d
step_at text at (t ∷ ts) d = step d.mode text at t d

abbrev pub is_ended : Mode → Bool
is_ended Ended = true
is_ended mode = false

abbrev pub is_asked : Mode → Bool
is_asked Asked = true
is_asked mode = false

-- what is joined to a run by tokens
unfoldable pub drawn : List ℕ → Code → List ℕ → Drawn → Drawn
drawn text code [] d = d
drawn text code (at ∷ ats) d = if is_ended d.mode then d else drawn text code ats (step_at text at (from_at code at) d)

abbrev pub begun : Token → Drawn
begun t = record { mode = Joined; letters = letters_of t.kind; pieces = []; texts = [] }

-- all of the run that begins with a Text
unfoldable pub drawn_at : List ℕ → Code → ℕ → Token → Drawn
drawn_at text code at t = drawn text code (outer code (span (at + 1) (length code.others))) (begun t)

-- an operand that is missing at the end is a hole, too
abbrev pub missing : Bool → List Piece
missing asked = if asked then Hole [] ∷ [] else []

abbrev pub pieces_in : Drawn → List Piece
pieces_in d = (d.pieces ++ pieces_of d.letters) ++ missing (is_asked d.mode)

abbrev pub run_of : ℕ → Token → Drawn → Run
run_of at t d = record { at = at; from = t.from; pieces = pieces_in d }

-- ---- all runs

unfoldable pub is_first : ℕ → List ℕ → Bool
is_first at [] = false
is_first at (n ∷ ns) = n == at

-- The runs that begin with the last tokens of so many; of these the Texts of the numbers `joined` belong to earlier runs.
unfoldable pub runs_from : List ℕ → Code → ℕ → List ℕ → List Token → List Run
runs_from text code size joined [] = []
runs_from text code size joined (t ∷ ts) =
    let at = size - length (t ∷ ts) in
    if is_first at joined then runs_from text code size (drop 1 joined) ts
    else if is_text t.kind then run_of at t (drawn_at text code at t) ∷ runs_from text code size ((drawn_at text code at t).texts ++ joined) ts
    else runs_from text code size joined ts

-- The runs of code. Each Text begins one, or belongs to one before.
abbrev pub runs : List ℕ → Code → List Run
runs text code = runs_from text code (length code.tokens) [] code.tokens

-- The tokens of code, and the places at which it isn't sure what is meant.
use Rattle.std.specs.Prelude.{ℕ, zero, suc, ◌+◌, ◌-◌, Bool, false, if◌then◌else◌, List, [], ◌∷◌, ◌++◌, length, take}
use Rattle.text_bytes.specs.OrderMark.{behind_order_mark}
use Rattle.code_scan.specs.declared.token.Front.{Front}
use Rattle.code_scan.specs.declared.token.Piece.{Piece}
use Rattle.code_scan.specs.declared.token.Piece.TheVariants.{Passed, One, Opened, Shut, Reopened}
use Rattle.code_scan.specs.declared.token.Token.{Token}
use Rattle.code_scan.specs.declared.token.TokenKind.{TokenKind}
use Rattle.code_scan.specs.declared.token.TokenKind.TheVariants.{Text, Plus, Open, Close}
use Rattle.code_scan.specs.States.{State, start, after}
use Rattle.code_scan.specs.Fronts.{front}

abbrev pub token : TokenKind → ℕ → ℕ → Bool → Token
token kind from to first_in_line = record { kind = kind; from = from; to = to; first_in_line = first_in_line }

-- a hole of a template begins with `+ (`
abbrev pub opening : ℕ → ℕ → List Token
opening from to = token Plus from to false ∷ token Open from to false ∷ []

-- and ends with `) +` and a Text
abbrev pub closing : List ℕ → ℕ → ℕ → Bool → List Token
closing letters from to first = token Close from to first ∷ token Plus from to false ∷ token (Text letters) from to false ∷ []

-- What is left of a piece from one byte up to another. A template with a hole is as the Texts before and behind it, joined with the
-- hole in brackets.
abbrev pub tokens_of : Piece → ℕ → ℕ → Bool → List Token
tokens_of (Passed broken) from to first = []
tokens_of (One kind) from to first = token kind from to first ∷ []
tokens_of (Opened letters) from to first = token (Text letters) from to first ∷ opening from to
tokens_of (Shut letters) from to first = closing letters from to first
tokens_of (Reopened letters) from to first = closing letters from to first ++ opening from to

abbrev pub unsure_at : Bool → ℕ → List ℕ
unsure_at sure at = if sure then [] else at ∷ []

-- tokens, and the places that aren't sure
pub record Found : Type 0 where
  pub tokens : List Token
  pub unread : List ℕ

abbrev pub nothing : Found
nothing = record { tokens = []; unread = [] }

unfoldable pub one_found : Front → ℕ → Bool → Found
one_found f at first = record { tokens = tokens_of f.piece at (at + f.len) first; unread = unsure_at f.sure at }

unfoldable pub joined : Found → Found → Found
joined a b = record { tokens = a.tokens ++ b.tokens; unread = a.unread ++ b.unread }

-- What stands in the last bytes of a text of so many bytes, behind a state. `skip` bytes are left of what was read last.
unfoldable pub found_from : ℕ → State → ℕ → List ℕ → Found
found_from size s skip [] = nothing
found_from size s (suc skip) (b ∷ bs) = found_from size s skip bs
found_from size s zero (b ∷ bs) =
    let f = front s (b ∷ bs) in
    let at = size - length (b ∷ bs) in
    joined (one_found f at s.new_line) (found_from size (after s f.piece (take f.len (b ∷ bs))) (f.len - 1) bs)

-- what stands in a text behind a byte order mark
abbrev pub found_in : List ℕ → Found
found_in text = found_from (length text) start 0 (behind_order_mark text)

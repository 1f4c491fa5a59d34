-- What the code's tokens are to the definitions: theirs are ranges of a text.
use denote.Bor.{Bor}
use Rattle.std.specs.Prelude.{ℕ, List, map, slice_range}
use Rattle.widen_sheet.specs.declared.tokens.Kind.{Kind}
use Rattle.widen_sheet.specs.declared.tokens.Token as code
use Rattle.widen_sheet.specs.Wide.{Token, Wide, Front, Unmarked, before}

abbrev pub token_of : List ℕ → code.Token → Token
token_of text t = record { kind = t.kind; text = slice_range text t.from t.to }

abbrev pub wide_view : List ℕ → List code.Token → Wide
wide_view text ts = map (token_of text) ts

abbrev pub kinds_of : List code.Token → List Kind
kinds_of ts = map (λ (t : code.Token). t.kind) ts

-- the token before a rest, by its kind
abbrev pub front_of : List ℕ → Kind × Bor (List ℕ) → Front
front_of bs f = (record { kind = f.0; text = before bs f.1.now }, f.1.now)

abbrev pub unmarked_of : Bor (List ℕ) × Bor (List ℕ) → Unmarked
unmarked_of m = (m.0.now, m.1.now)

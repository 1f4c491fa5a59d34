-- Where the bytes of a file may be cut without cutting a character.
use Rattle.std.specs.Prelude.{ℕ, ◌+◌, ◌<◌, List, [], ◌∷◌, length, drop, slice_index, slice_range, IsUtf8}
use Rattle.js_scan.specs.declared.token.Token.{Token}

-- behind each ASCII byte begins a character, or nothing
abbrev pub TextBehindAscii : List ℕ → Type 0
TextBehindAscii bs = (i : ℕ) → i < length bs → slice_index bs i < 128 → IsUtf8 (drop (i + 1) bs)

-- the bytes of each token are UTF-8
abbrev pub AreTexts : List ℕ → List Token → Type 0
AreTexts bs [] = Unit {0}
AreTexts bs (t ∷ ts) = IsUtf8 (slice_range bs t.from t.to) × AreTexts bs ts

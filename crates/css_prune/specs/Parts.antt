-- Parts of a text.
use Rattle.std.specs.Prelude.{ℕ, ◌==◌, if◌then◌else◌, List, [], ◌∷◌}

-- from the first place of a byte on
abbrev pub from_byte : ℕ → List ℕ → List ℕ
from_byte y [] = []
from_byte y (b ∷ bs) = if b == y then b ∷ bs else from_byte y bs

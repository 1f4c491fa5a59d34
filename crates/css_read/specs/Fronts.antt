-- A front of the code, as the definitions see it.
use denote.Bor.{Bor}
use Rattle.std.specs.Prelude.{◌≡◌, ℕ, ◌==◌, ◌&&◌, Bool, false, List, [], ◌∷◌}
use Rattle.css_read.specs.declared.fronts.Front.{Front}
use Rattle.css_read.specs.declared.fronts.Front.TheVariants.{Styles}
use Rattle.css_read.specs.Rules.{Begun}

abbrev pub front_view : Front × Bor (List ℕ) → Begun
front_view f = (f.0, f.1.now)

-- the length of a rule's list in bytes, and 0 for other fronts
abbrev pub list_len : Front → ℕ
list_len (Styles len) = len
list_len f = 0

-- a rule may begin with the first byte, which doesn't end a block
abbrev pub IsStart : Bool → List ℕ → Type 0
IsStart inside [] = ⊥
IsStart inside (b ∷ bs) = (inside && b == 125) ≡ false

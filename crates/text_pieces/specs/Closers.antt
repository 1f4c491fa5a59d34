-- Which closing marks may still come.
use Rattle.std.specs.Prelude.{◌≡◌, ℕ, false, List, None, codes}
use Rattle.text_pieces.specs.declared.holes.Closers.{Closers}
use Rattle.text_pieces.specs.Holes.{behind_first}

-- Where it is noted that a closing mark doesn't come, it doesn't.
pub record AreLeft (c : Closers) (text : List ℕ) : Type 0 where
  pub percent : c.percent ≡ false → behind_first (codes "%>") text ≡ None
  pub square : c.square ≡ false → behind_first (codes "]]") text ≡ None
  pub brace : c.brace ≡ false → behind_first (codes "}") text ≡ None

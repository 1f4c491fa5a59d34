-- White space.
use Rattle.std.specs.Prelude.{ℕ, ◌==◌, ◌||◌, Bool}

-- space, tab, LF, FF and CR
abbrev pub is_blank : ℕ → Bool
is_blank b = b == 32 || b == 9 || b == 10 || b == 12 || b == 13

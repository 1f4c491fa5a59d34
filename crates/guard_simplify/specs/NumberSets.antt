-- The table of places of a number set.
--     noted n numbers             the place of n among the numbers, if it is there
--     ArePlaces places numbers    the table has at each number what is noted of it
--     IsNoted old new n p         the place p was put at n into the table, and nothing else changed
use Rattle.std.specs.Prelude.{◌≡◌, ◌≢◌, ℕ, ◌==◌, if◌then◌else◌, List, get_or, Option, Some, None}
use Rattle.guard_simplify.specs.Firsts.{is_among, place_of}

abbrev pub noted : ℕ → List ℕ → Option ℕ
noted n numbers = if is_among (λ x y. x == y) n numbers then Some (place_of (λ x y. x == y) n numbers) else None

abbrev pub ArePlaces : List (Option ℕ) → List ℕ → Type 0
ArePlaces places numbers = (n : ℕ) → get_or places n None ≡ noted n numbers

pub record IsNoted (old new : List (Option ℕ)) (n p : ℕ) : Type 0 where
  pub here : get_or new n None ≡ Some p
  pub others : (k : ℕ) → k ≢ n → get_or new k None ≡ get_or old k None

-- Guards that several probes share, and for each probe the number of its guard.
--     by_number d xs numbers      the elements of xs with these numbers, and d for a number that xs doesn't have
--     InOrder k numbers n         the k numbers below k are known; each number is a known one or the next new one; at the end n are known
--     AreAsked probed guards ..   the guards with these numbers are those of the probes; each new guard stands behind those before it
use Rattle.std.specs.Prelude.{◌≡◌, ◌⊎◌, ℕ, ◌+◌, ◌<◌, List, [], ◌∷◌, length, map, get_or}
use Rattle.guard_sem.specs.Guards.{Guard, always}

abbrev pub by_number : {X : Type 0} → X → List X → List ℕ → List X
by_number d xs numbers = map (λ k. get_or xs k d) numbers

abbrev pub InOrder : ℕ → List ℕ → ℕ → Type 0
InOrder k [] n = k ≡ n
InOrder k (j ∷ numbers) n = ((j < k) × InOrder k numbers n) ⊎ ((j ≡ k) × InOrder (k + 1) numbers n)

pub record AreAsked (probed guards : List Guard) (numbers : List ℕ) : Type 0 where
  pub of_probes : probed ≡ by_number always guards numbers
  pub in_order : InOrder 0 numbers (length guards)

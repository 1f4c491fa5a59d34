-- The index from atoms to the right sides of links.
--     IsEndNoted m a f g      a was noted for m, and nothing else
--     AreEndsNoted pairs f g  the second of each pair was noted for the first, and nothing else
--     AreSomeNoted pairs f g  the same of some of the pairs
use Rattle.std.specs.Prelude.{◌≡◌, ℕ, List, Contains, ◌⊎◌}

pub record IsEndNoted (atom end : ℕ) (old new : ℕ → List ℕ) : Type 0 where
  pub kept : (m a : ℕ) → Contains (old m) a → Contains (new m) a
  pub noted : Contains (new atom) end
  pub only : (m a : ℕ) → Contains (new m) a → Contains (old m) a ⊎ ((m ≡ atom) × (a ≡ end))

pub record AreEndsNoted (pairs : List (ℕ × ℕ)) (old new : ℕ → List ℕ) : Type 0 where
  pub kept : (m a : ℕ) → Contains (old m) a → Contains (new m) a
  pub noted : (m a : ℕ) → Contains pairs (m, a) → Contains (new m) a
  pub only : (m a : ℕ) → Contains (new m) a → Contains (old m) a ⊎ Contains pairs (m, a)

pub record AreSomeNoted (pairs : List (ℕ × ℕ)) (old new : ℕ → List ℕ) : Type 0 where
  pub kept : (m a : ℕ) → Contains (old m) a → Contains (new m) a
  pub only : (m a : ℕ) → Contains (new m) a → Contains (old m) a ⊎ Contains pairs (m, a)

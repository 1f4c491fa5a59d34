-- A numbering in topological order: each item after those that it names, and once.
--     Post names seen ts out     with these numbered, the walk through ts leaves those numbered
use Rattle.std.specs.Prelude.{ℕ, List, [], ◌∷◌, ◌++◌, Contains}

pub data Post (names : ℕ → List ℕ) : List ℕ → List ℕ → List ℕ → Type 0 where
  done : (seen : List ℕ) → Post names seen [] seen
  known : (seen : List ℕ) (t : ℕ) (ts out : List ℕ) → Contains seen t → Post names seen ts out → Post names seen (t ∷ ts) out
  new : (seen : List ℕ) (t : ℕ) (ts mid out : List ℕ) → (¬ Contains seen t) → Post names seen (names t) mid → (¬ Contains mid t) → Post names (mid ++ t ∷ []) ts out → Post names seen (t ∷ ts) out

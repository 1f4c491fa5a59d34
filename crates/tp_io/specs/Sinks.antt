-- What sinks hold, and how often they failed.
use Rattle.std.specs.Prelude.{◌≡◌, ℕ, ◌-◌, ◌^◌, ◌<◌, ◌≤◌, ◌⊎◌, List, ◌++◌, take, Option, option_map}

-- the bytes written grow by these at their end, and stay told or untold
abbrev pub Adds : Option (List ℕ) → Option (List ℕ) → List ℕ → Type 0
Adds old new bytes = new ≡ option_map (λ before. before ++ bytes) old

-- they grow by the first of these, however many
abbrev pub AddsPrefix : Option (List ℕ) → Option (List ℕ) → List ℕ → Type 0
AddsPrefix old new bytes = (count : ℕ) × Adds old new (take count bytes)

-- a count of faults rose: it is larger, or stands at the greatest `u64`, which it never passes
abbrev pub Rose : ℕ → ℕ → Type 0
Rose old new = (old < new) ⊎ (2 ^ 64 - 1 ≤ new)

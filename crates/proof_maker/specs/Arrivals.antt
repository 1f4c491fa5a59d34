-- The visible atoms of added nodes, with their first rounds.
--     AreArrivals visible labels items     the items are the visible atoms that come, with their first rounds, in the order of these
--     CameBy items k a                     the atom is there by the round
use Rattle.std.specs.Prelude.{◌≡◌, ℕ, ◌≤◌, List, Contains}
use Rattle.std.specs.List.Sorted.{IsNonDecreasingBy}
use Rattle.simple_core.specs.declared.summaries.First.{First}
use Rattle.simple_core.specs.Firsts.{AreFirsts}

abbrev pub AreByRounds : List First → Type 0
AreByRounds items = IsNonDecreasingBy (λ (c : First). c.round) items

pub record AreArrivals (visible : List ℕ) (labels : ℕ → List ℕ) (items : List First) : Type 0 where
  pub firsts : AreFirsts visible labels items
  pub order : AreByRounds items

abbrev pub CameBy : List First → ℕ → ℕ → Type 0
CameBy items k a = (c : First) × Contains items c × (c.atom ≡ a) × (c.round ≤ k)

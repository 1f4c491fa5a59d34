-- The atoms that come to an added node, each with its first round.
--     AreFirsts atoms labels firsts     the firsts have those of the atoms that some label has, each with its first round
use Rattle.std.specs.Prelude.{◌≡◌, ℕ, List, Some, Contains}
use Rattle.simple_core.specs.Rounds.{IsFirst}
use Rattle.simple_core.specs.declared.summaries.First.{First}

pub record AreFirsts (atoms : List ℕ) (labels : ℕ → List ℕ) (firsts : List First) : Type 0 where
  pub right : (f : First) → Contains firsts f → Contains atoms f.atom × IsFirst labels f.atom (Some f.round)
  pub whole : (a k : ℕ) → Contains atoms a → Contains (labels k) a → (f : First) × Contains firsts f × (f.atom ≡ a)

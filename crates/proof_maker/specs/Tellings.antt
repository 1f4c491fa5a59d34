-- What summaries tell of an added node.
--     AreIdle s labels n     none of the first n spawn rules has its atom in any of the labels
--     IsTold s labels told   the visible atoms that come, and spawn rules whose atom never does
use Rattle.std.specs.Prelude.{◌≡◌, ℕ, ◌<◌, false, List}
use Rattle.tp_base.specs.Classes.{has_class}
use Rattle.simple_core.specs.declared.system.System.{System}
use Rattle.proof_needs.specs.Choices.{spawn_needs}
use Rattle.proof_maker.specs.declared.told.Told.{Told}
use Rattle.proof_maker.specs.Arrivals.{AreArrivals}

abbrev pub AreIdle : System → (ℕ → List ℕ) → ℕ → Type 0
AreIdle s labels n = (c k : ℕ) → c < n → has_class (spawn_needs s c) (labels k) ≡ false

pub record IsTold (s : System) (labels : ℕ → List ℕ) (told : Told) : Type 0 where
  pub arrivals : AreArrivals s.visible labels told.arrivals
  pub idle : AreIdle s labels told.idle

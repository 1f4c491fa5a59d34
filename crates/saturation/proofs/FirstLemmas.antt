-- The first round in which a node has an atom.
use Rattle.std.proofs.Common.{◌≡◌, ℕ, true, List, Some, arith}
use Rattle.tp_base.specs.Classes.{has_class}
use Rattle.tp_base.proofs.ClassLemmas.{Contains-has_class}
use Rattle.simple_core.specs.declared.system.System.{System}
use Rattle.simple_core.specs.Systems.{kind_label}
use Rattle.simple_core.specs.Rounds.{grown, IsFirst}
use Rattle.simple_core.proofs.RoundLemmas.{is-set_of}

-- what is in the kind's label is there from the beginning
pub first_at_start : (s : System) (j a : ℕ) (parent : List ℕ) → has_class a (kind_label s j) ≡ true → IsFirst (λ k. grown s k j parent) a (Some 0)
first_at_start s j a parent starts = (is-set_of (kind_label s j) a (Contains-has_class a (kind_label s j) starts), λ m less. absurd (omega arith))

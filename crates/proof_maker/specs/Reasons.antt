-- The reason that the code has chosen.
use Rattle.proof_needs.specs.declared.needs.Choice.{Choice}
use Rattle.proof_maker.specs.declared.choices.Found.{Found}
use Rattle.proof_needs.specs.declared.needs.Choice.TheVariants.{Start, Local, Up, Real, Spawn}
use Rattle.proof_needs.specs.Choices.{at_start, by_local, by_up, by_real, by_spawn}
use Rattle.proof_needs.specs.Choices.{Choice as Reason}

abbrev pub reason_of : Choice → Reason
reason_of Start = at_start
reason_of (Local l) = by_local l
reason_of (Up l) = by_up l
reason_of (Real l n) = by_real l n
reason_of (Spawn l c) = by_spawn l c

abbrev pub found_reason : Found → Reason
found_reason f = reason_of f.choice

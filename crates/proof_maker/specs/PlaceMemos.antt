-- The memo of added nodes.
--     IsPlaceMemo s rows     each row has what is told of its pair of a kind and a parent's visible label
use Rattle.std.specs.Prelude.{List, Contains}
use Rattle.pair_table.specs.declared.table.Row.{Row}
use Rattle.simple_core.specs.declared.system.System.{System}
use Rattle.simple_core.specs.Rounds.{grown}
use Rattle.proof_maker.specs.declared.told.Told.{Told}
use Rattle.proof_maker.specs.Tellings.{IsTold}

abbrev pub IsPlaceMemo : System → List (Row Told) → Type 0
IsPlaceMemo s rows = (r : Row Told) → Contains rows r → IsTold s (λ k. grown s k r.kind r.label) r.value

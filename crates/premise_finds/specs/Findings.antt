-- Findings.
use Rattle.std.specs.Prelude.{ℕ, Bool, true, false, List, [], ◌∷◌}
use Rattle.premise_finds.specs.declared.names.Name.{Name}
use Rattle.premise_finds.specs.declared.findings.Finding.{Finding}

-- a finding where something holds, and none elsewhere
abbrev pub when : Bool → Finding → List Finding
when true f = f ∷ []
when false f = []

abbrev pub finding : Name → ℕ → ℕ → Finding
finding name from to = record { name = name; from = from; to = to }

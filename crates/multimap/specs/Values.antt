-- The values at the keys of a multimap.
use Rattle.std.specs.Prelude.{Bool, List, [], unwrap_or}
use Rattle.std.specs.Map.{lookup}

-- the values at a key, none where it has no entry
abbrev pub values_at : {K V : Type 0} → (K → K → Bool) → List (K × List V) → K → List V
values_at eq entries key = unwrap_or (lookup (eq key) entries) []

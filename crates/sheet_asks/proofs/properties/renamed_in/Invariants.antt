use Rattle.std.proofs.Common.{◌≡◌, length, map}
use Rattle.std.specs.Map.{lookup}
use Rattle.std.specs.Str.{bytes_eq}
use Rattle.sheet_asks.proofs.properties.renamed_in.Given as goal

abbrev pub invariant-rows : goal.invariant-rows
invariant-rows l = lookup (bytes_eq l.property) (map (λ r. (r.0.now, r.1.now)) l.left) ≡ lookup (bytes_eq l.property) (map (λ r. (r.0.now, r.1.now)) l.rows)

abbrev pub decreases-rows : goal.decreases-rows
decreases-rows l = length l.left

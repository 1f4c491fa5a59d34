use Rattle.std.proofs.Common.{◌≡◌, map, length}
use Rattle.html_tokens.specs.Bytes.{lowered}
use Rattle.html_table.specs.Elements as spec
use Rattle.html_table.proofs.elements.lookup.Given as goal

abbrev pub invariant-names : goal.invariant-names
invariant-names l = spec.lookup (map (λ k. (lowered k.0.now, k.1)) l.left) (lowered l.name) ≡ spec.lookup (map (λ k. (lowered k.0.now, k.1)) l.table) (lowered l.name)

abbrev pub decreases-names : goal.decreases-names
decreases-names l = length l.left

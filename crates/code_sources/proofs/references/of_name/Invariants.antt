use Rattle.std.proofs.Common.{◌≡◌, map, length}
use Rattle.code_sources.specs.References.{of_name}
use Rattle.code_sources.proofs.references.of_name.Given as goal

abbrev pub invariant-names : goal.invariant-names
invariant-names l = of_name (map (λ n. (n.0.now, n.1)) l.left) l.text ≡ of_name (map (λ n. (n.0.now, n.1)) l.names) l.text

abbrev pub decreases-names : goal.decreases-names
decreases-names l = length l.left

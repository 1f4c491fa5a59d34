use Rattle.std.proofs.Common.{◌≡◌, ◌++◌, map}
use Rattle.sheet_asks.proofs.attributes.Attributes.names.Given as goal

abbrev pub invariant-names : goal.invariant-names
invariant-names l = map (λ n. n.now) (l.names.items ++ l.name-iterator) ≡ map (λ a. a.0) l.self

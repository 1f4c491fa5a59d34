use Rattle.std.proofs.Common.{◌≡◌, take}
use Rattle.guard_simplify.specs.SeenRules.{seen_of}
use Rattle.guard_simplify.proofs.seen_rules.seen_atoms.Given as goal

abbrev pub invariant-guards : goal.invariant-guards
invariant-guards l = l.seen.items ≡ seen_of l.first l.once (take l.guard-index l.guards)

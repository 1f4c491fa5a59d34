use Rattle.std.proofs.Common.{◌≡◌, ℕ, drop, find, option_map}
use Rattle.std.specs.Option.{option_or}
use Rattle.simple_core.specs.declared.rules.Kind.{Kind}
use Rattle.proof_core.specs.Worlds.{known_in, is_under}
use Rattle.proof_core.proofs.worlds.ChildCounts.of.Given as goal

abbrev pub invariant-loop-kind : goal.invariant-loop-kind
invariant-loop-kind l = record {
  known : (j : ℕ) → option_map (λ (k : Kind). k.siblings) (find (is_under j) l.kinds)
      ≡ option_or (known_in l.counts j) (option_map (λ (k : Kind). k.siblings) (find (is_under j) (drop l.kind-index l.kinds)));
}

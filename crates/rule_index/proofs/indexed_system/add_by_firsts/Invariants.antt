use Rattle.std.proofs.Common.{◌≡◌, ℕ, ◌+◌, map, length, Contains}
use Rattle.tp_base.specs.Classes.{union_of}
use Rattle.simple_core.specs.declared.summaries.First.{First}
use Rattle.rule_index.specs.Indexes.{by_label, given_in}
use Rattle.rule_index.proofs.indexed_system.add_by_firsts.Given as goal

abbrev pub invariant-firsts : goal.invariant-firsts
invariant-firsts l = record {
  given : union_of l.next (by_label (given_in l.label) l.rules l.index (λ a. a + 1) (map (λ f. f.atom) l.rest)) ≡ union_of l.initial.next (by_label (given_in l.label) l.rules l.index (λ a. a + 1) (map (λ f. f.atom) l.fresh));
  kept : (y : ℕ) → Contains l.initial.next y → Contains l.next y;
  left : (f : First) → Contains l.rest f → Contains l.label f.atom;
}

abbrev pub decreases-firsts : goal.decreases-firsts
decreases-firsts l = length l.rest

use Rattle.std.proofs.Common.{◌≡◌, ◌++◌, length, drop}
use Rattle.css_read.specs.Pruned as spec
use Rattle.css_prune.specs.Copying.{RiseFrom}
use Rattle.css_prune.proofs.copying.without_risen.Given as goal

abbrev pub invariant-copied : goal.invariant-copied
invariant-copied l = record {
  order : RiseFrom 0 l.rest;
  kept : l.kept.items ++ spec.without l.rest l.at (drop l.at l.text) ≡ spec.without l.ranges 0 l.text;
}

abbrev pub decreases-copied : goal.decreases-copied
decreases-copied l = length l.rest

use Rattle.std.proofs.Common.{◌≡◌, [], length}
use Rattle.sel_text.specs.Results.{IsFront}
use Rattle.jq_cursor.proofs.ClassSteps.{with_value}
use Rattle.jq_cursor.proofs.selections.class_set.Given as goal

abbrev pub invariant-classes : goal.invariant-classes
invariant-classes l = record {
  reads : with_value l.at l.rest l.set l.atoms ≡ with_value l.at l.letters [] l.initial.atoms;
  front : IsFront l.initial.atoms l.atoms;
}

abbrev pub decreases-classes : goal.decreases-classes
decreases-classes l = length l.rest

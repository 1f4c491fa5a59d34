use Rattle.std.proofs.Common.{◌≡◌, length}
use Rattle.html_subset.specs.Builders.{KeepsNames}
use Rattle.html_subset.proofs.ClassSteps.{with_value}
use Rattle.html_subset.proofs.labels.LabelBuilder.add_classes.Given as goal

abbrev pub invariant-classes : goal.invariant-classes
invariant-classes l = record {
  reads : with_value l.self.at l.rest l.self.label l.self.atoms ≡ with_value l.initial.self.at l.value l.initial.self.label l.initial.self.atoms;
  keeps : KeepsNames l.initial.self l.self;
}

abbrev pub decreases-classes : goal.decreases-classes
decreases-classes l = length l.rest

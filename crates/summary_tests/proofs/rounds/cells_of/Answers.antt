use Rattle.tp_base.specs.Classes.{has_class}
use Rattle.simple_core.specs.Systems.{kind_label}
use Rattle.summary_tests.proofs.Cells.{leaf_inside}
use Rattle.summary_tests.proofs.rounds.cells_of.Goals as goal

pub loop-kind-init : goal.loop-kind-init
loop-kind-init c = λ j a. leaf_inside c.args.d.now.branches _ (has_class a (kind_label c.args.system.now j)) (c.in_ok-all.ensures.places j a)

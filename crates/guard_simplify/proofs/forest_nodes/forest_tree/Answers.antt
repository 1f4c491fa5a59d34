use Rattle.std.proofs.Common.{sym, ap, ◌∙◌}
use Rattle.guard_simplify.specs.Auxiliaries.{tops_of}
use Rattle.guard_simplify.proofs.AtomNumberLemmas.{root_fits}
use Rattle.guard_simplify.proofs.forest_nodes.forest_tree.Goals as goal

pub below_root-requires : goal.below_root-requires
below_root-requires c = root_fits c.args.rule.now c.items.result.now (ap tops_of c.in-Inside.is ∙ sym c.items.ensures) c.requires

pub below_root-requires-in-Beside : goal.below_root-requires-in-Beside
below_root-requires-in-Beside c = root_fits c.args.rule.now c.items-in-Beside.result.now (ap tops_of c.in-Beside.is ∙ sym c.items-in-Beside.ensures) c.requires

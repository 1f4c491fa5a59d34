use Rattle.std.proofs.Common.{◌∙◌, ap}
use Rattle.rule_index.specs.Indexes.{kind_of}
use Rattle.row_index.specs.Rows.{row_of}
use Rattle.rule_index.proofs.IndexLemmas.{kinds_more}
use Rattle.rule_index.proofs.indexed_system.add_spawned.Goals as goal

pub loop-i-preserved : goal.loop-i-preserved
loop-i-preserved c = kinds_more kind_of c.args.spawns.now c.args.index.now (λ a. a) c.args.label.now c.args.kinds.now.items c.loop-i.kinds.items c.add_spawns.new.kinds.items c.of.result.now c.loop-i.i c.at-atom.result c.at-atom.ensures c.loop-i.invariant (c.of.ensures ∙ ap (λ z. row_of c.args.index.now z) c.atom.view_is) c.in_ok-add_spawns.ensures

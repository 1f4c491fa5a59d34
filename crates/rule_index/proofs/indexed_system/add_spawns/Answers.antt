use Rattle.std.proofs.Common.{◌∙◌}
use Rattle.rule_index.specs.Indexes.{kind_of}
use Rattle.rule_index.proofs.IndexLemmas.{first_rest, kinds_next, kinds_end}
use Rattle.rule_index.proofs.indexed_system.add_spawns.Goals as goal

pub places-preserved : goal.places-preserved
places-preserved c =
    kinds_next kind_of c.args.spawns.now c.places.kinds.items c.add_spawn.new.kinds.items c.places.rest.now c.in-Some.place.now c.in-Some.others.now (first_rest c.places.rest.now c.in-Some.place.now c.in-Some.others.now c.in-Some.ensures.cases) c.in_ok-add_spawn.ensures
    ∙ c.places.invariant

pub returns : goal.returns
returns c = kinds_end kind_of c.args.spawns.now c.places.kinds.items c.args.kinds.now.items c.places.rest.now c.args.row.now c.in_default.ensures.cases c.places.invariant

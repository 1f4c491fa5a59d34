use Rattle.std.proofs.Common.{◌∙◌, sym, arith}
use Rattle.code_sources.proofs.TagSteps.{adds_one}
use Rattle.code_sources.proofs.tags.read_attributes.Goals as goal

pub turns-preserved : goal.turns-preserved
turns-preserved c = record {
  within = omega (arith, c.turns.invariant.within, c.in-Some-read_attribute.ensures.shorter);
  reads =
      c.turns.invariant.reads
      ∙ adds_one c.turns.found.items c.push.new.self.items _ c.args.size _ c.turns.rest.now _ c.in-Some-read_attribute.after.now c.in-Some.ensures.cases.0 c.if-first-eq62.false (sym c.is_filler.ensures ∙ c.if-is_filler.false)
      c.in-Some-read_attribute.ensures.gives c.value_place.ensures c.in-Some-read_attribute.ensures.rest c.in-Some-read_attribute.ensures.shorter c.in_ok-push.ensures.items;
}

use Rattle.std.proofs.Common.{arith}
use Rattle.std.proofs.lemmas.Grind.{common_steps}
use Rattle.html_tokens.proofs.AttributeSteps.{adds}
use Rattle.text_bytes.proofs.Rests.{of_rest}
use Rattle.html_tokens.proofs.attributes.read_given.Goals as goal

pub turns-preserved : goal.turns-preserved
turns-preserved c = record {
  rest = of_rest _ _ _ c.turns.invariant.rest c.in_ok-attribute.ensures.rest;
  reads = grind (arith, common_steps, adds);
}

use Rattle.std.proofs.Common.{Bool, sym, ap, ◌∙◌, length, arith}
use Rattle.css_read.specs.FoundViews.{found_of}
use Rattle.css_read.specs.Rules.{next_front}
use Rattle.css_read.proofs.HolderSteps.{goes_on}
use Rattle.css_read.proofs.finding.find.Goals as goal

pub steps-preserved : goal.steps-preserved
steps-preserved c = record {
  within = omega (arith, c.steps.invariant.within, c.in_ok-step.ensures.count, c.in_ok-front.ensures.shorter);
  numbered = c.in_ok-step.ensures.numbered;
  found =
      sym (goes_on c.args.text.now (found_of c.steps.found) (found_of c.step.new.self) (length c.args.text.now) c.steps.rest.now c.in_ok-front.behind.now c.in_ok-front.front
      (c.in_ok-front.ensures.gives ∙ ap (λ (b : Bool). next_front b c.steps.rest.now) c.is_inside.ensures) c.in_ok-front.ensures.rest c.in_ok-front.ensures.shorter c.in_ok-step.ensures.found)
      ∙ c.steps.invariant.found;
}

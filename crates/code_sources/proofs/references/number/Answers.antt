use Rattle.std.proofs.Common.{ℕ, List, sym, subst}
use Rattle.text_bytes.specs.Rests.{IsRest}
use Rattle.text_bytes.proofs.Rests.{of_rest, behind_first}
use Rattle.code_sources.specs.References.{number}
use Rattle.code_sources.proofs.ReferenceSteps.{one_digit}
use Rattle.code_sources.proofs.references.number.Goals as goal

pub digits-preserved : goal.digits-preserved
digits-preserved c = record {
  small = c.capped-code.ensures.small;
  rest = of_rest c.args.text.now c.digits.rest.now c.in-Some.behind.now c.digits.invariant.rest
      (subst (λ (bs : List ℕ). IsRest bs c.in-Some.behind.now) (sym c.in-Some.ensures.cases.0) (behind_first c.in-Some.first.now c.in-Some.behind.now));
  reads = one_digit c.args.base c.digits.code c.in-Some.first.now c.in-Some-to_digit.digit c.capped-code.result c.in-Some.behind.now c.digits.rest.now (number c.args.base 0 c.args.text.now)
      c.in-Some.ensures.cases.0 c.digits.invariant.reads (rw (← c.from.ensures) c.in-Some-to_digit.ensures.value.0) (rw (← c.from.ensures) c.in-Some-to_digit.ensures.value.1) c.capped-code.ensures.value;
}

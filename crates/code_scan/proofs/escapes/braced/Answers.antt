use Rattle.std.proofs.Common.{rules, ℕ, List, sym, subst}
use Rattle.text_bytes.specs.Rests.{IsRest}
use Rattle.text_bytes.proofs.Rests.{of_rest, behind_first}
use Rattle.code_scan.specs.Escapes.{braced}
use Rattle.code_scan.proofs.escapes.braced.Goals as goal

pub digits-preserved : goal.digits-preserved
unfolding braced
digits-preserved c = record {
  small = c.capped-code.ensures.small;
  rest = of_rest c.args.text.now c.digits.rest.now c.in-Some.behind.now c.digits.invariant.rest
      (subst (λ (bs : List ℕ). IsRest bs c.in-Some.behind.now) (sym c.in-Some.ensures.cases.0) (behind_first c.in-Some.first.now c.in-Some.behind.now));
  reads = search rules;
}

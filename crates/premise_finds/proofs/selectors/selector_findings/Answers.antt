use Rattle.std.proofs.Common.{◌≡◌, length, arith}
use Rattle.std.proofs.lemmas.Grind.{common_steps}
use Rattle.premise_finds.proofs.SelectorSteps.{ends}
use Rattle.premise_finds.proofs.selectors.selector_findings.Goals as goal

pub returns : goal.returns
returns c =
    let none : length c.fronts.rest.now ≡ 0 = grind (arith, common_steps) in
    ends c.args.text.now _ _ _ _ _ none c.fronts.invariant.found

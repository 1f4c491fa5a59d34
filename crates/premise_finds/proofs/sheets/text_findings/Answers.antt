use Rattle.std.proofs.Common.{◌≡◌, length, arith}
use Rattle.std.proofs.lemmas.Grind.{common_steps}
use Rattle.premise_finds.proofs.SheetSteps.{ends}
use Rattle.premise_finds.proofs.sheets.text_findings.Goals as goal

pub returns : goal.returns
returns c =
    let none : length c.fronts.rest.now ≡ 0 = grind (arith, common_steps) in
    ends _ _ _ _ _ _ none c.fronts.invariant.found

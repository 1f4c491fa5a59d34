use Rattle.std.proofs.Common.{◌≡◌, length, arith}
use Rattle.std.proofs.lemmas.Grind.{common_steps}
use Rattle.premise_finds.proofs.SheetSteps.{found_ends}
use Rattle.premise_finds.proofs.sheets.Draft.add_in.Goals as goal

pub returns-clause-found : goal.returns-clause-found
returns-clause-found c =
    let none : length c.units.rest.now ≡ 0 = grind (arith, common_steps) in
    found_ends _ _ _ _ _ _ none c.units.invariant.found

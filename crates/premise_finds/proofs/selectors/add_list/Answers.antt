use Rattle.std.proofs.Common.{◌≡◌, ◌<◌, ◌∙◌, length, arith}
use Rattle.std.proofs.lemmas.Grind.{common_steps}
use Rattle.premise_finds.proofs.SelectorSteps.{first_of_more, one_more, no_more}
use Rattle.premise_finds.proofs.selectors.add_list.Goals as goal

pub commas-init : goal.commas-init
commas-init c =
    let some : 0 < length c.in_ok-first.rest.now = grind (arith, common_steps) in
    record {
      within = grind (arith, common_steps);
      found = first_of_more c.args.text.now c.args.list.to _ _ _ _ _ c.in_ok-first.ensures.gives c.in_ok-first.ensures.behind some c.in_ok-add_selector.ensures;
    }

pub commas-preserved : goal.commas-preserved
commas-preserved c = record {
  within = grind (arith, common_steps);
  found =
      one_more c.args.text.now c.args.list.to _ _ _ _ _ _ _ c.in-Some.ensures.cases.0 c.in_ok-piece.ensures.gives c.in_ok-piece.ensures.behind c.in_ok-piece.ensures.rest
      c.in_ok-add_selector-2.ensures
      ∙ c.commas.invariant.found;
}

pub returns : goal.returns
returns c =
    let none : length c.commas.rest.now ≡ 0 = grind (arith, common_steps) in
    no_more c.args.text.now c.args.list.to _ _ _ none c.commas.invariant.found

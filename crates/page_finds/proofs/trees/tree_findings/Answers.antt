use Rattle.std.proofs.Common.{◌≡◌, ◌<◌, ◌∙◌, length, sym, arith}
use Rattle.std.proofs.lemmas.Grind.{common_steps}
use Rattle.page_finds.proofs.TreeSteps.{goes_on, ends}
use Rattle.page_finds.proofs.trees.tree_findings.Goals as goal

pub tokens-preserved : goal.tokens-preserved
tokens-preserved c =
    let some : 0 < length c.tokens.rest.now = grind (arith, common_steps) in
    let sized = c.in_ok-add_token.ensures.size ∙ c.tokens.invariant.size in
    record {
      within = omega (arith, c.tokens.invariant.within, c.next.ensures.shorter some);
      size = c.in_ok-go_on.ensures.size ∙ sized;
      found =
          goes_on _ _ _ (length c.args.text.now) c.tokens.draft.elements _ c.tokens.draft.tags.items _ c.tokens.rest.now _ (sym c.next.ensures.gives) c.next.ensures.rest (c.next.ensures.shorter some)
          (rw c.tokens.invariant.size at c.in_ok-add_token.ensures.found) (rw (c.in_ok-add_token.ensures.elements, c.in_ok-add_token.ensures.tags) at c.in_ok-go_on.ensures.found)
          (rw c.in_ok-add_token.ensures.elements at c.in_ok-go_on.ensures.elements) (rw (c.in_ok-add_token.ensures.elements, c.in_ok-add_token.ensures.tags, sized) at c.in_ok-go_on.ensures.tags)
          ∙ c.tokens.invariant.found;
    }

pub returns : goal.returns
returns c =
    let none : length c.tokens.rest.now ≡ 0 = grind (arith, common_steps) in
    ends _ _ _ (length c.args.text.now) _ _ _ none c.tokens.invariant.found c.in_ok-end.ensures

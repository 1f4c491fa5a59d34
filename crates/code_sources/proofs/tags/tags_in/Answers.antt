use Rattle.std.proofs.Common.{◌≡◌, ◌<◌, ◌∙◌, sym, ap, map, length, arith}
use Rattle.std.proofs.lemmas.Grind.{common_steps}
use Rattle.code_sources.specs.Views.{tag_of}
use Rattle.code_sources.proofs.TagSteps.{goes_on, all_found}
use Rattle.code_sources.proofs.tags.tags_in.Goals as goal

pub tokens-preserved : goal.tokens-preserved
tokens-preserved c =
    let some : 0 < length c.tokens.rest.now = grind (arith, common_steps) in
    record {
      within = omega (arith, c.tokens.invariant.within, c.next.ensures.shorter some);
      found =
          goes_on _ _ (length c.args.text.now) c.tokens.rest.now _ (sym c.next.ensures.gives) c.next.ensures.rest (c.next.ensures.shorter some) c.in_ok-add_tag.ensures
          ∙ c.tokens.invariant.found;
    }

pub returns : goal.returns
returns c =
    let none : length c.tokens.rest.now ≡ 0 = grind (arith, common_steps) in
    ap (λ ts. map tag_of ts) c.new.ensures ∙ all_found _ _ (length c.args.text.now) _ none c.tokens.invariant.found

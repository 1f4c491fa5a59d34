use Rattle.std.proofs.Common.{◌+◌, ◌∙◌, ℕ, List, Option, [], length, get_or, None, ap, arith}
use Rattle.std.proofs.lemmas.List.{get_or_past, length_push}
use Rattle.code_tokens.proofs.PairSteps.{none_pushed}
use Rattle.code_tokens.proofs.pairs.no_others.Goals as goal

pub tokens-init : goal.tokens-init
tokens-init c = record {
  long = ap (λ (z : List (Option ℕ)). length z) c.new-others.ensures.items;
  within = omega arith;
  none = λ j. ap (λ (z : List (Option ℕ)). get_or z j None) c.new-others.ensures.items ∙ get_or_past [] j None (omega arith);
}

pub tokens-preserved : goal.tokens-preserved
tokens-preserved c = record {
  long = ap (λ (z : List (Option ℕ)). length z) c.in_ok-push.ensures.items ∙ length_push c.tokens.others.items None ∙ ap (λ n. n + 1) c.tokens.invariant.long;
  within = omega (arith, c.tokens-test.true);
  none = λ j. ap (λ (z : List (Option ℕ)). get_or z j None) c.in_ok-push.ensures.items ∙ none_pushed c.tokens.others.items c.tokens.invariant.none j;
}

pub returns-clause-long : goal.returns-clause-long
returns-clause-long c = c.tokens.invariant.long ∙ omega (arith, c.tokens-test.false, c.tokens.invariant.within)

pub returns-clause-none : goal.returns-clause-none
returns-clause-none c = c.tokens.invariant.none

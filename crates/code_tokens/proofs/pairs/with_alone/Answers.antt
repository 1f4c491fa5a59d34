use Rattle.std.proofs.Common.{◌∙◌, ◌++◌, ◌-◌, ◌<◌, List, length, refl, ap, arith}
use Rattle.code_scan.specs.declared.token.Token.{Token}
use Rattle.code_tokens.specs.Pairs.{pairs_of, alone}
use Rattle.code_tokens.proofs.PairSteps.{all_alone, one_alone}
use Rattle.code_tokens.proofs.pairs.with_alone.Goals as goal

pub returns : goal.returns
returns c = all_alone c.args.text.now (length c.args.tokens.now) (pairs_of c.args.text.now c.args.tokens.now) c.tokens.rest.now c.tokens.unread.items (c.args.unread.items ++ alone c.args.text.now c.args.tokens.now) c.tokens.invariant.reads c.in_default.ensures.cases

pub tokens-preserved : goal.tokens-preserved
tokens-preserved c =
    let size = length c.args.tokens.now in
    let at = size - length c.tokens.rest.now in
    let is = c.in-Some.ensures.cases.0 in
    let less : at < size = omega (arith, c.tokens.invariant.within, ap (λ (ts : List Token). length ts) is) in
    record {
      within = omega (arith, c.tokens.invariant.within, ap (λ (ts : List Token). length ts) is);
      reads = rw c.in_ok-push_alone.ensures
          (one_alone c.args.text.now size at (pairs_of c.args.text.now c.args.tokens.now) c.in-Some.token.now c.in-Some.behind.now c.tokens.rest.now c.other_at-other.result c.tokens.unread.items (c.args.unread.items ++ alone c.args.text.now c.args.tokens.now)
          is refl (c.other_at-other.ensures ∙ c.requires.others.1 at less) c.tokens.invariant.reads);
    }

use Rattle.std.proofs.Common.{◌∙◌, ◌++◌, ◌-◌, List, ℕ, length, refl, sym, ap, arith}
use Rattle.code_scan.specs.declared.token.Token.{Token}
use Rattle.code_values.specs.Runs.{runs_from}
use Rattle.code_values.proofs.RunSteps.{joined, passed, ends}
use Rattle.code_values.proofs.runs.runs_of.Goals as goal

pub tokens-preserved-then-is_first : goal.tokens-preserved-then-is_first
tokens-preserved-then-is_first c =
    let size = length c.items-tokens.result.now in
    record {
      within = omega (arith, c.tokens.invariant.within, ap (λ (ts : List Token). length ts) c.in-Some.ensures.cases.0);
      reads = ap (λ (j : List ℕ). c.tokens.runs.items ++ runs_from c.args.script.now.text.now c.args.script.now.code.now size j c.in-Some.behind.now) c.drop_first.ensures
          ∙ joined c.args.script.now.text.now c.args.script.now.code.now size (size - length c.tokens.rest.now) c.tokens.joined c.in-Some.token.now c.in-Some.behind.now c.tokens.rest.now c.tokens.runs.items _
          c.in-Some.ensures.cases.0 refl c.tokens.invariant.reads (c.is_first.ensures ∙ c.if-is_first.true);
    }

pub tokens-preserved : goal.tokens-preserved
tokens-preserved c =
    let size = length c.items-tokens.result.now in
    record {
      within = omega (arith, c.tokens.invariant.within, ap (λ (ts : List Token). length ts) c.in-Some.ensures.cases.0);
      reads = passed c.args.script.now.text.now c.args.script.now.code.now size (size - length c.tokens.rest.now) c.tokens.joined c.in-Some.token.now c.in-Some.behind.now c.tokens.rest.now c.tokens.runs.items _
          c.in-Some.ensures.cases.0 refl c.tokens.invariant.reads (c.is_first.ensures ∙ c.if-is_first.false) (sym c.is_text.ensures ∙ c.if-is_text.false);
    }

pub returns : goal.returns
returns c =
    c.new.ensures ∙ ends c.args.script.now.text.now c.args.script.now.code.now (length c.items-tokens.result.now) c.tokens.joined c.tokens.rest.now c.tokens.runs.items _ c.tokens.invariant.reads c.in_default.ensures.cases

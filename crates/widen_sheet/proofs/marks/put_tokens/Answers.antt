use Rattle.widen_sheet.proofs.MarkSteps.{goes_on}
use Rattle.widen_sheet.proofs.marks.put_tokens.Goals as goal

pub tokens-preserved : goal.tokens-preserved
tokens-preserved c = record {
  gone = c.goes_behind-behind.ensures;
  put =
      goes_on c.args.text.now c.tokens.out.items c.put_between.new.out.items c.put_text.new.out.items c.tokens.prior c.mark_of-mark.result c.tokens.run c.run_behind-next.result c.goes_behind-behind.result c.in-Some.token.now c.in-Some.later.now c.tokens.rest.now
      _ c.in-Some.ensures.cases.0 c.goes_behind-behind.ensures c.mark_of-mark.ensures c.run_behind-next.ensures c.in_ok-put_between.ensures c.in_ok-put_text.ensures c.tokens.invariant.put;
}

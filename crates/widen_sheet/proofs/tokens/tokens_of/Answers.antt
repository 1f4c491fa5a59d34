use Rattle.std.proofs.Common.{◌≡◌, ◌<◌, length, ◌∙◌, rules}
use Rattle.text_bytes.proofs.Rests.{of_rest}
use Rattle.widen_sheet.specs.Views.{wide_view}
use Rattle.widen_sheet.proofs.TokenSteps.{goes_on, fails, ends, ends_wanted}
use Rattle.widen_sheet.proofs.tokens.tokens_of.Goals as goal

pub returns-in_default : goal.returns-in_default
returns-in_default c =
    let at = rw c.in_default.is at c.in_ok-kind.ensures.gives in
    let some : 0 < length c.tokens.rest.now = search rules in
    fails c.tokens.wanted c.tokens.rest.now (wide_view c.args.text.now c.tokens.tokens.items) _ at some c.tokens.invariant.reads

pub tokens-preserved : goal.tokens-preserved
tokens-preserved c =
    let at = rw c.in-Some.is at c.in_ok-kind.ensures.gives in
    let inner = rw c.in-Some.is at c.in_ok-kind.ensures.rest in
    let less = rw c.in-Some.is at c.in_ok-kind.ensures.shorter in
    record {
      rest = of_rest c.args.text.now c.tokens.rest.now c.in-Some.behind.now c.tokens.invariant.rest inner;
      reads = goes_on c.args.text.now c.tokens.rest.now c.in-Some.behind.now c.tokens.wanted c.in_ok-joins.joins c.tokens.tokens.items c.push_token.new.tokens.items c.in-Some.kind c.tokens.invariant.rest at inner less c.in_ok-joins.ensures.tokens c.in_ok-joins.ensures.wanted ∙ c.tokens.invariant.reads;
    }

pub returns-then-wanted : goal.returns-then-wanted
returns-then-wanted c =
    let none : length c.tokens.rest.now ≡ 0 = search rules in
    ends_wanted c.tokens.wanted c.tokens.rest.now (wide_view c.args.text.now c.tokens.tokens.items) _ c.if-wanted.true none c.tokens.invariant.reads

pub returns : goal.returns
returns c =
    let none : length c.tokens.rest.now ≡ 0 = search rules in
    ends c.tokens.wanted c.tokens.rest.now (wide_view c.args.text.now c.tokens.tokens.items) _ c.if-wanted.false none c.tokens.invariant.reads

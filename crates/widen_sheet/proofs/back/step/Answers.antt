use Rattle.std.proofs.Common.{sym, ◌∙◌}
use Rattle.widen_sheet.proofs.BackSteps.{behind_one, one_byte, no_mark}
use Rattle.widen_sheet.proofs.back.step.Goals as goal

pub returns-in-Some-clause-gives : goal.returns-in-Some-clause-gives
returns-in-Some-clause-gives c =
    let at = rw c.in-Some.is at c.mark_at.ensures.gives in
    let rest = rw c.in-Some.is at c.mark_at.ensures.rest in
    let less = rw c.in-Some.is at c.mark_at.ensures.shorter in
    behind_one c.args.size c.args.star c.args.text.now c.in-Some.own.now c.in-Some.behind.now c.args.out.now.items c.put.new.out.items at rest less c.in_ok-put.ensures

pub returns-then-is_alone-clause-fault : goal.returns-then-is_alone-clause-fault
returns-then-is_alone-clause-fault c other =
    let at = rw c.in_default.is at c.mark_at.ensures.gives in
    no_mark c.args.size c.args.star c.args.text.now at (sym c.is_alone.ensures ∙ c.if-is_alone.true) c.requires.some

pub returns-clause-gives : goal.returns-clause-gives
returns-clause-gives c =
    let at = rw c.in_default.is at c.mark_at.ensures.gives in
    one_byte c.args.size c.args.star c.args.text.now c.split_at.result.0.now c.split_at.result.1.now c.args.out.now.items c.put-2.new.out.items at (sym c.is_alone.ensures ∙ c.if-is_alone.false) c.requires.some c.split_at.ensures.front c.split_at.ensures.back c.in_ok-put-2.ensures

use Rattle.jq_sem.proofs.SetLemmas.{on_ok}
use Rattle.jq_exact.specs.Together.{stood}
use Rattle.jq_exact.proofs.FirstLemmas.{block_leads, some_parts, firsts_begin, set_begin, firsts_more, set_more, firsts_done, none_left}
use Rattle.jq_exact.proofs.evaluation.with_firsts.Goals as goal

pub firsts-init : goal.firsts-init
firsts-init c =
    let t = c.args.tree.now in
    let calls = stood c.args.calls.now.sharp.now c.args.calls.now.handler c.args.calls.now.calls.now c.args.numbers.now in
    record {
      parted = c.lead_back.ensures c.if-not-lead_back.false;
      some = set_begin t c.args.named.now c.in_ok-marks.marks c.in_ok-marks.ensures c.requires;
      same = firsts_begin t c.args.named.now c.in_ok-marks.marks calls c.in_ok-marks.ensures;
    }

pub least_made-requires : goal.least_made-requires
least_made-requires c =
    let ask = c.in-Some.ensures.some in
    rw c.up_to-block.ensures (block_leads c.args.calls.now.sharp.now c.args.calls.now.handler c.args.calls.now.calls.now c.firsts.rest.now c.in-Some.place ask.0 ask.1 c.firsts.invariant.parted ask.2)

pub firsts-preserved : goal.firsts-preserved
firsts-preserved c =
    let ask = c.in-Some.ensures.some in
    let t = c.args.tree.now in
    let sharp = c.args.calls.now.sharp.now in
    let h = c.args.calls.now.handler in
    let calls = c.args.calls.now.calls.now in
    let rest = c.firsts.rest.now in
    let p = c.in-Some.place in
    let marks = c.firsts.marks in
    let made = c.in_ok-firsts.firsts in
    let none = c.firsts.none in
    let ranks = c.in_ok-least.least.ranks in
    let r = c.in_ok-least.least.of_none in
    let least = rw c.up_to-block.ensures at c.in_ok-least.ensures in
    rw c.behind-rest.ensures (record {
      parted = (some_parts sharp h calls rest p ask.0 ask.1 c.firsts.invariant.parted).0;
      some = set_more sharp h calls t marks made none c.is_none_made-none.result rest p ranks r ask.0 ask.1 least c.in_ok-firsts.ensures c.is_none_made-none.ensures c.firsts.invariant.some;
      same = firsts_more sharp h calls t marks made none c.is_none_made-none.result rest p ranks r ask.0 ask.1 least c.in_ok-firsts.ensures c.is_none_made-none.ensures c.args.named.now c.args.numbers.now c.firsts.invariant.same;
    })

pub returns : goal.returns
returns c =
    on_ok c.of_calls.result _ _ (λ m made. firsts_done c.args.tree.now c.args.named.now c.firsts.marks c.firsts.none m (stood c.args.calls.now.sharp.now c.args.calls.now.handler c.args.calls.now.calls.now c.args.numbers.now) (stood c.args.calls.now.sharp.now c.args.calls.now.handler c.args.calls.now.calls.now c.firsts.rest.now)
    c.firsts.invariant.parted (c.first_ask.ensures.none (none_left c.first_ask.result c.in_default.not-Some)) c.firsts.invariant.some c.firsts.invariant.same made) c.of_calls.ensures

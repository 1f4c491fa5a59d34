use Rattle.std.proofs.Common.{◌<◌, length, sym, subst, arith}
use Rattle.std.proofs.lemmas.Option.{slice_get-get_or}
use Rattle.proof_maker.proofs.MakeLemmas.{entries_more}
use Rattle.proof_maker.proofs.ItemsLemmas.{made_with}
use Rattle.proof_maker.proofs.entries.entries_of.Goals as goal

pub loop-i-preserved : goal.loop-i-preserved
loop-i-preserved c =
    let keys = c.as_slice.result.now in
    let order = c.args.order.now.keys in
    let less = c.loop-i-test.true in
    let long = c.len-i-end.ensures.len in
    let within : c.loop-i.i < length keys = subst (λ xs. c.loop-i.i < length xs) (sym c.as_slice.ensures.keys) (omega (arith, less, long)) in
    entries_more c.args.needs.now order c.args.system.now c.args.orders.now c.loop-i.i _ keys c.deref.result.now _ c.loop-i.entries c.push.new.self c.in_ok-entry.entry
    c.as_slice.ensures.keys (slice_get-get_or keys c.loop-i.i _ within) c.requires.orders c.deref.ensures.value c.loop-i.invariant (made_with c.args.needs.now order c.in_ok-items.items.items c.deref.result.now _ c.in_ok-entry.entry c.in_ok-items.ensures c.in_ok-entry.ensures.made) c.in_ok-entry.ensures.steps c.in_ok-push.ensures.ok

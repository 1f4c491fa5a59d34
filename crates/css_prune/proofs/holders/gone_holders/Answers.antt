use Rattle.std.proofs.Common.{◌≡◌, ◌+◌, ◌-◌, ◌<◌, false, length, get_or, None, refl, ap, ◌∙◌, arith}
use Rattle.std.proofs.lemmas.List.{length-replicate, length-set}
use Rattle.css_read.specs.declared.holders.Holder.{Holder}
use Rattle.css_prune.proofs.HoldingLemmas.{none_done, one_done}
use Rattle.css_prune.proofs.holders.gone_holders.Goals as goal

pub holders-init : goal.holders-init
holders-init c =
    let list = c.items-list.result.now in
    let flags : length c.in_ok-gone.gone.items ≡ length list = ap length c.in_ok-gone.ensures ∙ length-replicate _ _ in
    let states : length c.in_ok-held.held.items ≡ length list = ap length c.in_ok-held.ensures ∙ length-replicate _ _ in
    let done = none_done c.items.result.now c.args.rules.now list (length list) c.in_ok-held.held.items c.tell_rules.new.held.items c.in_ok-gone.gone.items refl c.in_ok-held.ensures
    c.tell_rules.ensures.count flags c.tell_rules.ensures.each in
    rw (← c.items.ensures) (record { within = omega arith; states = c.tell_rules.ensures.count ∙ states; flags = flags; gone = done.0; held = done.1 })

pub holders-preserved : goal.holders-preserved
holders-preserved c =
    let list = c.items-list.result.now in
    let before = c.holders.invariant in
    let n = c.holders.number - 1 in
    let default : Holder = record { from = 0; brace = 0; to = 0; inside = None; loose = false; bare = false } in
    let next : c.holders.number ≡ n + 1 = omega (arith, c.holders-test.true) in
    let within : n < length list = omega (arith, before.within, c.holders-test.true) in
    let done = one_done c.args.holders.now.of_rule c.args.rules.now list c.holders.number n (get_or list n default) default c.index.result.now c.holders.held.items c.tell.new.held.items c.holders.gone.items
    c.can_go-goes.result next within refl before.flags before.states before.gone before.held c.index.ensures c.can_go-goes.ensures c.tell.ensures in
    record {
      within = omega (arith, within);
      states = c.tell.ensures.count ∙ before.states;
      flags = length-set c.holders.gone.items n c.can_go-goes.result ∙ before.flags;
      gone = done.0;
      held = done.1;
    }

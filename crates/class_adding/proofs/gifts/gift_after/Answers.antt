use Rattle.std.proofs.Common.{◌^◌, List, Contains, sym, subst}
use Rattle.tp_base.proofs.Rising.{Contains-behind}
use Rattle.rule_index.proofs.IndexLemmas.{first_rest}
use Rattle.class_adding.specs.declared.gifts.Gift.{Gift}
use Rattle.class_adding.proofs.GiftLemmas.{gifts_next, first_early}
use Rattle.class_adding.proofs.gifts.gift_after.Goals as goal

pub gifts-preserved : goal.gifts-preserved
gifts-preserved c =
    let split = first_rest c.gifts.rest.now c.in-Some.gift.now c.in-Some.others.now c.in-Some.ensures.cases in
    record {
      same = λ m le before behind.
          let both = c.sooner-wake.ensures.before m before in
          c.gifts.invariant.same m le both.0 (gifts_next c.args.k m c.gifts.rest.now c.in-Some.gift.now c.in-Some.others.now split (c.later.ensures.same m le both.1) behind);
      after = c.sooner-wake.ensures.after c.args.k c.gifts.invariant.after c.later.ensures.after;
      bound = c.sooner-wake.ensures.below (2 ^ 62) c.gifts.invariant.bound (first_early c.gifts.rest.now c.in-Some.gift.now c.in-Some.others.now c.later.result split c.gifts.invariant.early c.later.ensures.round);
      early = λ g there. c.gifts.invariant.early g (subst (λ (z : List Gift). Contains z g) (sym split) (Contains-behind g c.in-Some.gift.now c.in-Some.others.now there));
    }

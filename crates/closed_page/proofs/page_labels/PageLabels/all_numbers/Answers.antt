use Rattle.std.proofs.Common.{List, ℕ, length, Contains, subst, arith}
use Rattle.tp_base.proofs.Rising.{Contains-none}
use Rattle.closed_page.proofs.CallLemmas.{number_within, number_more}
use Rattle.closed_page.proofs.page_labels.PageLabels.all_numbers.Goals as goal

pub loop-i-init : goal.loop-i-init
loop-i-init c = record {
  within = λ j there. absurd (Contains-none j (subst (λ (z : List ℕ). Contains z j) c.new-numbers.ensures.items there));
  whole = λ j less. absurd (omega arith);
  count = c.count-count.ensures;
}

pub loop-i-preserved : goal.loop-i-preserved
loop-i-preserved c = record {
  within = number_within c.loop-i.numbers.items c.push.new.self.items c.loop-i.i (length c.args.self.now.nodes) c.in_ok-push.ensures.items (omega (arith, c.loop-i-test.true, c.loop-i.invariant.count)) c.loop-i.invariant.within;
  whole = number_more c.loop-i.numbers.items c.push.new.self.items c.loop-i.i c.in_ok-push.ensures.items c.loop-i.invariant.whole;
  count = c.loop-i.invariant.count;
}

pub returns : goal.returns
returns c = λ j. (c.loop-i.invariant.within j, λ less. c.loop-i.invariant.whole j (omega (arith, less, c.loop-i-test.false, c.loop-i.invariant.count)))

use Rattle.std.proofs.Common.{ℕ, List, Contains, sym, arith, subst}
use Rattle.std.proofs.lemmas.List.{take_all}
use Rattle.tp_base.proofs.Rising.{Contains-none}
use Rattle.closed_page.proofs.NoteLemmas.{either_more}
use Rattle.closed_page.proofs.shared_set.are_in_either.Goals as goal

pub loop-i-init : goal.loop-i-init
loop-i-init c = λ a there. absurd (Contains-none a there)

pub loop-i-preserved : goal.loop-i-preserved
loop-i-preserved c = either_more c.args.set.now c.args.first.now c.args.second.now c.loop-i.i c.at.result c.at.ensures c.loop-i.invariant (c.has_either.ensures c.if-not-has_either.false)

pub returns : goal.returns
returns c = λ is a there.
    let all = take_all c.loop-i.i c.args.set.now (omega (arith, c.loop-i-test.false, c.len-i-end.ensures.count)) in
    c.loop-i.invariant a (subst (λ (z : List ℕ). Contains z a) (sym all) there)

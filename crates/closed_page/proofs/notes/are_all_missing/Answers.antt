use Rattle.std.proofs.Common.{◌≡◌, List, ℕ, Contains, true, arith, refl, sym, subst}
use Rattle.std.proofs.lemmas.List.{take_all}
use Rattle.tp_base.proofs.Lists.{Contains-at}
use Rattle.tp_base.proofs.Rising.{Contains-none}
use Rattle.closed_page.proofs.NoteLemmas.{missing_more}
use Rattle.closed_page.proofs.notes.are_all_missing.Goals as goal

pub loop-i-init : goal.loop-i-init
loop-i-init c = λ a there in_other. Contains-none a there

pub loop-i-preserved : goal.loop-i-preserved
loop-i-preserved c =
    missing_more c.args.set.now c.args.other.now c.loop-i.i c.at.result c.at.ensures c.loop-i.invariant
    (λ in_other. let found : c.has.result ≡ true = c.has.ensures.member.1 in_other in let no = c.if-has.false in cc)

pub returns : goal.returns
returns c = (
  λ is a there in_other.
      let all = take_all c.loop-i.i c.args.set.now (omega (arith, c.loop-i-test.false, c.len-i-end.ensures.count)) in
      c.loop-i.invariant a (subst (λ (z : List ℕ). Contains z a) (sym all) there) in_other,
  λ missing. refl,
)

pub returns-then-has : goal.returns-then-has
returns-then-has c = (λ is. cc, λ missing. absurd (missing c.at.result (Contains-at c.args.set.now c.loop-i.i c.at.result c.at.ensures) (c.has.ensures.member.0 c.if-has.true)))

use Rattle.std.proofs.Common.{sym, ◌∙◌}
use Rattle.tp_base.proofs.ClassLemmas.{all_among-All, All-all_among}
use Rattle.tp_base.proofs.class_set.ClassSet.within.Goals as goal

pub returns-clause-test : goal.returns-clause-test
returns-clause-test c = rw (← c.self.view_is, ← c.other.view_is, ← c.deref.ensures.value, ← c.deref-2.ensures.value) c.are_among.ensures

pub returns-clause-members : goal.returns-clause-members
returns-clause-members c =
    let xs = c.args.self.now in
    let ys = c.args.other.now in
    let test = returns-clause-test c in
    (λ yes. all_among-All xs ys (sym test ∙ yes), λ all. test ∙ All-all_among xs ys all)

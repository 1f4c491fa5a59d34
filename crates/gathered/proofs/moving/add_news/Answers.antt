use Rattle.std.proofs.Common.{ap, sym, ◌∙◌}
use Rattle.gathered.proofs.MovingLemmas.{next_new, next_old}
use Rattle.gathered.proofs.moving.add_news.Goals.{then-not-has+in_ok-push, else-not-has}
use Rattle.gathered.proofs.moving.add_news.Goals as goal

pub loop-i-preserved : goal.loop-i-preserved
loop-i-preserved c =
    elim c.if-not-has.branch [
      | then-not-has+in_ok-push w ↦
          next_new c.args.set.now c.args.given.now c.args.news.now.items c.loop-i.news.items c.if-not-has.news.items c.loop-i.i c.at-atom.result c.at-atom.ensures (sym c.has.ensures.test ∙ w.if-not-has.true) c.loop-i.invariant
          (ap (λ v. v.items) w.news-is ∙ w.in_ok-push.ensures.items)
      | else-not-has w ↦
          next_old c.args.set.now c.args.given.now c.args.news.now.items c.loop-i.news.items c.if-not-has.news.items c.loop-i.i c.at-atom.result c.at-atom.ensures (sym c.has.ensures.test ∙ w.if-not-has.false) c.loop-i.invariant
          (ap (λ v. v.items) w.news-is)
    ]

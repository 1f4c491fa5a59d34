use Rattle.std.proofs.Common.{◌∙◌, ℕ, List, subst}
use Rattle.gathered.specs.Between.{IsBetween}
use Rattle.gathered.proofs.GatheredLemmas.{with_set}
use Rattle.gathered.proofs.MovingLemmas.{in_order, in_order_of, on_err}
use Rattle.gathered.proofs.moving.move_few.Goals as goal

pub returns-clause-set : goal.returns-clause-set
returns-clause-set c = c.in_ok-add_each.ensures.set ∙ with_set c.args.set.now c.args.atoms.now c.requires.rises

pub returns-clause-news : goal.returns-clause-news
returns-clause-news c =
    in_order c.args.set.now c.args.atoms.now c.add_each.new.set c.order.new.news.items c.in_ok-add_each.ensures.set c.order.ensures.rises (λ a. in_order_of (c.order.ensures.same a) (c.in_ok-add_each.ensures.news a))

pub returns-in_err-add_each-clause-between : goal.returns-in_err-add_each-clause-between
returns-in_err-add_each-clause-between c =
    on_err _ c.from_residual.result (subst (λ (most : List ℕ). IsBetween c.args.set.now most c.add_each.new.set) (with_set c.args.set.now c.args.atoms.now c.requires.rises) c.in_err-add_each.ensures.between)

use Rattle.std.proofs.Common.{◌≡◌, ◌++◌, take, not}
use Rattle.std.specs.List.{filter}
use Rattle.tp_base.specs.Classes.{has_class}
use Rattle.gathered.proofs.moving.add_news.Given as goal

abbrev pub invariant-loop-i : goal.invariant-loop-i
invariant-loop-i l = l.news.items ≡ l.initial.news.items ++ filter (λ a. not (has_class a l.set)) (take l.i l.given)

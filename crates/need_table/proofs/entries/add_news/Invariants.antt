use Rattle.std.proofs.Common.{◌≡◌, ◌++◌, map, length}
use Rattle.need_table.proofs.entries.add_news.Given as goal

abbrev pub invariant-atoms : goal.invariant-atoms
invariant-atoms l = l.firsts.items ++ map (λ a. record { atom = a; round = l.round }) l.rest ≡ l.initial.firsts.items ++ map (λ a. record { atom = a; round = l.round }) l.news

abbrev pub decreases-atoms : goal.decreases-atoms
decreases-atoms l = length l.rest

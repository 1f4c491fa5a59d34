use Rattle.std.proofs.Common.{rules, of_calls}
use Rattle.std.proofs.lemmas.Fn.{always_returns_same}
use Rattle.std.proofs.lemmas.List.Sorted.{Contains-permutation, IsPermutation-sym}
use Rattle.closed_page.specs.declared.notes.NodeNews.{NodeNews}
use Rattle.closed_page.proofs.RowLemmas.{moved_firsts}
use Rattle.closed_page.proofs.first_rows.in_order.Goals as goal

pub returns-clause-sorted : goal.returns-clause-sorted
returns-clause-sorted c = c.in_ok-sort_by_key.ensures.sorted (λ (n : NodeNews). n.spot) (always_returns_same _ _ _ (λ a r f k. search (rules, of_calls)))

pub returns-clause-on : goal.returns-clause-on
returns-clause-on c = moved_firsts c.args.notes.now.items c.sort_by_key.new.self.items (λ n there. Contains-permutation c.args.notes.now.items c.sort_by_key.new.self.items n c.sort_by_key.ensures.permutation there)

pub returns-clause-back : goal.returns-clause-back
returns-clause-back c =
    moved_firsts c.sort_by_key.new.self.items c.args.notes.now.items
    (λ n there. Contains-permutation c.sort_by_key.new.self.items c.args.notes.now.items n (IsPermutation-sym c.args.notes.now.items c.sort_by_key.new.self.items c.sort_by_key.ensures.permutation) there)

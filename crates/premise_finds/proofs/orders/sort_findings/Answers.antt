use Rattle.std.proofs.Common.{rules, ◌≡◌, ℕ}
use Rattle.std.proofs.lemmas.Fn.{always_returns_same}
use Rattle.premise_finds.specs.declared.findings.Finding.{Finding}
use Rattle.premise_finds.specs.Orders.{rank}
use Rattle.premise_finds.proofs.orders.sort_findings.Goals as goal

abbrev key : Finding → ℕ × ℕ
key f = (f.from, rank f.name)

pub returns : goal.returns
returns c = record {
  same = c.in_ok-sort_by_key.ensures.permutation;
  sorted = c.in_ok-sort_by_key.ensures.sorted key (always_returns_same _ (λ a r. r ≡ key a.0.now) _ (λ a r q k. search rules));
  stable = c.in_ok-sort_by_key.ensures.stable key (always_returns_same _ (λ a r. r ≡ key a.0.now) _ (λ a r q k. search rules));
}

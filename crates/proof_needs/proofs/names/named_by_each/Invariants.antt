use Rattle.std.proofs.Common.{◌≡◌, ◌++◌, ℕ, map, drop, Vec}
use Rattle.std.specs.Global.{Global}
use Rattle.proof_needs.specs.declared.orders.Order.{Order}
use Rattle.proof_needs.specs.Names.{named_all}
use Rattle.proof_needs.proofs.names.named_by_each.Given as goal

abbrev pub invariant-loop-order : goal.invariant-loop-order
invariant-loop-order l = map (λ (v : Vec ℕ Global). v.items) l.names.items ++ map (λ (o : Order). named_all l.drafts o.wants.items) (drop l.order-index l.orders) ≡ map (λ (o : Order). named_all l.drafts o.wants.items) l.orders

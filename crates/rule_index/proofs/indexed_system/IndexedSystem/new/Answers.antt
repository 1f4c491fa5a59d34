use Rattle.std.proofs.Common.{subst}
use Rattle.rule_index.specs.Indexes.{AreLocalsAt, AreRareAt, AreLinksAt, AreSpawnsAt}
use Rattle.rule_index.proofs.indexed_system.IndexedSystem.new.Goals as goal

pub invariant_of-result : goal.invariant_of-result
invariant_of-result c = record {
  of_local = subst (λ z. AreLocalsAt z c.in_ok-local.local) c.items.ensures c.in_ok-local.ensures;
  of_rare = subst (λ z. AreRareAt z c.in_ok-rare.rare) c.items-2.ensures c.in_ok-rare.ensures;
  of_up = subst (λ z. AreLinksAt z c.in_ok-up.up) c.items-3.ensures c.in_ok-up.ensures;
  of_down = subst (λ z. AreLinksAt z c.in_ok-down.down) c.items-4.ensures c.in_ok-down.ensures;
  of_child = subst (λ z. AreSpawnsAt z c.in_ok-child.child) c.items-5.ensures c.in_ok-child.ensures;
}

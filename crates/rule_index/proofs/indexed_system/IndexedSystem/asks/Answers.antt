use Rattle.std.proofs.Common.{Contains, sym, inl, inr, subst}
use Rattle.std.proofs.lemmas.Bool.{both_ways}
use Rattle.simple_core.specs.declared.system.System.{System}
use Rattle.rule_index.proofs.indexed_system.IndexedSystem.asks.Goals as goal

pub returns-else-has : goal.returns-else-has
returns-else-has c = λ quiet asks. elim asks [
  | inl seen ↦ both_ways c.has.result c.if-has.false (c.has.ensures.member.1 (subst (λ (s : System). Contains s.visible c.args.atom) (sym c.self.view_is) seen))
  | inr child ↦ c.spawns.ensures quiet child.0 child.1 child.2
]

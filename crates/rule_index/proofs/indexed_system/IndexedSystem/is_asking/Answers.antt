use Rattle.std.proofs.Common.{ℕ, List, Contains, arith, subst}
use Rattle.std.proofs.lemmas.List.{take_all}
use Rattle.rule_index.specs.Asking.{AsksAnew}
use Rattle.rule_index.proofs.IndexLemmas.{quiet_more}
use Rattle.rule_index.proofs.indexed_system.IndexedSystem.is_asking.Goals as goal

pub loop-i-preserved : goal.loop-i-preserved
loop-i-preserved c = quiet_more (AsksAnew c.args.self.now) c.args.fresh.now c.loop-i.i c.at.result c.at.ensures c.loop-i.invariant (c.asks.ensures c.if-asks.false)

pub returns : goal.returns
returns c = λ none. subst (λ (z : List ℕ). (a : ℕ) → Contains z a → AsksAnew c.args.self.now a → ⊥) (take_all c.loop-i.i c.args.fresh.now (omega (arith, c.loop-i-test.false))) c.loop-i.invariant

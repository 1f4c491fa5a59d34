use Rattle.simple_core.specs.declared.summaries.First.{First}
use Rattle.rule_index.specs.Asking.{AsksAnew}
use Rattle.rule_index.proofs.IndexLemmas.{first_rest, left_fewer, none_left}
use Rattle.rule_index.proofs.indexed_system.IndexedSystem.is_asking_by.Goals as goal

pub firsts-preserved : goal.firsts-preserved
firsts-preserved c =
    left_fewer (λ (f : First). AsksAnew c.args.self.now f.atom → ⊥) c.args.fresh.now c.firsts.rest.now c.in-Some.others.now c.in-Some.first.now
    (first_rest c.firsts.rest.now c.in-Some.first.now c.in-Some.others.now c.in-Some.ensures.cases) c.firsts.invariant (c.is_looked_at.ensures c.if-is_looked_at.false)

pub returns : goal.returns
returns c = λ none f there. none_left (λ (f : First). AsksAnew c.args.self.now f.atom → ⊥) c.args.fresh.now c.firsts.rest.now c.in_default.ensures.cases c.firsts.invariant f there

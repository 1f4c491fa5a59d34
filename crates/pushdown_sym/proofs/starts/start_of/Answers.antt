use Rattle.std.proofs.Common.{nat_lt, rules, of_calls}
use Rattle.std.proofs.lemmas.Fn.{always_returns_same}
use Rattle.std.proofs.lemmas.List.Sorted.{IsPartitionedBy-ltb}
use Rattle.pushdown_sym.proofs.starts.start_of.Goals as goal

pub returns-then-parts-clause-within : goal.returns-then-parts-clause-within
returns-then-parts-clause-within c = c.parts.ensures.within c.if-parts.true

pub returns-then-parts-clause-start : goal.returns-then-parts-clause-start
returns-then-parts-clause-start c = c.parts.ensures.start c.if-parts.true

pub returns-then-parts-2-clause-within : goal.returns-then-parts-2-clause-within
returns-then-parts-2-clause-within c = c.parts-2.ensures.within c.if-parts-2.true

pub returns-then-parts-2-clause-start : goal.returns-then-parts-2-clause-start
returns-then-parts-2-clause-start c = c.parts-2.ensures.start c.if-parts-2.true

pub returns-clause-start : goal.returns-clause-start
returns-clause-start c =
    c.partition_point.ensures.partitioned (λ b. nat_lt b c.args.number) (always_returns_same _ _ _ (λ a r f k. search (rules, of_calls)))
    (IsPartitionedBy-ltb (λ b. b) c.args.atoms.now c.args.number c.requires)

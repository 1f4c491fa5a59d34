use Rattle.proof_core.proofs.worlds.ChildCounts.add.Goals as goal

pub returns-in_ok-insert-clause-others : goal.returns-in_ok-insert-clause-others
returns-in_ok-insert-clause-others c j other = c.in_ok-insert.ensures.updates.2 j other

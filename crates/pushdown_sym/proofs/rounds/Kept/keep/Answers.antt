use Rattle.pushdown_sym.proofs.rounds.Kept.keep.Goals as goal

pub returns-clause-ok : goal.returns-clause-ok
returns-clause-ok c = rw (← c.self.view_is) (λ a. c.in_ok-insert.ensures.updates.0 a)

use Rattle.class_adding.proofs.due.kids_told.Goals as goal

pub returns-then-look-clause-within : goal.returns-then-look-clause-within
returns-then-look-clause-within c = λ i there. (c.kids.ensures.kids.only i there).0

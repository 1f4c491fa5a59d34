use Rattle.class_adding.proofs.DueLemmas.{near_more}
use Rattle.class_adding.proofs.due.next_due.Goals as goal

pub returns-clause-within : goal.returns-clause-within
returns-clause-within c = λ i there. c.in_ok-due.ensures.within i ((c.in_ok-ordered.ensures i).0 there)

pub returns-clause-near : goal.returns-clause-near
returns-clause-near c = λ l there grew.
    near_more c.args.labels.now.nodes l c.in_ok-due.due.items c.in_ok-ordered.ordered.items (λ i in_due. (c.in_ok-ordered.ensures i).1 in_due) (c.in_ok-due.ensures.near l there grew)

pub returns-clause-woken : goal.returns-clause-woken
returns-clause-woken c = λ i there. (c.in_ok-ordered.ensures i).1 (c.in_ok-due.ensures.woken i there)

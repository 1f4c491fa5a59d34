use Rattle.std.proofs.Common.{ℕ, List, ◌<◌, length, Contains, sym, subst}
use Rattle.class_adding.specs.declared.looking.Look.{Look}
use Rattle.closed_page.specs.Labelled.{AreKidsAll}
use Rattle.class_adding.specs.Work.{AreNumbers, nodes_in}
use Rattle.class_adding.proofs.filling.take_round.Goals as goal

pub take_looks-requires-clause-numbers : goal.take_looks-requires-clause-numbers
take_looks-requires-clause-numbers c = λ l there.
    subst (λ (z : List (List ℕ)). l.number < length z) (sym c.in_ok-apply_gains.ensures.nodes) (c.requires.numbers l (subst (λ (z : List Look). Contains z l) c.deref-2.ensures.value there))

pub take_looks-requires-clause-only : goal.take_looks-requires-clause-only
take_looks-requires-clause-only c = subst (λ (z : List (List ℕ)). AreKidsAll z c.args.filling.now.work.callers) (sym c.in_ok-apply_gains.ensures.nodes) c.requires.working.only

pub take_looks-requires-clause-awaited : goal.take_looks-requires-clause-awaited
take_looks-requires-clause-awaited c = λ r.
    subst (λ (z : List (List ℕ)). AreNumbers z (nodes_in c.args.filling.now.work.awaited r)) (sym c.in_ok-apply_gains.ensures.nodes) (c.requires.working.numbers r)

use Rattle.need_table.specs.Tables.{IsNotAt}
use Rattle.rule_index.proofs.IndexLemmas.{first_rest}
use Rattle.need_table.proofs.RowLemmas.{left_next, left_none}
use Rattle.need_table.proofs.entry_table.place_among.Goals as goal

pub places-preserved : goal.places-preserved
places-preserved c =
    left_next (IsNotAt c.args.entries.now (c.args.kind, c.args.parent.now)) (IsNotAt c.args.entries.now (c.args.kind, c.args.parent.now)) c.args.places.now c.places.rest.now c.in-Some.others.now c.in-Some.place.now
    (first_rest c.places.rest.now c.in-Some.place.now c.in-Some.others.now c.in-Some.ensures.cases) c.places.invariant (c.has_pair.ensures.no c.if-has_pair.false) (λ i none. none)

pub returns-clause-none : goal.returns-clause-none
returns-clause-none c = λ is. left_none (IsNotAt c.args.entries.now (c.args.kind, c.args.parent.now)) c.args.places.now c.places.rest.now c.in_default.ensures.cases c.places.invariant

use Rattle.std.proofs.Common.{◌∙◌}
use Rattle.rule_index.specs.Indexes.{at_place, to_of}
use Rattle.rule_index.proofs.IndexLemmas.{first_rest, row_next, row_end, kept_then, between_row, on_err}
use Rattle.rule_index.proofs.indexed_system.add_links.Goals as goal

pub places-preserved : goal.places-preserved
places-preserved c = record {
  whole =
      row_next to_of c.args.links.now c.places.next c.add_link.new.next c.places.rest.now c.in-Some.place.now c.in-Some.others.now (first_rest c.places.rest.now c.in-Some.place.now c.in-Some.others.now c.in-Some.ensures.cases) c.in_ok-add_link.ensures.ok
      ∙ c.places.invariant.whole;
  kept = kept_then c.args.next.now c.places.next c.add_link.new.next (at_place to_of c.args.links.now c.in-Some.place.now) c.places.invariant.kept c.in_ok-add_link.ensures.ok;
}

pub returns-clause-ok : goal.returns-clause-ok
returns-clause-ok c = row_end to_of c.args.links.now c.places.next c.args.next.now c.places.rest.now c.args.row.now c.in_default.ensures.cases c.places.invariant.whole

pub returns-in_err-add_link-clause-err : goal.returns-in_err-add_link-clause-err
returns-in_err-add_link-clause-err c =
    on_err _ c.from_residual.result (between_row to_of c.args.links.now c.args.next.now c.places.next c.add_link.new.next c.places.rest.now c.in-Some.place.now c.in-Some.others.now c.args.row.now
    (first_rest c.places.rest.now c.in-Some.place.now c.in-Some.others.now c.in-Some.ensures.cases) c.places.invariant.whole c.places.invariant.kept c.in_err-add_link.ensures.err)

use Rattle.std.proofs.Common.{◌∙◌}
use Rattle.rule_index.specs.Indexes.{at_place, given_in}
use Rattle.rule_index.proofs.IndexLemmas.{first_rest, row_next, row_end, kept_then, between_row, on_err}
use Rattle.rule_index.proofs.indexed_system.add_rules_by.Goals as goal

pub places-preserved : goal.places-preserved
places-preserved c = record {
  whole =
      row_next (given_in c.args.label.now) c.args.rules.now c.places.next c.add_rule_by.new.next c.places.rest.now c.in-Some.place.now c.in-Some.others.now (first_rest c.places.rest.now c.in-Some.place.now c.in-Some.others.now c.in-Some.ensures.cases) c.in_ok-add_rule_by.ensures.ok
      ∙ c.places.invariant.whole;
  kept = kept_then c.args.next.now c.places.next c.add_rule_by.new.next (at_place (given_in c.args.label.now) c.args.rules.now c.in-Some.place.now) c.places.invariant.kept c.in_ok-add_rule_by.ensures.ok;
}

pub returns-clause-ok : goal.returns-clause-ok
returns-clause-ok c = row_end (given_in c.args.label.now) c.args.rules.now c.places.next c.args.next.now c.places.rest.now c.args.row.now c.in_default.ensures.cases c.places.invariant.whole

pub returns-in_err-add_rule_by-clause-err : goal.returns-in_err-add_rule_by-clause-err
returns-in_err-add_rule_by-clause-err c =
    on_err _ c.from_residual.result (between_row (given_in c.args.label.now) c.args.rules.now c.args.next.now c.places.next c.add_rule_by.new.next c.places.rest.now c.in-Some.place.now c.in-Some.others.now c.args.row.now
    (first_rest c.places.rest.now c.in-Some.place.now c.in-Some.others.now c.in-Some.ensures.cases) c.places.invariant.whole c.places.invariant.kept c.in_err-add_rule_by.ensures.err)

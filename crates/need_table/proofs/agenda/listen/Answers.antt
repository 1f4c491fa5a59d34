use Rattle.std.proofs.Common.{◌≤◌, ◌-◌, Contains}
use Rattle.need_table.specs.Rows.{row_in}
use Rattle.rule_index.proofs.IndexLemmas.{first_rest}
use Rattle.need_table.proofs.RowLemmas.{left_next, left_none}
use Rattle.need_table.proofs.agenda.listen.Goals as goal

pub places-preserved : goal.places-preserved
places-preserved c =
    let split = first_rest c.places.rest.now c.in-Some.j.now c.in-Some.others.now c.in-Some.ensures.cases in
    let more = c.in_ok-known.ensures.more in
    record {
      heard = left_next (λ j. c.args.first ≤ j → Contains (row_in c.places.askers (j - c.args.first)) c.args.i) (λ j. c.args.first ≤ j → Contains (row_in c.listen_at.new.askers (j - c.args.first)) c.args.i)
          c.args.new.now c.places.rest.now c.in-Some.others.now c.in-Some.j.now split c.places.invariant.heard c.in_ok-known.ensures.heard (λ j heard le. more (j - c.args.first) c.args.i (heard le));
      more = λ q j there. more q j (c.places.invariant.more q j there);
    }

pub returns-clause-heard : goal.returns-clause-heard
returns-clause-heard c = left_none (λ j. c.args.first ≤ j → Contains (row_in c.places.askers (j - c.args.first)) c.args.i) c.args.new.now c.places.rest.now c.in_default.ensures.cases c.places.invariant.heard

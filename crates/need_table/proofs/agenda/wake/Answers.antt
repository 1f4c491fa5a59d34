use Rattle.std.proofs.Common.{Contains, arith}
use Rattle.need_table.specs.Rows.{row_in, IsRicher}
use Rattle.rule_index.proofs.IndexLemmas.{first_rest}
use Rattle.need_table.proofs.RowLemmas.{added_richer, added_here, added_same, same_twice, left_next, left_none}
use Rattle.need_table.proofs.agenda.wake.Goals as goal

pub places-preserved : goal.places-preserved
places-preserved c =
    let split = first_rest c.places.rest.now c.in-Some.place.now c.in-Some.others.now c.in-Some.ensures.cases in
    let more : IsRicher c.places.due c.add.new.self = added_richer c.places.due c.add.new.self c.args.k c.in-Some.place.now c.in_ok-add.ensures.added c.in_ok-add.ensures.others in
    record {
      woken = left_next (λ a. Contains (row_in c.places.due c.args.k) a) (λ a. Contains (row_in c.add.new.self c.args.k) a) c.args.places.now c.places.rest.now c.in-Some.others.now c.in-Some.place.now split
          c.places.invariant.woken (added_here c.places.due c.add.new.self c.args.k c.in-Some.place.now c.in_ok-add.ensures.added) (λ a there. more c.args.k a there);
      more = λ q j there. more q j (c.places.invariant.more q j there);
      same = same_twice c.args.k c.args.due.now c.places.due c.add.new.self c.places.invariant.same (added_same c.places.due c.add.new.self c.args.k c.args.k (omega arith) c.in_ok-add.ensures.others);
    }

pub returns-clause-woken : goal.returns-clause-woken
returns-clause-woken c = left_none (λ a. Contains (row_in c.places.due c.args.k) a) c.args.places.now c.places.rest.now c.in_default.ensures.cases c.places.invariant.woken

use Rattle.std.proofs.Common.{◌≡◌, ◌≤◌, Some, slice_get, Contains}
use Rattle.simple_core.specs.declared.summaries.First.{First}
use Rattle.need_table.specs.declared.entries.Entry.{Entry}
use Rattle.need_table.specs.Rows.{IsRicher, IsDue}
use Rattle.rule_index.proofs.IndexLemmas.{first_rest}
use Rattle.need_table.proofs.RowLemmas.{added_richer, added_here, added_same, same_twice, due_later, left_next, left_none}
use Rattle.need_table.proofs.agenda.expect.Goals as goal

pub places-preserved-in_ok-add : goal.places-preserved-in_ok-add
places-preserved-in_ok-add c =
    let split = first_rest c.places.rest.now c.in-Some.j.now c.in-Some.others.now c.in-Some.ensures.cases in
    let w = c.in-Some-next_at.w in
    let more : IsRicher c.places.due c.add.new.self = added_richer c.places.due c.add.new.self w c.args.i c.in_ok-add.ensures.added c.in_ok-add.ensures.others in
    record {
      due = left_next (λ j. (c' : Entry) (f : First) → slice_get c.args.entries.now j ≡ Some c' → Contains c'.firsts.items f → c.args.from ≤ f.round → IsDue c.places.due c.args.i c.args.from f.round)
          (λ j. (c' : Entry) (f : First) → slice_get c.args.entries.now j ≡ Some c' → Contains c'.firsts.items f → c.args.from ≤ f.round → IsDue c.add.new.self c.args.i c.args.from f.round)
          c.args.children.now c.places.rest.now c.in-Some.others.now c.in-Some.j.now split c.places.invariant.due
          (λ c' f at there le. (w, c.in-Some-next_at.ensures.within, c.in-Some-next_at.ensures.least c' f at there le, added_here c.places.due c.add.new.self w c.args.i c.in_ok-add.ensures.added))
          (λ j due c' f at there le. due_later c.places.due c.add.new.self c.args.i c.args.from f.round more (due c' f at there le));
      more = λ q j there. more q j (c.places.invariant.more q j there);
      same = same_twice c.args.from c.args.due.now c.places.due c.add.new.self c.places.invariant.same (added_same c.places.due c.add.new.self w c.args.from c.in-Some-next_at.ensures.within c.in_ok-add.ensures.others);
    }

pub places-preserved : goal.places-preserved
places-preserved c =
    let split = first_rest c.places.rest.now c.in-Some.j.now c.in-Some.others.now c.in-Some.ensures.cases in
    record {
      due = left_next (λ j. (c' : Entry) (f : First) → slice_get c.args.entries.now j ≡ Some c' → Contains c'.firsts.items f → c.args.from ≤ f.round → IsDue c.places.due c.args.i c.args.from f.round)
          (λ j. (c' : Entry) (f : First) → slice_get c.args.entries.now j ≡ Some c' → Contains c'.firsts.items f → c.args.from ≤ f.round → IsDue c.places.due c.args.i c.args.from f.round)
          c.args.children.now c.places.rest.now c.in-Some.others.now c.in-Some.j.now split c.places.invariant.due
          (λ c' f at there le. absurd (c.in_default-next_at.ensures.least c' f at there le)) (λ j due. due);
      more = c.places.invariant.more;
      same = c.places.invariant.same;
    }

pub returns-clause-due : goal.returns-clause-due
returns-clause-due c = λ j c' f there.
    left_none (λ j. (c' : Entry) (f : First) → slice_get c.args.entries.now j ≡ Some c' → Contains c'.firsts.items f → c.args.from ≤ f.round → IsDue c.places.due c.args.i c.args.from f.round)
    c.args.children.now c.places.rest.now c.in_default.ensures.cases c.places.invariant.due j there c' f

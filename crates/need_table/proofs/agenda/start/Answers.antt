use Rattle.std.proofs.Common.{Contains, inl, inr, subst, arith}
use Rattle.std.proofs.lemmas.Bool.{cases_lt}
use Rattle.need_table.specs.Rows.{row_in, IsRicher}
use Rattle.need_table.proofs.RowLemmas.{added_richer, added_here}
use Rattle.need_table.proofs.agenda.start.Goals as goal

pub places-preserved : goal.places-preserved
places-preserved c =
    let more : IsRicher c.places.due c.add.new.self = added_richer c.places.due c.add.new.self 0 c.places.i c.in_ok-add.ensures.added c.in_ok-add.ensures.others in
    let here = added_here c.places.due c.add.new.self 0 c.places.i c.in_ok-add.ensures.added in
    record {
      started = λ j from to. elim (cases_lt j c.places.i) [
        | inl early ↦ more 0 j (c.places.invariant.started j from early)
        | inr late ↦ subst (λ z. Contains (row_in c.add.new.self 0) z) {x = c.places.i} (omega arith) here
      ];
      more = λ q j there. more q j (c.places.invariant.more q j there);
      from = omega (arith, c.places.invariant.from);
    }

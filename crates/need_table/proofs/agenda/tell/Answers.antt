use Rattle.std.proofs.Common.{◌+◌}
use Rattle.need_table.proofs.FillLemmas.{on_ok_more}
use Rattle.need_table.proofs.RowLemmas.{added_richer}
use Rattle.need_table.proofs.AgendaLemmas.{child_of}
use Rattle.need_table.proofs.agenda.tell.Goals as goal

pub returns-then-not-grew-clause-children : goal.returns-then-not-grew-clause-children
returns-then-not-grew-clause-children c =
    on_ok_more _ _ c.expect.result (λ due e j c' f at child at_j there le.
    due j c' f (child_of c.args.entries.now c.args.i e c.index-entries-i.result c.deref.result.now j at c.deref.ensures.value child) at_j there le) c.expect.ensures.due

pub returns-clause-more : goal.returns-clause-more
returns-clause-more c = λ q x there.
    added_richer c.wake.new.due c.add.new.self (c.args.k + 1) c.args.i c.in_ok-add.ensures.added c.in_ok-add.ensures.others q x (c.in_ok-wake.ensures.more q x there)

use Rattle.std.proofs.Common.{◌-◌}
use Rattle.need_table.proofs.RowLemmas.{added_richer}
use Rattle.need_table.proofs.agenda.listen_at.Goals as goal

pub returns-in_ok-add-clause-more : goal.returns-in_ok-add-clause-more
returns-in_ok-add-clause-more c = λ q x there. added_richer c.args.askers.now c.add.new.self (c.args.j - c.args.first) c.args.i c.in_ok-add.ensures.added c.in_ok-add.ensures.others q x there

use Rattle.std.proofs.Common.{sym, ◌∙◌}
use Rattle.need_table.proofs.RowLemmas.{added_last, added_already}
use Rattle.need_table.proofs.rows.push_once.Goals as goal

pub returns-then-ends_with : goal.returns-then-ends_with
returns-then-ends_with c = let last = c.ends_with.ensures c.if-ends_with.true in added_already c.args.row.now.items last.0 c.args.place (sym c.deref.ensures.value ∙ last.1)

pub returns : goal.returns
returns c = added_last c.args.row.now.items _ c.args.place c.in_ok-push.ensures.items

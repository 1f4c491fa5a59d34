use Rattle.pair_table.proofs.RowLemmas.{other_kind, same_kind}
use Rattle.pair_table.proofs.table.is_of.Goals as goal

pub returns-then-row-kind : goal.returns-then-row-kind
returns-then-row-kind g c = other_kind c.args.row.now c.args.kind c.args.label.now c.if-row-kind.true

pub returns : goal.returns
returns g c = same_kind c.args.row.now c.args.kind c.args.label.now c.same_atoms.result c.if-row-kind.false c.same_atoms.ensures

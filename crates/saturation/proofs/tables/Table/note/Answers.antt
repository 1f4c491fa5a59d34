use Rattle.row_index.proofs.RowLemmas.{noted_at}
use Rattle.saturation.specs.Tables.{noted_in}
use Rattle.saturation.proofs.TableLemmas.{noted}
use Rattle.saturation.proofs.tables.Table.note.Goals as goal

pub returns : goal.returns
returns c = rw (← c.self.view_is)
    (noted (noted_in c.self.inside.rows) (noted_in c.note.new.self) c.args.key c.args.number (noted_at c.self.inside.rows c.note.new.self c.args.key c.args.number c.in_ok-note.ensures.ok))

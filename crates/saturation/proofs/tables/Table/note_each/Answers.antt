use Rattle.std.proofs.Common.{[], refl}
use Rattle.saturation.specs.Tables.{noted_in}
use Rattle.saturation.proofs.TableLemmas.{noted_none, noted_more}
use Rattle.saturation.proofs.tables.Table.note_each.Goals as goal

pub loop-i-init : goal.loop-i-init
loop-i-init c = noted_none c.args.number (noted_in c.args.self.now) [] refl

pub loop-i-preserved : goal.loop-i-preserved
loop-i-preserved c =
    noted_more c.args.number (noted_in c.args.self.now) (noted_in c.loop-i.self) (noted_in c.note.new.self) c.args.keys.now c.at-key.result c.loop-i.i c.at-key.ensures
    c.loop-i.invariant (rw c.key.view_is at c.in_ok-note.ensures)

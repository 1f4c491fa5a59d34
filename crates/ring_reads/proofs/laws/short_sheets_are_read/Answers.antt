use Rattle.ring_reads.proofs.SheetLemmas.{reads_short}
use Rattle.ring_reads.proofs.laws.short_sheets_are_read.Goals as goal

pub returns : goal.returns
returns c = reads_short

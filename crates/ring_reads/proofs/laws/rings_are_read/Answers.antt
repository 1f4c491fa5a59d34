use Rattle.ring_reads.proofs.PageLemmas.{reads_pages}
use Rattle.ring_reads.proofs.RingSheets.{reads_sheets}
use Rattle.ring_reads.proofs.laws.rings_are_read.Goals as goal

pub returns-clause-page : goal.returns-clause-page
returns-clause-page c = reads_pages

pub returns-clause-sheet : goal.returns-clause-sheet
returns-clause-sheet c = reads_sheets

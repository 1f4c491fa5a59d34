use Rattle.ring_reads.proofs.ScriptParts.{reads_classes}
use Rattle.ring_reads.proofs.laws.classes_are_read.Goals as goal

pub returns : goal.returns
returns c = reads_classes

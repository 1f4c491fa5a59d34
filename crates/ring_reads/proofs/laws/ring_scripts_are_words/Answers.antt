use Rattle.ring_reads.proofs.ScriptLines.{scans_rings}
use Rattle.ring_reads.proofs.ScriptParts.{reads_roots}
use Rattle.ring_reads.proofs.ScriptForest.{reads_markup}
use Rattle.ring_reads.proofs.laws.ring_scripts_are_words.Goals as goal

pub returns-clause-words : goal.returns-clause-words
returns-clause-words c = scans_rings

pub returns-clause-roots : goal.returns-clause-roots
returns-clause-roots c = reads_roots

pub returns-clause-markup : goal.returns-clause-markup
returns-clause-markup c = reads_markup

use Rattle.std.proofs.Common.{length}
use Rattle.html_tokens.specs.Tokens.{tokens}
use Rattle.html_subset.proofs.AtomLemmas.{forest_result_over}
use Rattle.html_subset.proofs.reading.read_forest.Goals as goal

pub returns-in-Ok-clause-over : goal.returns-in-Ok-clause-over
returns-in-Ok-clause-over c = forest_result_over c.forest.result (tokens (length c.args.text.now) c.args.text.now) c.args.atoms.now c.forest.new.atoms c.forest.ensures.reads

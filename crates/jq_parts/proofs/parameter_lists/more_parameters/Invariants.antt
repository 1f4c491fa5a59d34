use Rattle.std.proofs.Common.{◌≡◌, length}
use Rattle.jq_words.specs.Results.{InFile, IsRest}
use Rattle.jq_parts.specs.Parameters.{more_parameters}
use Rattle.jq_parts.specs.Views.{declarations_of}
use Rattle.jq_parts.proofs.parameter_lists.more_parameters.Given as goal

abbrev pub invariant-names : goal.invariant-names
invariant-names l = record {
  rest : InFile IsRest l.fn.words l.words;
  reads : more_parameters l.fn.words.size (declarations_of l.declarations) l.words.words ≡ more_parameters l.fn.words.size (declarations_of l.fn.declarations) l.fn.words.words;
}

abbrev pub decreases-names : goal.decreases-names
decreases-names l = length l.words.words

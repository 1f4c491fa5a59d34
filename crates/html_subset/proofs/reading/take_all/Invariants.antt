use Rattle.std.proofs.Common.{◌≡◌, ◌≤◌, length}
use Rattle.html_subset.specs.Builders.{machine_of, Stands}
use Rattle.html_subset.specs.Machine.{run}
use Rattle.html_subset.specs.Results.{IsFront}
use Rattle.html_tokens.specs.Tokens.{tokens_from, tokens}
use Rattle.html_subset.proofs.reading.take_all.Given as goal

abbrev pub invariant-tokens : goal.invariant-tokens
invariant-tokens l = record {
  within : length l.rest ≤ length l.text;
  stands : Stands l.builder;
  reads : run (tokens_from l.size 0 l.rest) (machine_of l.builder) ≡ run (tokens l.size l.text) (machine_of l.initial.builder);
  front : IsFront l.initial.builder.labels.atoms l.builder.labels.atoms;
}

abbrev pub decreases-tokens : goal.decreases-tokens
decreases-tokens l = length l.rest

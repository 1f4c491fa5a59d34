use Rattle.std.proofs.Common.{◌≡◌, ◌≤◌, ◌++◌, map, length}
use Rattle.code_sources.specs.Tags.{tags_from, tags_in}
use Rattle.code_sources.specs.Views.{tag_of}
use Rattle.code_sources.proofs.tags.tags_in.Given as goal

abbrev pub invariant-tokens : goal.invariant-tokens
invariant-tokens l = record {
  within : length l.rest ≤ length l.text;
  found : map tag_of l.found.items ++ tags_from (length l.text) 0 l.rest ≡ tags_in l.text;
}

abbrev pub decreases-tokens : goal.decreases-tokens
decreases-tokens l = length l.rest

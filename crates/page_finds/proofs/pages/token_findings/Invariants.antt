use Rattle.std.proofs.Common.{◌≡◌, ◌≤◌, ◌++◌, flat_map, length}
use Rattle.page_finds.specs.Pages.{token_findings}
use Rattle.page_finds.specs.Tags.{tags_from}
use Rattle.page_finds.specs.TagNames.{found_at_tag}
use Rattle.page_finds.proofs.pages.token_findings.Given as goal

abbrev pub invariant-tokens : goal.invariant-tokens
invariant-tokens l = record {
  within : length l.rest ≤ length l.text;
  found : l.found.items ++ flat_map found_at_tag (tags_from (length l.text) 0 l.rest) ≡ token_findings l.text;
}

abbrev pub decreases-tokens : goal.decreases-tokens
decreases-tokens l = length l.rest

use Rattle.std.proofs.Common.{◌≡◌, ◌≤◌, ◌++◌, length}
use Rattle.page_finds.specs.Trees.{tree_from, tree_findings}
use Rattle.page_finds.proofs.trees.tree_findings.Given as goal

abbrev pub invariant-tokens : goal.invariant-tokens
invariant-tokens l = record {
  within : length l.rest ≤ length l.text;
  size : l.draft.size ≡ length l.text;
  found : l.draft.found.items ++ tree_from (length l.text) l.draft.elements l.draft.tags.items 0 l.rest ≡ tree_findings l.text;
}

abbrev pub decreases-tokens : goal.decreases-tokens
decreases-tokens l = length l.rest

use Rattle.std.proofs.Common.{◌≡◌, ◌≤◌, length}
use Rattle.folded_page.specs.Links.{AreFirst, AreNext}
use Rattle.folded_page.proofs.links.Links.of.Given as goal

abbrev pub invariant-nodes : goal.invariant-nodes
invariant-nodes l = record {
  within : l.node ≤ length l.parents;
  firsts : length l.first.items ≡ length l.parents;
  nexts : length l.next.items ≡ length l.parents;
  count : length l.hashes.items ≡ length l.parents;
  begun : AreFirst l.parents l.first.items l.node;
  behind : AreNext l.parents l.next.items l.node;
}

abbrev pub decreases-nodes : goal.decreases-nodes
decreases-nodes l = l.node

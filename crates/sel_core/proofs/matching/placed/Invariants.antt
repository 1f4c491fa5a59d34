use Rattle.std.proofs.Common.{◌≡◌, ◌≤◌, ◌+◌, length}
use Rattle.sel_text.specs.Parts.{selector_from}
use Rattle.sel_core.proofs.Groups.{IsReached}
use Rattle.sel_core.proofs.matching.placed.Given as goal

abbrev pub invariant-children : goal.invariant-children
invariant-children l = record {
  between : length l.left.parts.now ≡ length l.left.joins.now + 1;
  fewer : length l.left.parts.now ≤ length l.parts;
  reached : IsReached l.fn.node (selector_from l.parts l.joins) l.left.node (selector_from l.left.parts.now l.left.joins.now);
}

abbrev pub decreases-children : goal.decreases-children
decreases-children l = length l.left.parts.now

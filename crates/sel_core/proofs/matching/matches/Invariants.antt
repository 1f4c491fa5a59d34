use Rattle.std.proofs.Common.{◌≡◌, ◌<◌, ◌+◌, ◌↔◌, length}
use Rattle.sel_core.specs.Selectors.{Matches}
use Rattle.sel_core.specs.Places.{IsLeft}
use Rattle.sel_text.specs.Views.{selector_of}
use Rattle.sel_core.proofs.matching.matches.Given as goal

abbrev pub invariant-groups : goal.invariant-groups
invariant-groups l = record {
  between : 0 < length l.left.parts.now → length l.left.parts.now ≡ length l.left.joins.now + 1;
  same : Matches l.tree l.at (selector_of l.s) ↔ IsLeft l.left.node l.left.parts.now l.left.joins.now;
}

abbrev pub decreases-groups : goal.decreases-groups
decreases-groups l = length l.left.parts.now

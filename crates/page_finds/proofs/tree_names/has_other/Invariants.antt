use Rattle.std.proofs.Common.{◌≡◌, ◌-◌, map, length}
use Rattle.html_tokens.specs.Bytes.{lowered}
use Rattle.page_finds.specs.Trees.{has_other}
use Rattle.page_finds.proofs.tree_names.has_other.Given as goal

abbrev pub invariant-elements : goal.invariant-elements
invariant-elements l = has_other (map (λ n. lowered n.now) l.names) l.index l.elements ≡ has_other (map (λ n. lowered n.now) l.names) l.from l.elements

abbrev pub decreases-elements : goal.decreases-elements
decreases-elements l = length l.elements - l.index

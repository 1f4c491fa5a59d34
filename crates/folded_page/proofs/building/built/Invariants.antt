use Rattle.std.proofs.Common.{map}
use Rattle.folded_page.specs.Built.{IsFolding}
use Rattle.folded_page.proofs.building.built.Given as goal

abbrev pub invariant-nodes : goal.invariant-nodes
invariant-nodes l = IsFolding l.columns.parents.items l.leads (map (λ b. b.now) l.columns.labels.items) l.folding.page.builder l.folding.page.line.items l.folding.page.count l.folding.numbers.items l.node

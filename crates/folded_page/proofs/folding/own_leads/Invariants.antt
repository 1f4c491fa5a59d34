use Rattle.std.proofs.Common.{◌≡◌, ◌≤◌}
use Rattle.folded_page.specs.Leads.{own_count}
use Rattle.folded_page.proofs.folding.own_leads.Given as goal

abbrev pub invariant-loop-node : goal.invariant-loop-node
invariant-loop-node l = record { low : l.count ≤ l.node; count : l.count ≡ own_count l.leads l.node }

use Rattle.std.proofs.Common.{ℕ, ◌<◌, map}
use Rattle.folded_page.specs.Checks.{IsLed}
use Rattle.folded_page.proofs.leads.are_leads.Given as goal

abbrev pub invariant-loop-i : goal.invariant-loop-i
invariant-loop-i l = (j : ℕ) → j < l.i → IsLed l.parents (map (λ b. b.now) l.labels) l.leads j

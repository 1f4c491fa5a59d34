use Rattle.std.proofs.Common.{◌-◌, length}
use Rattle.folded_page.proofs.LeadLemmas.{AreMatchedTo}
use Rattle.folded_page.proofs.leads.are_matched.Given as goal

abbrev pub invariant-children : goal.invariant-children
invariant-children l = AreMatchedTo l.parents l.leads l.i l.last l.other

abbrev pub decreases-children : goal.decreases-children
decreases-children l = length l.parents - l.last

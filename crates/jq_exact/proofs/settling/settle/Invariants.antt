use Rattle.std.proofs.Common.{length}
use Rattle.std.specs.Vec.Iter.{into_iter_items}
use Rattle.jq_stmts.specs.SharpViews.{exacts_of}
use Rattle.jq_exact.proofs.SettlingLemmas.{IsSettling}
use Rattle.jq_exact.proofs.settling.settle.Given as goal

abbrev pub invariant-answers : goal.invariant-answers
invariant-answers l = IsSettling l.page (exacts_of l.stmts) l.system l.fn.answers.items (into_iter_items l.left) l.settled.items

abbrev pub decreases-answers : goal.decreases-answers
decreases-answers l = length (into_iter_items l.left)

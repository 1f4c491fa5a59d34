use Rattle.std.specs.Vec.Iter.{into_iter_items}
use Rattle.jq_exact.specs.Scripts.{exact_in}
use Rattle.jq_exact.proofs.MarkLemmas.{AreJoined}
use Rattle.jq_exact.proofs.marks.joined.Given as goal

abbrev pub invariant-loop-wide : goal.invariant-loop-wide
invariant-loop-wide l = AreJoined l.exact.items l.wide-iterator.rest.items (into_iter_items l.marks) (exact_in l.fn.script)

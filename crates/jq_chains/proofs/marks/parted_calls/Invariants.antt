use Rattle.std.proofs.Common.{◌+◌, ◌≤◌, length}
use Rattle.jq_words.specs.declared.faults.TheConstants.{MOST_CALLS}
use Rattle.jq_chains.proofs.MarkSteps.{Judged, Marked}
use Rattle.jq_chains.proofs.marks.parted_calls.Given as goal

abbrev pub invariant-loop-call : goal.invariant-loop-call
invariant-loop-call l = record {
  judged : Judged l.judged.items l.call-iterator.rest.items l.fn.calls.items;
  marked : Marked l.marks.items l.handler (length l.judged.items) l.call-iterator.rest.items l.fn.marks.items l.fn.calls.items;
  few : length l.judged.items + length l.call-iterator.rest.items ≤ MOST_CALLS;
}

use Rattle.std.proofs.Common.{◌≡◌, ◌↔◌, ℕ, true, List, length}
use Rattle.tree_sem.specs.Trees.{count_of}
use Rattle.jq_exact.specs.Firsts.{parted_or_first, FromNodesOrNone}
use Rattle.jq_exact.specs.Together.{stood, FromNodes}
use Rattle.jq_exact.proofs.FirstLemmas.{HasSet}
use Rattle.jq_exact.proofs.evaluation.with_firsts.Given as goal

-- the calls that are left, from the nodes that are marked now, and from none, where one of the sets is empty
abbrev pub invariant-firsts : goal.invariant-firsts
invariant-firsts l = record {
  parted : parted_or_first (stood l.calls.sharp.now l.calls.handler l.calls.calls.now l.rest) ≡ true;
  some : HasSet l.tree l.marks l.none;
  same : (v : List ℕ) → FromNodes l.tree l.named (stood l.calls.sharp.now l.calls.handler l.calls.calls.now l.numbers) (count_of l.tree) v
      ↔ FromNodesOrNone l.tree l.marks l.none (stood l.calls.sharp.now l.calls.handler l.calls.calls.now l.rest) v;
}

abbrev pub decreases-firsts : goal.decreases-firsts
decreases-firsts l = length l.rest

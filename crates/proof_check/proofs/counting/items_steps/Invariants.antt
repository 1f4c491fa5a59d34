use Rattle.std.proofs.Common.{◌≡◌, min, sum_by, take}
use Rattle.proof_check.specs.Unfolding.{reason_count}
use Rattle.proof_check.specs.Kept.{kept_steps}
use Rattle.proof_check.specs.Validity.{MOST_STEPS}
use Rattle.proof_check.specs.declared.proofs.ProofItem.{ProofItem}
use Rattle.proof_check.proofs.counting.items_steps.Given as goal

abbrev pub invariant-loop-i : goal.invariant-loop-i
invariant-loop-i l = record {
  sum : l.sum ≡ min (sum_by (λ (i : ProofItem). reason_count l.system (kept_steps l.entries) i.reason) (take l.i-index l.items)) MOST_STEPS;
}

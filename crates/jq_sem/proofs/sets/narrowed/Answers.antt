use Rattle.jq_sem.proofs.SetLemmas.{on_ok, both_of}
use Rattle.jq_sem.proofs.sets.narrowed.Goals as goal

pub returns : goal.returns
returns c = on_ok c.in_both.result _ _ (λ m both v. both_of (c.in_ok-may.ensures v) (both v)) c.in_both.ensures

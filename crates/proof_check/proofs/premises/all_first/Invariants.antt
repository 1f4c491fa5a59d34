use Rattle.std.proofs.Common.{◌≡◌, true, take}
use Rattle.proof_check.specs.Firsts.{first_in, all_known}
use Rattle.proof_check.proofs.premises.all_first.Given as goal

abbrev pub invariant-loop-n : goal.invariant-loop-n
invariant-loop-n l = record {
  so_far : all_known (first_in l.known l.node) (take l.n l.atoms) ≡ true;
}

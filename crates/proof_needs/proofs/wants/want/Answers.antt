use Rattle.std.proofs.Common.{◌≡◌, sym, subst}
use Rattle.proof_needs.specs.declared.spots.Want.{Want}
use Rattle.proof_needs.specs.Sets.{IsWith}
use Rattle.proof_needs.proofs.KeyLemmas.{want_eq, want_sound, want_same}
use Rattle.proof_needs.proofs.SetLemmas.{inserted}
use Rattle.proof_needs.proofs.wants.want.Goals as goal

pub returns-clause-ok : goal.returns-clause-ok
returns-clause-ok c =
    let w : Want = record { spot = c.args.spot; atom = c.args.atom } in
    subst (IsWith c.args.wants.now.keys (λ x. x ≡ w)) (sym c.in_ok-insert.ensures.keys) (inserted want_eq want_sound want_same c.args.wants.now.keys w)

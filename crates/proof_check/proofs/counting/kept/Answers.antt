use Rattle.std.proofs.Common.{◌≤◌, length, refl}
use Rattle.std.proofs.lemmas.Option.{slice_get_past}
use Rattle.proof_check.proofs.counting.kept.Goals as goal

pub returns-in-None : goal.returns-in-None
returns-in-None c =
    let past : length c.args.entries.now ≤ c.args.entry = rw c.items.ensures at c.in-None.ensures.lookup.3 in
    rw (slice_get_past c.args.entries.now c.args.entry past) refl

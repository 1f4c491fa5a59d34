use Rattle.proof_check.specs.Unfolding.{unfolded}
use Rattle.judge.proofs.ShownLemmas.{is_shown}
use Rattle.std.proofs.Common.{◌≡◌, Ok, rules}
use Rattle.judge.proofs.proving.listed.Goals as goal

pub returns-in-Ok : goal.returns-in-Ok
returns-in-Ok c =
    let is : c.unfold.result ≡ Ok c.in-Ok.unfolded = search rules in
    is_shown (unfolded c.args.ground.now.system.now c.args.proof.now c.args.ground.now.page.now c.args.atom) c.args.ground.now.limits.now.list c.unfold.result c.in-Ok.unfolded is
    c.in-Ok.ensures.steps c.in-Ok.ensures.at (rw c.from-list.ensures at c.unfold.ensures.over)

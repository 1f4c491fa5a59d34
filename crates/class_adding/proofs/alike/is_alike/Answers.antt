use Rattle.std.proofs.Common.{◌-◌, ◌≡◌, [], get_or, arith, subst}
use Rattle.class_adding.specs.Alike.{IsAlike}
use Rattle.class_adding.proofs.alike.is_alike.Goals as goal

pub returns : goal.returns
returns c = λ is i next.
    let nodes = c.args.labels.now.nodes in
    let before : c.args.number - 1 ≡ i = omega (arith, next) in
    subst (λ z. IsAlike c.args.labels.now.labels (get_or nodes z []) (get_or nodes c.args.number [])) before (c.are_alike.ensures is)

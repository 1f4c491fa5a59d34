use Rattle.std.proofs.Common.{◌∙◌}
use Rattle.diagram_ops.proofs.WalkLemmas.{size_is}
use Rattle.diagram_ops.proofs.looks.size.Goals as goal

pub returns : goal.returns
returns c =
    c.len.ensures.len
    ∙ size_is c.args.d.now.branches c.branches_of.ensures.arena.same c.args.f c.in_ok-branches.branches.keys c.in_ok-branches.ensures.branches

use Rattle.base_tests.proofs.diagrams.has_parts.Goals as goal

pub branch-none-requires : goal.branch-none-requires
branch-none-requires c = c.leaf-top.ensures.inside c.args.d.now.branches

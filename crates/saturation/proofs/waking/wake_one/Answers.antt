use Rattle.std.proofs.Common.{List, ℕ, ◌++◌, ap, ◌∙◌}
use Rattle.saturation.specs.Tables.{noted_in}
use Rattle.saturation.specs.Waking.{named, named_each}
use Rattle.saturation.proofs.waking.wake_one.Goals as goal

pub returns-clause-cells : goal.returns-clause-cells
returns-clause-cells c =
    c.in_ok-add_named.ensures ∙ ap (λ (ns : List ℕ). c.args.cells.now.items ++ named c.args.name.0 ns) (c.of-gives.ensures ∙ ap (noted_in c.args.reads.now.by_needs) c.atom.view_is)

pub returns-clause-above : goal.returns-clause-above
returns-clause-above c =
    let reads = c.args.reads.now in
    c.in_ok-add_each.ensures
    ∙ (λ n. c.args.above.now.items ++ named_each (c.of-makers.ensures n) ((c.of-ends.ensures ∙ ap (noted_in reads.by_child) c.atom.view_is) n))

use Rattle.std.proofs.Common.{◌-◌, length, refl, ap, arith, length-take}
use Rattle.tree_sem.proofs.PathLemmas.{IsSome-take}
use Rattle.html_subset.specs.Machine.{cut}
use Rattle.html_subset.proofs.builder.Builder.close.Goals as goal

pub returns-clause-cut : goal.returns-clause-cut
unfolding cut
returns-clause-cut c = rw (c.truncate.ensures, c.go_up.ensures.tree, c.go_up.ensures.at, c.levels_above-levels.ensures) refl

pub returns-clause-stands : goal.returns-clause-stands
returns-clause-stands c =
    let b = c.args.self.now in
    let levels = c.levels_above-levels.result in
    record {
      placed = rw (c.go_up.ensures.tree, c.go_up.ensures.at) (IsSome-take (length b.growing.at - levels) b.growing.at b.growing.tree c.requires.placed);
      counted = rw c.go_up.ensures.tree c.requires.counted;
      head = rw c.go_up.ensures.tree c.requires.head;
      body = rw c.go_up.ensures.tree c.requires.body;
      begun = c.requires.begun;
      shallow = λ forest. omega (arith, c.requires.shallow forest, ap length c.go_up.ensures.at, length-take (length b.growing.at - levels) b.growing.at, ap length c.truncate.ensures, length-take c.args.left b.«open», c.levels_above-levels.ensures);
    }

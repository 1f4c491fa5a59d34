use Rattle.std.proofs.Common.{[], ◌∷◌, refl}
use Rattle.tree_sem.proofs.EditLemmas.{IsSome-add_child_old}
use Rattle.html_subset.proofs.Fronts.{front_itself}
use Rattle.html_subset.proofs.StandLemmas.{counted_child, child_there}
use Rattle.html_subset.proofs.builder.Builder.grow.Goals as goal

pub returns-in-Ok-clause-goes_on : goal.returns-in-Ok-clause-goes_on
returns-in-Ok-clause-goes_on c =
    let b = c.args.self.now in
    let s = c.requires.stands in
    rw (c.in-Ok.ensures.ok, c.add_child.ensures.at) (record {
      stands = record {
        placed = IsSome-add_child_old b.growing.at b.growing.at c.args.label b.growing.tree s.placed;
        counted = counted_child b.growing.at c.args.label b.growing.tree b.nodes s.placed s.counted;
        head = λ page. IsSome-add_child_old b.growing.at (0 ∷ []) c.args.label b.growing.tree (s.head page);
        body = λ page. IsSome-add_child_old b.growing.at (1 ∷ []) c.args.label b.growing.tree (s.body page);
        begun = s.begun;
        shallow = s.shallow;
      };
      front = front_itself _ _ refl;
    })

pub returns-in-Ok-clause-there : goal.returns-in-Ok-clause-there
returns-in-Ok-clause-there c =
    rw (c.in-Ok.ensures.ok, c.add_child.ensures.at) (child_there c.args.self.now.growing.at c.args.label c.args.self.now.growing.tree c.in-Ok.step c.requires.stands.placed c.in-Ok.ensures.number)

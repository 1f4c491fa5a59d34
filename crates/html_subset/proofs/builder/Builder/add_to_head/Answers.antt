use Rattle.std.proofs.Common.{[], ◌∷◌, refl}
use Rattle.tree_sem.proofs.EditLemmas.{IsSome-add_child_old}
use Rattle.html_subset.specs.Machine.{with_head_node}
use Rattle.html_subset.proofs.Fronts.{front_itself}
use Rattle.html_subset.proofs.StandLemmas.{counted_child}
use Rattle.html_subset.proofs.builder.Builder.add_to_head.Goals as goal

pub returns-in-Ok-clause-gives : goal.returns-in-Ok-clause-gives
unfolding with_head_node
returns-in-Ok-clause-gives c = rw (c.in-Ok.ensures.ok, c.add_child_at.ensures.at, c.in_ok-at.ensures) refl

pub returns-in-Ok-clause-goes_on : goal.returns-in-Ok-clause-goes_on
returns-in-Ok-clause-goes_on c =
    let b = c.args.self.now in
    let s = c.requires.stands in
    let label = c.args.label in
    rw (c.in-Ok.ensures.ok, c.add_child_at.ensures.at, c.in_ok-at.ensures) (record {
      stands = record {
        placed = IsSome-add_child_old (0 ∷ []) b.growing.at label b.growing.tree s.placed;
        counted = counted_child (0 ∷ []) label b.growing.tree b.nodes c.requires.head s.counted;
        head = λ page. IsSome-add_child_old (0 ∷ []) (0 ∷ []) label b.growing.tree (s.head page);
        body = λ page. IsSome-add_child_old (0 ∷ []) (1 ∷ []) label b.growing.tree (s.body page);
        begun = s.begun;
        shallow = s.shallow;
      };
      front = front_itself _ _ refl;
    })

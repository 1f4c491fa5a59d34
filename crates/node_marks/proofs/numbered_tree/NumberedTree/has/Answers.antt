use Rattle.std.proofs.Common.{refl, ◌∙◌, ap}
use Rattle.node_marks.specs.Marks.{mark}
use Rattle.node_marks.proofs.SetLemmas.{not_there, is_there}
use Rattle.node_marks.proofs.numbered_tree.NumberedTree.has.Goals as goal

pub returns-in-None : goal.returns-in-None
returns-in-None c = not_there c.args.self.now c.args.at.now c.args.set.now (c.in-None.ensures.none refl)

pub returns-in-Some : goal.returns-in-Some
returns-in-Some c =
    let at = c.in-Some.ensures.some in
    is_there c.args.self.now c.args.at.now c.args.set.now c.in-Some.number c.mark_at.result at.0 at.1 (c.mark_at.ensures ∙ ap (λ b. mark b c.in-Some.number) c.items.ensures)

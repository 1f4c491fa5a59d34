use Rattle.std.proofs.Common.{Some, sym, ap, ◌∙◌}
use Rattle.tree_sem.specs.Table.{path_in}
use Rattle.tree_sem.proofs.TableLemmas.{label_there}
use Rattle.tree_sem.proofs.WriteLemmas.{label_is}
use Rattle.tree_sem.proofs.nodes.Node.label.Goals as goal

pub returns : goal.returns
returns c =
    let slots = c.self.inside.slots.now in
    let place = c.self.inside.place in
    rw (← c.self.view_is) (ap Some (sym (label_is slots place c.index.result.now c.index.ensures)) ∙ sym (label_there slots c.self.invariant.table.forest (path_in slots place) place (sym c.self.invariant.leads)))

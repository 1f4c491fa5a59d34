use Rattle.std.proofs.Common.{◌≡◌, length, Some, sym, ap, ◌∙◌, arith}
use Rattle.tree_sem.specs.Table.{kids_in, path_in}
use Rattle.tree_sem.proofs.TableLemmas.{children_there, few_children}
use Rattle.tree_sem.proofs.WriteLemmas.{kids_are}
use Rattle.tree_sem.proofs.nodes.Node.children.Goals as goal

pub overflow_cast-result : goal.overflow_cast-result
overflow_cast-result c =
    let slots = c.self.inside.slots.now in
    let place = c.self.inside.place in
    let many = ap length (kids_are slots place c.index.result.now c.index.ensures) in
    let number : c.len.result ≡ length (kids_in slots place) = omega (arith, many, c.index.result.now.children.ok.0, c.len.ensures) in
    omega (arith, number, few_children slots c.self.invariant.table (path_in slots place) place (sym c.self.invariant.leads))

pub returns : goal.returns
returns c =
    let slots = c.self.inside.slots.now in
    let place = c.self.inside.place in
    let many = ap length (kids_are slots place c.index.result.now c.index.ensures) in
    let number : c.len.result ≡ length (kids_in slots place) = omega (arith, many, c.index.result.now.children.ok.0, c.len.ensures) in
    rw (← c.self.view_is) (ap Some number ∙ sym (children_there slots c.self.invariant.table.forest (path_in slots place) place (sym c.self.invariant.leads)))

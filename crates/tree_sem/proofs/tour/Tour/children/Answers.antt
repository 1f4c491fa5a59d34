use Rattle.std.proofs.Common.{◌≡◌, Some, refl, length, sym, ap, ◌∙◌, arith}
use Rattle.tree_sem.specs.Table.{kids_in}
use Rattle.tree_sem.proofs.BuilderLemmas.{current}
use Rattle.tree_sem.proofs.TableLemmas.{place_there, children_there, few_children}
use Rattle.tree_sem.proofs.WriteLemmas.{kids_are}
use Rattle.tree_sem.proofs.tour.Tour.children.Goals as goal

pub index-requires : goal.index-requires
index-requires c = place_there c.self.inside.slots.now c.self.invariant.table.forest c.self.inside.at c.self.inside.place c.self.invariant.here

pub overflow_cast-result : goal.overflow_cast-result
overflow_cast-result c =
    let slots = c.self.inside.slots.now in
    let place = c.self.inside.place in
    let many = ap length (kids_are slots place c.index.result.now c.index.ensures) in
    let number : c.len.result ≡ length (kids_in slots place) = omega (arith, many, c.index.result.now.children.ok.0, c.len.ensures) in
    omega (arith, number, few_children slots c.self.invariant.table c.self.inside.at place (sym c.self.invariant.here))

pub returns-clause-count : goal.returns-clause-count
returns-clause-count c =
    let slots = c.self.inside.slots.now in
    let place = c.self.inside.place in
    let many = ap length (kids_are slots place c.index.result.now c.index.ensures) in
    let number : c.len.result ≡ length (kids_in slots place) = omega (arith, many, c.index.result.now.children.ok.0, c.len.ensures) in
    rw (← c.self.view_is) (ap Some number ∙ sym (children_there slots c.self.invariant.table.forest c.self.inside.at place (sym c.self.invariant.here)))

pub returns-clause-there : goal.returns-clause-there
returns-clause-there c = rw (← c.self.view_is, current c.self.inside.slots.now c.self.inside.at c.self.inside.place c.self.invariant) refl

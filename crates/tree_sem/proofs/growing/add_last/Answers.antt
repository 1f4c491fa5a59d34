use Rattle.std.proofs.Common.{◌≡◌, length, sym, ap, arith}
use Rattle.tree_sem.specs.Table.{kids_in}
use Rattle.tree_sem.proofs.ChangeLemmas.{same_table}
use Rattle.tree_sem.proofs.TableLemmas.{place_there, few_children}
use Rattle.tree_sem.proofs.GrowLemmas.{tree_grown, table_grown, places_stay}
use Rattle.tree_sem.proofs.WriteLemmas.{kids_are}
use Rattle.tree_sem.proofs.growing.add_last.Goals as goal

pub index-requires : goal.index-requires
index-requires c = place_there c.args.slots.now c.requires.table.forest c.requires.here.0 c.args.place c.requires.here.1

pub overflow_cast-step : goal.overflow_cast-step
overflow_cast-step c =
    let slots = c.args.slots.now in
    let many = ap length (kids_are slots c.args.place c.index.result.now c.index.ensures) in
    let number : c.len-step.result ≡ length (kids_in slots c.args.place) = omega (arith, many, c.index.result.now.children.ok.0, c.len-step.ensures) in
    omega (arith, number, few_children slots c.requires.table c.requires.here.0 c.args.place (sym c.requires.here.1))

pub returns-in_err-push_child-clause-table : goal.returns-in_err-push_child-clause-table
returns-in_err-push_child-clause-table c = same_table c.args.slots.now c.push_child.new.slots c.args.place c.in_err-push_child.ensures.err c.requires.table

pub returns-clause-table : goal.returns-clause-table
returns-clause-table c =
    let slots = c.args.slots.now in
    let there = place_there slots c.requires.table.forest c.requires.here.0 c.args.place c.requires.here.1 in
    table_grown slots c.push_child.new.slots c.args.place c.in_ok-push_child.field-0 c.args.label c.requires.table there c.in_ok-push_child.ensures.rises c.in_ok-push_child.ensures.ok (omega arith) c.requires.here.0 c.requires.here.1

pub returns-clause-stays : goal.returns-clause-stays
returns-clause-stays c =
    let slots = c.args.slots.now in
    let there = place_there slots c.requires.table.forest c.requires.here.0 c.args.place c.requires.here.1 in
    places_stay slots c.push_child.new.slots c.args.place c.in_ok-push_child.field-0 c.args.label c.requires.table.forest there c.in_ok-push_child.ensures.rises c.in_ok-push_child.ensures.ok

pub returns-clause-ok : goal.returns-clause-ok
returns-clause-ok c = λ p at.
    let slots = c.args.slots.now in
    let there = place_there slots c.requires.table.forest p c.args.place at in
    tree_grown slots c.push_child.new.slots c.args.place c.in_ok-push_child.field-0 c.args.label c.requires.table there c.in_ok-push_child.ensures.rises c.in_ok-push_child.ensures.ok (omega arith) p at

use Rattle.std.proofs.Common.{Ok, Err, ◌==◌}
use Rattle.simple_core.specs.declared.rules.Local.{Local}
use Rattle.simple_core.specs.declared.rules.Link.{Link}
use Rattle.pushdown_sym.specs.CellMap.{trees_in}
use Rattle.pushdown_sym.specs.Adding.{of_local, of_up}
use Rattle.pushdown_sym.proofs.GiverLemmas.{of_local-none, of_up-none, adds_given}
use Rattle.class_diagrams.proofs.BranchLemmas.{StartsWith-further}
use Rattle.pushdown_sym.proofs.AddLemmas.{cells_in}
use Rattle.pushdown_sym.proofs.ChildLemmas.{serving_in, children_add}
use Rattle.pushdown_sym.proofs.LinkLemmas.{locals_failed, ups_failed, all_added}
use Rattle.pushdown_sym.proofs.equations.next_of.Goals as goal

pub returns-in_err-by_locals : goal.returns-in_err-by_locals
returns-in_err-by_locals c =
    let now = trees_in c.args.d.now.branches c.args.now.now in
    locals_failed c.args.system.now c.args.now.now c.args.cell.0 c.args.cell.1 c.args.d.now c.args.cell.2 c.requires.start c.requires.arena
    c.add_locals.new.d c.from_residual.result c.in_err-by_locals.field-0.0 c.from_residual.ensures.1
    (adds_given (of_local now c.args.cell.0 c.args.cell.1) (λ (r : Local). r.gives == c.args.cell.1) (of_local-none now c.args.cell.0 c.args.cell.1)
    c.items.result.now c.args.system.now.local c.args.givers.0.now c.args.d.now c.add_locals.new.d c.args.cell.2 (Err c.in_err-by_locals.field-0.0)
    c.items.ensures c.requires.locals c.in_err-by_locals.ensures)

pub returns-in_err-by_ups : goal.returns-in_err-by_ups
returns-in_err-by_ups c =
    let now = trees_in c.args.d.now.branches c.args.now.now in
    ups_failed c.args.system.now c.args.now.now c.args.cell.0 c.args.cell.1 c.args.d.now c.args.cell.2 c.requires.start c.requires.arena
    c.add_locals.new.d c.add_ups.new.d c.in_ok-by_locals.by_locals
    (adds_given (of_local now c.args.cell.0 c.args.cell.1) (λ (r : Local). r.gives == c.args.cell.1) (of_local-none now c.args.cell.0 c.args.cell.1)
    c.items.result.now c.args.system.now.local c.args.givers.0.now c.args.d.now c.add_locals.new.d c.args.cell.2 (Ok c.in_ok-by_locals.by_locals)
    c.items.ensures c.requires.locals c.in_ok-by_locals.ensures)
    c.from_residual-in_err-by_ups.result c.in_err-by_ups.field-0.0 c.from_residual-in_err-by_ups.ensures.1
    (adds_given (of_up c.args.cell.1) (λ (l : Link). l.to == c.args.cell.1) (of_up-none c.args.cell.1)
    c.items-2.result.now c.args.system.now.up c.args.givers.1.now c.add_locals.new.d c.add_ups.new.d c.in_ok-by_locals.by_locals (Err c.in_err-by_ups.field-0.0)
    c.items-2.ensures c.requires.ups c.in_err-by_ups.ensures)

pub add_children-requires-clause-children : goal.add_children-requires-clause-children
add_children-requires-clause-children c =
    serving_in c.add_ups.new.d.branches c.args.system.now c.args.now.now c.args.cell.0 c.args.cell.1 c.args.children.now
    (cells_in c.args.d.now.branches c.add_ups.new.d.branches c.args.now.now
    (StartsWith-further c.args.d.now.branches c.add_locals.new.d.branches c.add_ups.new.d.branches c.in_ok-by_locals.ensures.brings.stays c.in_ok-by_ups.ensures.brings.stays) c.requires.inside)
    c.requires.children

pub returns : goal.returns
returns c =
    let now = trees_in c.args.d.now.branches c.args.now.now in
    all_added c.args.system.now c.args.now.now c.args.cell.0 c.args.cell.1 c.args.d.now c.args.cell.2 c.requires.start c.requires.arena
    c.add_locals.new.d c.add_ups.new.d c.in_ok-by_locals.by_locals
    (adds_given (of_local now c.args.cell.0 c.args.cell.1) (λ (r : Local). r.gives == c.args.cell.1) (of_local-none now c.args.cell.0 c.args.cell.1)
    c.items.result.now c.args.system.now.local c.args.givers.0.now c.args.d.now c.add_locals.new.d c.args.cell.2 (Ok c.in_ok-by_locals.by_locals)
    c.items.ensures c.requires.locals c.in_ok-by_locals.ensures)
    c.add_children.new.d c.in_ok-by_ups.by_ups c.add_children.result c.requires.inside
    (adds_given (of_up c.args.cell.1) (λ (l : Link). l.to == c.args.cell.1) (of_up-none c.args.cell.1)
    c.items-2.result.now c.args.system.now.up c.args.givers.1.now c.add_locals.new.d c.add_ups.new.d c.in_ok-by_locals.by_locals (Ok c.in_ok-by_ups.by_ups)
    c.items-2.ensures c.requires.ups c.in_ok-by_ups.ensures)
    (children_add c.args.system.now c.args.now.now c.args.cell.0 c.args.cell.1 c.add_ups.new.d c.add_children.new.d c.in_ok-by_ups.by_ups c.add_children.result c.args.children.now
    c.in_ok-by_ups.ensures.brings.arena
    (cells_in c.args.d.now.branches c.add_ups.new.d.branches c.args.now.now
    (StartsWith-further c.args.d.now.branches c.add_locals.new.d.branches c.add_ups.new.d.branches c.in_ok-by_locals.ensures.brings.stays c.in_ok-by_ups.ensures.brings.stays) c.requires.inside)
    c.in_ok-by_ups.ensures.answer.0 c.requires.children c.add_children.ensures)

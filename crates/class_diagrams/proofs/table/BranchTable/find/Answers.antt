use Rattle.std.proofs.Common.{arith, sym}
use Rattle.class_diagrams.proofs.TableLemmas.{gives_found, gives_none, length-trees_of}
use Rattle.class_diagrams.proofs.table.BranchTable.find.Goals as goal

pub returns-in_err-number-clause-none : goal.returns-in_err-number-clause-none
returns-in_err-number-clause-none c = λ past. rw (c.from_residual.ensures, ← c.self.view_is)
    (gives_none c.self.inside.nodes.keys c.self.inside.limit c.args.node c.self.invariant
    (rw (← c.self.view_is) at c.requires.low_in) (rw (← c.self.view_is) at c.requires.high_in) (sym c.in_err-number.ensures.found) (rw (← c.self.view_is) at past))

pub overflow_cast-number : goal.overflow_cast-number
overflow_cast-number c =
    let all = length-trees_of c.self.inside.nodes.keys in
    let h = c.in_ok-number.ensures.within in
    omega (arith, h, c.self.invariant.arena.in_limit, c.self.invariant.arena.small)

pub returns-clause-found : goal.returns-clause-found
returns-clause-found c = rw (← c.self.view_is, c.branch-found.ensures)
    (gives_found c.self.inside.nodes.keys c.self.inside.limit c.args.node c.in_ok-number.number c.self.invariant
    (rw (← c.self.view_is) at c.requires.low_in) (rw (← c.self.view_is) at c.requires.high_in) (sym c.in_ok-number.ensures.index))

pub branch-found-requires : goal.branch-found-requires
branch-found-requires c =
    let all = length-trees_of c.self.inside.nodes.keys in
    let h = c.in_ok-number.ensures.within in
    omega (arith, h, c.self.invariant.arena.in_limit, c.self.invariant.arena.small)

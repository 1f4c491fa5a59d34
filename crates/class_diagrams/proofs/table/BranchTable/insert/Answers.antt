use Rattle.std.proofs.Common.{subst, sym, arith}
use Rattle.class_diagrams.specs.Trees.{IsOrdered}
use Rattle.class_diagrams.specs.Arena.{Arena}
use Rattle.class_diagrams.specs.Table.{IsTable, tree_by, trees_of, arena_of}
use Rattle.class_diagrams.proofs.ArenaLemmas.{gives_error}
use Rattle.class_diagrams.proofs.TableLemmas.{inserted, gives_inserted, stored_at, number_fits, number_small, unchanged}
use Rattle.class_diagrams.proofs.table.BranchTable.insert.Goals as goal

pub returns-in_err-number : goal.returns-in_err-number
returns-in_err-number c = rw (← c.self.view_is)
    (gives_error (arena_of c.self.inside.nodes.keys c.self.inside.limit) (arena_of c.insert_full.new.self.keys c.self.inside.limit)
    (tree_by (trees_of c.self.inside.nodes.keys) c.args.node) c.from_residual.result c.from_residual.ensures.1
    (unchanged c.self.inside.nodes.keys c.insert_full.new.self.keys c.self.inside.limit (tree_by (trees_of c.self.inside.nodes.keys) c.args.node) c.self.invariant c.in_err-number.ensures.err))

pub invariant_of-self-2 : goal.invariant_of-self-2
invariant_of-self-2 c = (rw c.in_ok-number.ensures.keys (inserted c.self.inside.nodes.keys c.self.inside.limit c.args.node c.self.invariant
    (rw (← c.self.view_is) at c.requires.low_in) (rw (← c.self.view_is) at c.requires.high_in) (subst (λ (a : Arena). IsOrdered (tree_by a.branches c.args.node)) (sym c.self.view_is) c.requires.ordered) (rw (← c.self.view_is) at c.requires.room)).table)

pub overflow_cast-number : goal.overflow_cast-number
overflow_cast-number c =
    let table : IsTable c.insert_full.new.self.keys c.self.inside.limit = (rw c.in_ok-number.ensures.keys (inserted c.self.inside.nodes.keys c.self.inside.limit c.args.node c.self.invariant
    (rw (← c.self.view_is) at c.requires.low_in) (rw (← c.self.view_is) at c.requires.high_in) (subst (λ (a : Arena). IsOrdered (tree_by a.branches c.args.node)) (sym c.self.view_is) c.requires.ordered) (rw (← c.self.view_is) at c.requires.room)).table) in
    let fits = number_fits c.insert_full.new.self.keys c.self.inside.limit c.in_ok-number.number table c.in_ok-number.ensures.within in
    omega arith

pub branch-entered-requires : goal.branch-entered-requires
branch-entered-requires c =
    let table : IsTable c.insert_full.new.self.keys c.self.inside.limit = (rw c.in_ok-number.ensures.keys (inserted c.self.inside.nodes.keys c.self.inside.limit c.args.node c.self.invariant
    (rw (← c.self.view_is) at c.requires.low_in) (rw (← c.self.view_is) at c.requires.high_in) (subst (λ (a : Arena). IsOrdered (tree_by a.branches c.args.node)) (sym c.self.view_is) c.requires.ordered) (rw (← c.self.view_is) at c.requires.room)).table) in
    number_small c.insert_full.new.self.keys c.self.inside.limit c.in_ok-number.number table c.in_ok-number.ensures.within

pub returns : goal.returns
returns c = rw (← c.self.view_is, c.branch-entered.ensures, c.in_ok-number.ensures.keys) (gives_inserted c.self.inside.nodes.keys c.self.inside.limit c.args.node c.in_ok-number.number c.self.invariant
    (rw (← c.self.view_is) at c.requires.low_in) (rw (← c.self.view_is) at c.requires.high_in) (subst (λ (a : Arena). IsOrdered (tree_by a.branches c.args.node)) (sym c.self.view_is) c.requires.ordered) (rw (← c.self.view_is) at c.requires.room)
    (stored_at c.self.inside.nodes.keys c.insert_full.new.self.keys c.args.node c.in_ok-number.number c.in_ok-number.ensures.keys c.in_ok-number.ensures.stored))

use Rattle.std.proofs.Common.{List, ℕ, sym, subst, arith}
use Rattle.row_index.specs.Rows.{row_of}
use Rattle.pushdown_sym.proofs.NoteLemmas.{AreDoorsTo, doors_start, doors_more, doors_all}
use Rattle.pushdown_sym.proofs.doors.Doors.of_spawns.Goals as goal

pub loop-i-init : goal.loop-i-init
loop-i-init c =
    subst (λ (rows : List (List ℕ)). AreDoorsTo c.args.spawns.now c.args.now.now 0 (row_of rows)) (sym c.new-rows.ensures) (doors_start c.args.spawns.now c.args.now.now)

pub loop-i-preserved : goal.loop-i-preserved
loop-i-preserved c =
    doors_more c.args.spawns.now c.args.now.now c.loop-i.i c.index-spawns-i.result c.kinds_with.result.now (row_of c.loop-i.rows) (row_of c.note_each.new.rows)
    c.loop-i-test.true c.index-spawns-i.is c.kinds_with.ensures c.loop-i.invariant c.in_ok-note_each.ensures

pub returns : goal.returns
returns c = doors_all c.args.spawns.now c.args.now.now c.loop-i.i c.loop-i.rows (omega (arith, c.loop-i-test.false)) c.loop-i.invariant

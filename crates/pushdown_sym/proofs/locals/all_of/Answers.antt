use Rattle.std.proofs.Common.{true, take, Ok, Err, sym, ap, subst, ◌∙◌, arith}
use Rattle.class_diagrams.specs.Trees.{leaf, tand}
use Rattle.class_diagrams.specs.Arena.{tree_at, IsIn}
use Rattle.pushdown_sym.specs.CellMap.{trees_in}
use Rattle.pushdown_sym.specs.Terms.{conjunction, conjunctions}
use Rattle.diagram_ops.proofs.StepLemmas.{calculates_one, calculates_same_error}
use Rattle.diagram_ops.proofs.ComposeLemmas.{calculates_known}
use Rattle.pushdown_sym.proofs.AddLemmas.{no_conjunction, first_conjunction, one_more, one_failed}
use Rattle.pushdown_sym.proofs.locals.all_of.Goals as goal

-- none of nothing
pub returns-then-len-eq0 : goal.returns-then-len-eq0
returns-then-len-eq0 c =
    let all = trees_in c.args.d.now.branches c.args.now.now in
    calculates_known c.args.d.now (conjunctions all c.args.kind (leaf true) c.args.needs.now) (conjunction all c.args.kind (leaf true) c.args.needs.now) c.leaf.result c.requires.arena
    (c.leaf.ensures.inside c.args.d.now.branches)
    (c.leaf.ensures.tree c.args.d.now.branches ∙ sym (no_conjunction all c.args.kind c.args.needs.now (omega (arith, c.if-len-eq0.true, c.len.ensures.count))))

pub loop-i-init : goal.loop-i-init
loop-i-init c =
    let all = trees_in c.args.d.now.branches c.args.now.now in
    calculates_known c.args.d.now (conjunctions all c.args.kind (leaf true) c.args.needs.now) (conjunction all c.args.kind (leaf true) (take 1 c.args.needs.now)) c.get-sofar.result c.requires.arena
    (subst (IsIn c.args.d.now.branches) (sym c.get-sofar.ensures) (c.requires.inside c.at.result))
    (ap (tree_at c.args.d.now.branches) c.get-sofar.ensures ∙ sym (first_conjunction all c.args.kind c.args.needs.now c.at.result c.at.ensures))

pub returns-in_err-sofar : goal.returns-in_err-sofar
returns-in_err-sofar c =
    let h = c.in_err-sofar.ensures in
    calculates_same_error c.args.d.now c.and.new.self (conjunctions (trees_in c.args.d.now.branches c.args.now.now) c.args.kind (leaf true) c.args.needs.now) (conjunction (trees_in c.args.d.now.branches c.args.now.now) c.args.kind (leaf true) c.args.needs.now) c.from_residual.result c.in_err-sofar.field-0.0 c.from_residual.ensures.1
    (one_failed c.args.d.now c.loop-i.d c.args.now.now c.args.kind c.requires.inside c.args.needs.now c.loop-i.i c.at-in-loop-i.result c.at-in-loop-i.ensures c.loop-i.sofar c.get.result c.get.ensures c.loop-i.invariant c.and.new.self (tand (tree_at c.loop-i.d.branches c.loop-i.sofar) (tree_at c.loop-i.d.branches c.get.result)) (conjunction (trees_in c.args.d.now.branches c.args.now.now) c.args.kind (leaf true) c.args.needs.now) c.in_err-sofar.field-0.0
    (calculates_one c.loop-i.d c.and.new.self (tand (tree_at c.loop-i.d.branches c.loop-i.sofar) (tree_at c.loop-i.d.branches c.get.result)) (Err c.in_err-sofar.field-0.0) tt tt h.full h.stays h.only h.limit h.arena))

pub loop-i-preserved : goal.loop-i-preserved
loop-i-preserved c =
    let h = c.in_ok-sofar.ensures in
    one_more c.args.d.now c.loop-i.d c.args.now.now c.args.kind c.requires.inside c.args.needs.now c.loop-i.i c.at-in-loop-i.result c.at-in-loop-i.ensures c.loop-i.sofar c.get.result c.get.ensures c.loop-i.invariant c.and.new.self (Ok c.in_ok-sofar.sofar)
    (calculates_one c.loop-i.d c.and.new.self (tand (tree_at c.loop-i.d.branches c.loop-i.sofar) (tree_at c.loop-i.d.branches c.get.result)) (Ok c.in_ok-sofar.sofar) h.tree h.inside h.full h.stays h.only h.limit h.arena)

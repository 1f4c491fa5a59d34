use Rattle.std.proofs.Common.{Ok, arith, []}
use Rattle.std.specs.List.{flat_map}
use Rattle.std.proofs.lemmas.List.{get_or_default}
use Rattle.class_diagrams.specs.Arena.{tree_at}
use Rattle.pushdown_sym.specs.Terms.{CellTrees, disjunction}
use Rattle.pushdown_sym.specs.Adding.{of_up}
use Rattle.pushdown_sym.specs.Givers.{of_place}
use Rattle.pushdown_sym.proofs.AddLemmas.{loop_start, loop_more, loop_failed, loop_end}
use Rattle.pushdown_sym.proofs.links.add_ups.Goals as goal

pub loop-i-init : goal.loop-i-init
loop-i-init c = loop_start (λ (now : CellTrees). of_place (of_up c.args.atom) c.args.links.now) c.args.d.now [] (λ j a. tt) c.args.start c.args.places.now c.requires.arena c.requires.start

pub returns-in_err-sofar : goal.returns-in_err-sofar
returns-in_err-sofar c =
    loop_failed (λ (now : CellTrees). of_place (of_up c.args.atom) c.args.links.now) c.args.d.now [] (λ j a. tt) c.args.start c.args.places.now
    c.loop-i.d c.loop-i.sofar c.loop-i.i _ c.loop-i-test.true (get_or_default c.args.places.now c.loop-i.i _ _ c.loop-i-test.true) c.loop-i.invariant
    c.add_up_at.new.d c.from_residual.result
    (disjunction (tree_at c.args.d.now.branches c.args.start) (flat_map (of_place (of_up c.args.atom) c.args.links.now) c.args.places.now))
    c.in_err-sofar.field-0.0 c.from_residual.ensures.1 c.in_err-sofar.ensures

pub loop-i-preserved : goal.loop-i-preserved
loop-i-preserved c =
    loop_more (λ (now : CellTrees). of_place (of_up c.args.atom) c.args.links.now) c.args.d.now [] (λ j a. tt) c.args.start c.args.places.now
    c.loop-i.d c.loop-i.sofar c.loop-i.i _ c.loop-i-test.true (get_or_default c.args.places.now c.loop-i.i _ _ c.loop-i-test.true) c.loop-i.invariant
    c.add_up_at.new.d (Ok c.in_ok-sofar.sofar) c.in_ok-sofar.ensures

pub returns : goal.returns
returns c =
    loop_end (λ (now : CellTrees). of_place (of_up c.args.atom) c.args.links.now) c.args.d.now [] (λ j a. tt) c.args.start c.args.places.now
    c.loop-i.d c.loop-i.sofar c.loop-i.i (omega (arith, c.loop-i-test.false)) c.loop-i.invariant

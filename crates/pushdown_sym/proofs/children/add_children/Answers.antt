use Rattle.std.proofs.Common.{List, Ok, arith}
use Rattle.std.specs.List.{flat_map}
use Rattle.class_diagrams.specs.Trees.{Tree}
use Rattle.class_diagrams.specs.Arena.{tree_at}
use Rattle.class_diagrams.proofs.ArenaLemmas.{IsIn-further}
use Rattle.pushdown_sym.specs.Terms.{disjunction}
use Rattle.pushdown_sym.specs.Children.{terms_by}
use Rattle.pushdown_sym.proofs.AddLemmas.{each_start, each_more, each_failed, each_end, cells_in}
use Rattle.pushdown_sym.proofs.ChildLemmas.{each_in, term_stays}
use Rattle.pushdown_sym.proofs.children.add_children.Goals as goal

pub loop-i-init : goal.loop-i-init
loop-i-init c = each_start (λ (ts : List Tree). terms_by ts c.args.now.now c.args.kind) c.args.d.now c.args.start c.args.children.now (term_stays c.args.d.now.branches c.args.now.now c.args.kind c.args.children.now c.requires.inside c.requires.children) c.requires.arena c.requires.start

pub add_one-requires-clause-inside : goal.add_one-requires-clause-inside
add_one-requires-clause-inside c = cells_in c.args.d.now.branches c.loop-i.d.branches c.args.now.now c.loop-i.invariant.brings.stays c.requires.inside

pub add_one-requires-clause-child : goal.add_one-requires-clause-child
add_one-requires-clause-child c = λ may.
    IsIn-further c.args.d.now.branches c.loop-i.d.branches c.index-children-i.result.diagram c.loop-i.invariant.brings.stays
    (each_in c.args.d.now.branches c.args.now.now c.args.kind c.args.children.now c.loop-i.i c.index-children-i.result c.requires.children c.loop-i-test.true c.index-children-i.is may)

pub returns-in_err-sofar : goal.returns-in_err-sofar
returns-in_err-sofar c =
    each_failed (λ (ts : List Tree). terms_by ts c.args.now.now c.args.kind) c.args.d.now c.args.start c.args.children.now (term_stays c.args.d.now.branches c.args.now.now c.args.kind c.args.children.now c.requires.inside c.requires.children)
    c.loop-i.d c.loop-i.sofar c.loop-i.i c.index-children-i.result c.loop-i-test.true c.index-children-i.is c.loop-i.invariant
    c.add_one.new.d c.from_residual.result
    (disjunction (tree_at c.args.d.now.branches c.args.start) (flat_map (terms_by c.args.d.now.branches c.args.now.now c.args.kind) c.args.children.now))
    c.in_err-sofar.field-0.0 c.from_residual.ensures.1 c.in_err-sofar.ensures

pub loop-i-preserved : goal.loop-i-preserved
loop-i-preserved c =
    each_more (λ (ts : List Tree). terms_by ts c.args.now.now c.args.kind) c.args.d.now c.args.start c.args.children.now (term_stays c.args.d.now.branches c.args.now.now c.args.kind c.args.children.now c.requires.inside c.requires.children)
    c.loop-i.d c.loop-i.sofar c.loop-i.i c.index-children-i.result c.loop-i-test.true c.index-children-i.is c.loop-i.invariant
    c.add_one.new.d (Ok c.in_ok-sofar.sofar) c.in_ok-sofar.ensures

pub returns : goal.returns
returns c =
    each_end (λ (ts : List Tree). terms_by ts c.args.now.now c.args.kind) c.args.d.now c.args.start c.args.children.now (term_stays c.args.d.now.branches c.args.now.now c.args.kind c.args.children.now c.requires.inside c.requires.children)
    c.loop-i.d c.loop-i.sofar c.loop-i.i (omega (arith, c.loop-i-test.false)) c.loop-i.invariant

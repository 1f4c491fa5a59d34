use Rattle.std.proofs.Common.{sym, subst}
use Rattle.class_diagrams.specs.Arena.{IsIn}
use Rattle.diagram_ops.proofs.StepLemmas.{brings_itself}
use Rattle.pushdown_sym.specs.Adding.{results_in}
use Rattle.pushdown_sym.specs.Children.{DoServe}
use Rattle.pushdown_sym.proofs.AddLemmas.{whole_stays}
use Rattle.pushdown_sym.proofs.ChildLemmas.{none_serve}
use Rattle.pushdown_sym.proofs.equations.Equations.next_through.Goals as goal

pub is_whole-requires : goal.is_whole-requires
is_whole-requires c = subst (IsIn c.args.d.now.branches) (sym c.requires.start) (c.requires.inside c.args.cell.0 c.args.cell.1)

pub returns-then-is_whole : goal.returns-then-is_whole
returns-then-is_whole c =
    whole_stays c.args.self.now c.args.d.now c.args.now.now c.args.cell.0 c.args.cell.1 c.args.cell.2 c.is_whole.ensures.arena c.requires.inside c.requires.start (c.is_whole.ensures.whole c.if-is_whole.true)

pub next_by-requires-clause-children : goal.next_by-requires-clause-children
next_by-requires-clause-children c = none_serve c.args.self.now c.args.now.now c.args.cell.0 c.args.cell.1 (c.is_given_below.ensures.none c.if-not-is_given_below.true)

pub returns-in-Err : goal.returns-in-Err
returns-in-Err c = record { answer = tt; brings = brings_itself c.args.d.now (results_in c.args.self.now c.args.d.now c.args.now.now c.args.cell.0 c.args.cell.1) c.is_whole.ensures.arena }

pub next_by-requires-in-Ok-clause-children : goal.next_by-requires-in-Ok-clause-children
next_by-requires-in-Ok-clause-children c =
    subst (DoServe c.args.self.now c.args.now.now c.args.cell.0 c.args.cell.1) (sym c.items.ensures) c.in-Ok.ensures

use Rattle.std.proofs.Common.{sym, ap, subst, ◌∙◌}
use Rattle.class_diagrams.specs.Arena.{IsIn}
use Rattle.diagram_ops.proofs.StepLemmas.{brings_itself}
use Rattle.pushdown_sym.specs.Adding.{results_in}
use Rattle.pushdown_sym.specs.Children.{beneath}
use Rattle.pushdown_sym.proofs.AddLemmas.{whole_stays}
use Rattle.pushdown_sym.proofs.equations.Equations.next_alone.Goals as goal

pub is_whole-requires : goal.is_whole-requires
is_whole-requires c = subst (IsIn c.args.d.now.branches) (sym c.get-start.ensures) (c.requires c.args.kind c.args.atom)

pub returns-then-is_whole : goal.returns-then-is_whole
returns-then-is_whole c =
    whole_stays c.args.self.now c.args.d.now c.args.now.now c.args.kind c.args.atom c.get-start.result c.is_whole.ensures.arena c.requires c.get-start.ensures (c.is_whole.ensures.whole c.if-is_whole.true)

pub returns-in-Err : goal.returns-in-Err
returns-in-Err c = record { answer = tt; brings = brings_itself c.args.d.now (results_in c.args.self.now c.args.d.now c.args.now.now c.args.kind c.args.atom) c.is_whole.ensures.arena }

pub next_by-requires-clause-children : goal.next_by-requires-clause-children
next_by-requires-clause-children c = ap (beneath c.args.now.now c.args.kind) (c.items.ensures ∙ c.in-Ok.ensures)

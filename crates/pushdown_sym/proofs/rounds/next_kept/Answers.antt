use Rattle.std.proofs.Common.{[], unwrap_or, sym, ap, ◌∙◌, subst}
use Rattle.class_diagrams.specs.Arena.{IsIn}
use Rattle.diagram_ops.proofs.StepLemmas.{brings_itself}
use Rattle.pushdown_sym.specs.Adding.{results_in}
use Rattle.pushdown_sym.specs.Children.{beneath}
use Rattle.pushdown_sym.proofs.AddLemmas.{whole_stays}
use Rattle.pushdown_sym.proofs.ChildLemmas.{none_serve}
use Rattle.pushdown_sym.proofs.rounds.next_kept.Goals as goal

pub is_whole-requires : goal.is_whole-requires
is_whole-requires c = subst (IsIn c.args.d.now.branches) (sym c.requires.start) (c.requires.inside c.args.cell.0 c.args.cell.1)

pub next_by-requires-clause-children : goal.next_by-requires-clause-children
next_by-requires-clause-children c = none_serve c.args.equations.now c.args.now.now c.args.cell.0 c.args.cell.1 (c.is_given_below.ensures.none c.if-not-is_given_below.true)

pub next_by-requires-in-Ok-clause-children : goal.next_by-requires-in-Ok-clause-children
next_by-requires-in-Ok-clause-children c = ap (beneath c.args.now.now c.args.cell.0) (c.of.ensures ∙ ap (λ o. unwrap_or o []) c.in-Ok.ensures.there)

pub returns-then-is_whole-clause-next : goal.returns-then-is_whole-clause-next
returns-then-is_whole-clause-next c =
    whole_stays c.args.equations.now c.args.d.now c.args.now.now c.args.cell.0 c.args.cell.1 c.args.cell.2 c.is_whole.ensures.arena c.requires.inside c.requires.start (c.is_whole.ensures.whole c.if-is_whole.true)

pub returns-in-Err-clause-next : goal.returns-in-Err-clause-next
returns-in-Err-clause-next c = record { answer = tt; brings = brings_itself c.args.d.now (results_in c.args.equations.now c.args.d.now c.args.now.now c.args.cell.0 c.args.cell.1) c.is_whole.ensures.arena }

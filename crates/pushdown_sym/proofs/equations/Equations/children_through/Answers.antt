use Rattle.std.proofs.Common.{◌∙◌, IfOk, sym, subst}
use Rattle.std.proofs.lemmas.Result.{IfOk-weaker}
use Rattle.simple_core.specs.declared.system.System.{System}
use Rattle.pushdown_sym.specs.Givers.{AreDoors}
use Rattle.pushdown_sym.specs.Children.{DoServe}
use Rattle.pushdown_sym.proofs.DoorLemmas.{through_serve}
use Rattle.pushdown_sym.proofs.equations.Equations.children_through.Goals as goal

pub returns : goal.returns
returns c =
    let n = c.self.inside in
    let doors = subst (λ (s : System). AreDoors s.child c.args.now.now c.args.cell.0 c.args.doors.now) (sym c.self.view_is) c.requires in
    subst (λ (s : System). IfOk c.through.result (DoServe s c.args.now.now c.args.cell.0 c.args.cell.1)) c.self.view_is
    (IfOk-weaker c.through.result _ _
    (λ x is. through_serve c.args.now.now c.args.cell.0 n.system c.args.cell.1 c.items.result.now c.items-2.result.now c.of-places.result.now c.args.doors.now x
    c.items.ensures c.items-2.ensures (c.of-places.ensures ∙ c.self.invariant.0.downs c.args.cell.1) doors is) c.through.ensures)

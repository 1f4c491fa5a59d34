use Rattle.std.proofs.Common.{◌≡◌, ◌∙◌, List, IfOk, subst}
use Rattle.simple_core.specs.declared.system.System.{System}
use Rattle.pushdown_sym.specs.declared.gathering.Child.{Child}
use Rattle.pushdown_sym.specs.Children.{standing_of, different}
use Rattle.pushdown_sym.proofs.ChildLemmas.{gathered}
use Rattle.pushdown_sym.proofs.equations.Equations.children.Goals as goal

pub returns : goal.returns
returns c =
    let n = c.self.inside in
    subst (λ (s : System). IfOk c.of.result (λ x. x ≡ different (standing_of s c.args.now.now c.args.atom))) c.self.view_is
    (subst (λ (cs : List Child). IfOk c.of.result (λ x. x ≡ cs))
    (gathered n.system c.args.now.now c.args.atom c.items.result.now c.items-2.result.now c.of-places.result.now c.items.ensures c.items-2.ensures (c.of-places.ensures ∙ c.self.invariant.0.downs c.args.atom))
    c.of.ensures)

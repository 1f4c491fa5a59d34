use Rattle.std.proofs.Common.{option_and_then, unwrap_or, sym, ap, ◌∙◌}
use Rattle.std.specs.Option.{option_copied}
use Rattle.proof_core.specs.declared.node_passes.NodePass.{NodePass}
use Rattle.proof_core.proofs.NodePassLemmas.{child_at}
use Rattle.proof_core.proofs.node_passes.child_for.Goals as goal

pub returns-in-Some : goal.returns-in-Some
returns-in-Some c = λ v.
    c.unwrap_or.ensures
    ∙ ap (λ o. unwrap_or (option_and_then (λ (p : NodePass). p.pass.child) o) 0) (sym (ap option_copied c.in-Some.is) ∙ c.first.ensures)
    ∙ sym (child_at c.args.here.now c.args.at.node c.args.at.atom v)

pub returns-in-None : goal.returns-in-None
returns-in-None c = λ v.
    ap (λ o. unwrap_or (option_and_then (λ (p : NodePass). p.pass.child) o) 0) (sym (ap option_copied c.in-None.is) ∙ c.first.ensures)
    ∙ sym (child_at c.args.here.now c.args.at.node c.args.at.atom v)

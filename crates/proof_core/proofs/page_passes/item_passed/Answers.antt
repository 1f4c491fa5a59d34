use Rattle.std.proofs.Common.{ℕ, ◌∷◌, ◌++◌, [], Some, length, sym, ap, ◌∙◌}
use Rattle.proof_check.specs.declared.proofs.Reason.TheVariants.{Down}
use Rattle.proof_core.specs.NodePasses.{seen_at}
use Rattle.proof_core.specs.PagePasses.{seen_in}
use Rattle.proof_core.specs.Trails.{progress_of}
use Rattle.proof_check.specs.Unfolding.{Passed, end_for, unfold_reason, unfold_entry}
use Rattle.proof_core.proofs.page_passes.item_passed.Goals as goal

pub returns-in_ok-pass-in-Down-default-Real-clause-trail : goal.returns-in_ok-pass-in-Down-default-Real-clause-trail
returns-in_ok-pass-in-Down-default-Real-clause-trail c =
    let below = rw c.in-Down-default-Real.is at c.in-Down-default-Real.field-1-is in
    let s = c.args.world.now.system.now in
    let es = c.args.world.now.entries.now in
    let node = c.args.node.now in
    let x = c.args.item.now in
    let u = unfold_entry s es (length es) in
    sym (ap (λ r. (unfold_reason s u r x node.base node.at.now (seen_at node.here.now node.number node.at.now) (λ k. seen_in node.nodes.now node.here.now (node.at.now ++ k ∷ [])) (progress_of c.args.trail.now)).0)
    (c.in-Down-default-Real.is ∙ ap (Down c.in-Down-default-Real.link) below))

pub returns-in_ok-pass-in-Down-default-Real-clause-pass : goal.returns-in_ok-pass-in-Down-default-Real-clause-pass
returns-in_ok-pass-in-Down-default-Real-clause-pass c =
    let below = rw c.in-Down-default-Real.is at c.in-Down-default-Real.field-1-is in
    let s = c.args.world.now.system.now in
    let es = c.args.world.now.entries.now in
    let node = c.args.node.now in
    let x = c.args.item.now in
    let u = unfold_entry s es (length es) in
    let k = c.in-Down-default-Real.k in
    let child = node.at.now ++ k ∷ [] in
    let made : ℕ → Passed = λ from. record { atom = x.atom; child = Some k; end = end_for from (seen_in node.nodes.now node.here.now child) child } in
    let pass = rw below at (rw c.in-Down-default-Real.is at c.in_ok-pass-in-Down-default-Real.ensures.pass) in
    pass ∙ ap made c.from_of-from.ensures
    ∙ sym (ap (λ r. (unfold_reason s u r x node.base node.at.now (seen_at node.here.now node.number node.at.now) (λ m. seen_in node.nodes.now node.here.now (node.at.now ++ m ∷ [])) (progress_of c.args.trail.now)).1)
    (c.in-Down-default-Real.is ∙ ap (Down c.in-Down-default-Real.link) below))

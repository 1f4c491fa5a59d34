use Rattle.std.proofs.Common.{◌≡◌, ◌∷◌, ◌++◌, [], reverse, sym, ap, subst, append_assoc, ◌∙◌}
use Rattle.proof_core.specs.NodePasses.{way_on, all_seen}
use Rattle.proof_core.specs.PagePasses.{seen_in}
use Rattle.proof_check.specs.Unfolding.{end_for}
use Rattle.proof_core.proofs.page_passes.child_passed.Goals as goal

pub returns-clause-pass : goal.returns-clause-pass
returns-clause-pass c = λ j.
    let node = c.args.node.now in
    let v = node.at.now in
    let k = c.args.k in
    let p = c.in_ok-pass.pass in
    let rest = way_on (all_seen node.here.now) c.place_at-on.result in
    let path : c.deref.result.now ≡ v ++ k ∷ [] = c.deref.ensures.value ∙ c.in_ok-push.ensures.items ∙ ap (λ w. w ++ k ∷ []) c.in_ok-child.ensures in
    let there : end_for c.args.from (seen_in node.nodes.now node.here.now (v ++ k ∷ [])) (v ++ k ∷ []) ≡ (v ++ k ∷ []) ++ rest
    = subst (λ w. end_for c.args.from (seen_in node.nodes.now node.here.now w) w ≡ w ++ rest) path c.place_at-on.ensures in
    let end = ap (λ w. v ++ (reverse w ++ rest)) (c.in_ok-pass.ensures.way ∙ ap (λ w. w ++ k ∷ []) c.new.ensures.items) ∙ sym (append_assoc v (k ∷ []) rest) ∙ sym there in
    record { atom = c.in_ok-pass.ensures.atom j; child = c.in_ok-pass.ensures.child j; end = end j }

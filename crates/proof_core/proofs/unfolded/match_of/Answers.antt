use Rattle.std.proofs.Common.{◌≡◌, ◌++◌, [], sym, ap, subst, ◌∙◌}
use Rattle.proof_core.specs.NodePasses.{way_on, all_seen}
use Rattle.proof_core.specs.PagePasses.{seen_in}
use Rattle.proof_check.specs.Unfolding.{end_for}
use Rattle.proof_core.proofs.unfolded.match_of.Goals as goal

pub returns : goal.returns
returns c =
    let here = c.args.here.now in
    let root : c.as_slice.result.now ≡ [] = c.as_slice.ensures.value ∙ c.new-root.ensures.items in
    c.in_ok-path.ensures ∙ ap (λ xs. way_on (all_seen xs) c.place_at-from.result) c.items.ensures
    ∙ sym (subst (λ w. end_for c.args.target (seen_in c.args.nodes.now here w) w ≡ w ++ way_on (all_seen here) c.place_at-from.result) root c.place_at-from.ensures)

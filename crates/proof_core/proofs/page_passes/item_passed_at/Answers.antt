use Rattle.std.proofs.Common.{◌≡◌, ◌∷◌, ◌++◌, [], if◌then◌else◌, Some, length, sym, ap, ◌∙◌}
use Rattle.std.specs.Str.{bytes_eq}
use Rattle.proof_check.specs.Nodes.{number_in}
use Rattle.proof_core.specs.NodePasses.{passed_to, seen_one, all_seen}
use Rattle.proof_core.specs.PagePasses.{seen_in, item_seen}
use Rattle.proof_core.specs.Trails.{progress_of}
use Rattle.proof_check.specs.Unfolding.{unfold_item, unfold_entry}
use Rattle.proof_core.proofs.PagePassLemmas.{seen_at_number, seen_pushed}
use Rattle.proof_core.proofs.page_passes.item_passed_at.Goals as goal

pub returns-clause-here : goal.returns-clause-here
returns-clause-here c = λ q.
    let s = c.args.world.now.system.now in
    let es = c.args.world.now.entries.now in
    let nodes = c.args.page.now.nodes.now in
    let here = c.args.here.now in
    let item = c.args.item.now in
    let before = progress_of c.args.trail.now in
    let n = c.number_of-number.result in
    let p = c.in_ok-pass.pass in
    let at : number_in nodes item.at ≡ Some n = ap (number_in nodes) (sym (c.deref.ensures.value ∙ c.in_ok-path.ensures)) ∙ c.number_of-number.ensures in
    let same : passed_to item.at (seen_one (all_seen here) p) ≡ (item_seen s es c.args.page.now.tree.now item (seen_in nodes here) before).1
    = c.in_ok-pass.ensures.pass
    ∙ (λ j. (unfold_item s (unfold_entry s es (length es)) item.item (c.base_of-base.ensures.base j) item.at (sym (seen_at_number nodes here item.at n at) j) (λ k. seen_in nodes here (item.at ++ k ∷ [])) before).1) in
    ap (λ h. seen_in nodes h q) c.in_ok-push.ensures ∙ seen_pushed nodes here p item.at n at c.in_ok-pass.ensures.node q
    ∙ ap (λ z. if bytes_eq item.at q then seen_in nodes here q ++ z ∷ [] else seen_in nodes here q) same

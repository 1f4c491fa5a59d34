use Rattle.std.proofs.Common.{ℕ, List, Some, Contains, sym, subst}
use Rattle.simple_core.specs.Rounds.{IsFirst}
use Rattle.simple_core.specs.Pages.{page_round}
use Rattle.proof_maker.proofs.FindLemmas.{ok_further}
use Rattle.proof_maker.proofs.GlanceLemmas.{first_some, page_glance}
use Rattle.proof_maker.proofs.glances.glance_node.Goals as goal

pub glance_in-requires-clause-first : goal.glance_in-requires-clause-first
glance_in-requires-clause-first g c =
    let s = c.args.world.now.system.now in
    let page = c.args.world.now.page.now in
    let node = c.requires.node in
    let labels : ℕ → List ℕ = λ k. page_round s page k c.in_ok-at.at in
    let comes : (k : ℕ) × Contains (labels k) c.args.atom = subst (λ (z : List ℕ). (k : ℕ) × Contains (page_round s page k z) c.args.atom) (sym (c.in_ok-at.ensures node.path node.at)) node.comes in
    subst (λ z. IsFirst labels c.args.atom (Some z)) (sym c.unwrap_or-round.ensures) (first_some labels c.args.atom c.first.result comes c.first.ensures.first)

pub returns : goal.returns
returns g c =
    ok_further c.glance_in.result _ _ c.glance_in.ensures.glance
    (λ found is v at. page_glance c.args.world.now.system.now c.args.world.now.page.now c.args.atom found _ v (c.in_ok-at.ensures v at) is)

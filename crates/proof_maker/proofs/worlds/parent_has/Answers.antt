use Rattle.std.proofs.Common.{◌≡◌, List, ℕ, Some, true, not, is_some, ap, subst, ◌∙◌}
use Rattle.tree_sem.specs.Paths.{parent_of}
use Rattle.tree_sem.proofs.PathLemmas.{IsSome-parent_of}
use Rattle.proof_maker.proofs.WorldLemmas.{popped, above_is}
use Rattle.proof_maker.proofs.worlds.parent_has.Goals as goal

pub node_has-requires-clause-node : goal.node_has-requires-clause-node
node_has-requires-clause-node g c =
    let there : is_some c.pop.result ≡ true = c.is_none.ensures ∙ ap not c.if-is_none.false in
    let parent = popped c.in_ok-above.above c.pop.new.self c.pop.result there c.pop.ensures.root c.pop.ensures.rest in
    IsSome-parent_of c.args.at.now c.pop.new.self c.args.world.now.page.now
    (subst (λ (v : List ℕ). parent_of v ≡ Some c.pop.new.self) c.in_ok-above.ensures parent) c.requires.node

pub returns : goal.returns
returns g c =
    let there : is_some c.pop.result ≡ true = c.is_none.ensures ∙ ap not c.if-is_none.false in
    let parent = popped c.in_ok-above.above c.pop.new.self c.pop.result there c.pop.ensures.root c.pop.ensures.rest in
    c.node_has.ensures
    ∙ above_is c.args.world.now.system.now c.args.world.now.page.now c.args.at.now c.pop.new.self c.args.atom c.args.round
    (subst (λ (v : List ℕ). parent_of v ≡ Some c.pop.new.self) c.in_ok-above.ensures parent)

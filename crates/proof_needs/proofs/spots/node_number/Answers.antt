use Rattle.std.proofs.Common.{◌≡◌, Some, Vec, ℕ, Global, sym, ap, ◌∙◌, subst}
use Rattle.tp_base.proofs.Lists.{map_at}
use Rattle.proof_needs.specs.Sets.{IsWith}
use Rattle.proof_needs.specs.Spots.{paths_in}
use Rattle.proof_needs.proofs.KeyLemmas.{steps_eq, steps_sound, steps_same}
use Rattle.proof_needs.proofs.SetLemmas.{insert_with}
use Rattle.proof_needs.proofs.spots.node_number.Goals as goal

pub returns-clause-number : goal.returns-clause-number
returns-clause-number c =
    let is = c.in_ok-number.ensures.stored in
    map_at (λ (k : Vec ℕ Global). k.items) c.insert_full.new.self.keys c.in_ok-number.number is.0 is.1
    ∙ ap Some (sym (steps_sound c.in_ok-steps.steps is.0 is.2) ∙ c.in_ok-steps.ensures)

pub returns-clause-nodes : goal.returns-clause-nodes
returns-clause-nodes c =
    let old = c.args.nodes.now.keys in
    let added = insert_with steps_eq (λ (k : Vec ℕ Global). k.items) steps_sound steps_same old c.in_ok-steps.steps in
    subst (λ v. IsWith (paths_in old) (λ u. u ≡ v) (paths_in c.insert_full.new.self.keys)) c.in_ok-steps.ensures
    (subst (λ ks. IsWith (paths_in old) (λ u. u ≡ c.in_ok-steps.steps.items) (paths_in ks)) (sym c.in_ok-number.ensures.keys) added)

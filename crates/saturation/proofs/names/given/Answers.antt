use Rattle.std.proofs.Common.{◌≡◌, ℕ, List, IfOk, subst}
use Rattle.saturation.proofs.NameLemmas.{given_is}
use Rattle.saturation.proofs.names.given.Goals as goal

pub returns : goal.returns
returns c =
    subst (λ (xs : List ℕ). IfOk c.into_set.result (λ s. s ≡ xs))
    (given_is c.args.system.now c.items.result.now c.items-2.result.now c.items-3.result.now c.items-4.result.now
    c.new-atoms.result c.add_labels.new.atoms c.add_gives.new.atoms c.add_ends.new.atoms c.add_ends-2.new.atoms
    c.items.ensures c.items-2.ensures c.items-3.ensures c.items-4.ensures c.new-atoms.ensures
    c.in_ok-add_labels.ensures c.in_ok-add_gives.ensures c.in_ok-add_ends.ensures c.in_ok-add_ends-2.ensures)
    c.into_set.ensures

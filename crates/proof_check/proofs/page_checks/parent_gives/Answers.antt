use Rattle.std.proofs.Common.{◌≡◌, false, option_map, unwrap_or, sym, ap, ◌∙◌, arith}
use Rattle.tree_sem.proofs.PathLemmas.{parent_of-take}
use Rattle.proof_check.specs.Nodes.{page_gives}
use Rattle.proof_check.proofs.page_checks.parent_gives.Goals as goal

pub returns-in-len1-up : goal.returns-in-len1-up
returns-in-len1-up c =
    c.node_gives.ensures ∙ ap (λ o. unwrap_or (option_map (λ p. page_gives c.args.nodes.now c.args.known.now p c.args.atom) o) false) (sym (parent_of-take c.args.path.now (omega (arith, c.in-len1-up.len_at_least))))

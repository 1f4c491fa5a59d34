use Rattle.std.proofs.Common.{◌++◌, option_and_then, sym, ap, ◌∙◌}
use Rattle.proof_core.specs.NodePasses.{way_on, all_seen, first_at}
use Rattle.proof_core.proofs.PagePassLemmas.{end_in}
use Rattle.proof_core.proofs.page_passes.place_at.Goals as goal

pub returns-in-Some : goal.returns-in-Some
returns-in-Some c =
    let here = c.args.here.now in
    let v = c.args.path.now in
    end_in c.args.nodes.now here v c.args.atom
    ∙ ap (λ o. v ++ way_on (all_seen here) o) (ap (option_and_then (λ n. first_at here n c.args.atom)) (sym c.get.ensures ∙ c.in-Some.is) ∙ sym c.place_of.ensures)

pub returns-in-None : goal.returns-in-None
returns-in-None c =
    let here = c.args.here.now in
    let v = c.args.path.now in
    end_in c.args.nodes.now here v c.args.atom
    ∙ ap (λ o. v ++ way_on (all_seen here) o) (ap (option_and_then (λ n. first_at here n c.args.atom)) (sym c.get.ensures ∙ c.in-None.is))

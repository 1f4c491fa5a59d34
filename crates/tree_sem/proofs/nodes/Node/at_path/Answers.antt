use Rattle.std.proofs.Common.{◌≡◌, Some, None, sym, ◌∙◌}
use Rattle.tree_sem.specs.Arena.{place_from}
use Rattle.tree_sem.specs.Table.{kids_in}
use Rattle.tree_sem.proofs.TableLemmas.{walked}
use Rattle.tree_sem.proofs.UpwardLemmas.{placed, view_there, view_missing}
use Rattle.tree_sem.proofs.nodes.Node.at_path.Goals as goal

pub returns-in_err-place : goal.returns-in_err-place
returns-in_err-place c =
    let slots = c.args.slots.now in
    let none : None ≡ place_from (kids_in slots) 0 c.args.at.now = walked slots c.args.at.now c.len.result None c.len.ensures c.in_err-place.ensures.place in
    c.from_residual.ensures ∙ sym (view_missing slots c.requires c.args.at.now none)

pub invariant_of-result : goal.invariant_of-result
invariant_of-result c =
    let slots = c.args.slots.now in
    let at : Some c.in_ok-place.place ≡ place_from (kids_in slots) 0 c.args.at.now = walked slots c.args.at.now c.len.result (Some c.in_ok-place.place) c.len.ensures c.in_ok-place.ensures.place in
    placed slots c.requires c.args.at.now c.in_ok-place.place (sym at)

pub returns : goal.returns
returns c =
    let slots = c.args.slots.now in
    let at : Some c.in_ok-place.place ≡ place_from (kids_in slots) 0 c.args.at.now = walked slots c.args.at.now c.len.result (Some c.in_ok-place.place) c.len.ensures c.in_ok-place.ensures.place in
    sym (view_there slots c.requires c.args.at.now c.in_ok-place.place at)

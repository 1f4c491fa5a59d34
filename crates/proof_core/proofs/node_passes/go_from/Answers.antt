use Rattle.std.proofs.Common.{◌≡◌, ◌++◌, length, reverse, Some, slice_get, refl, sym, ap, append_assoc, ◌∙◌}
use Rattle.std.proofs.lemmas.Option.{slice_get_read}
use Rattle.proof_core.specs.NodePasses.{way_on, all_seen}
use Rattle.proof_core.proofs.NodePassLemmas.{walk_on, walk_past}
use Rattle.proof_core.proofs.node_passes.go_from.Goals as goal

pub returns-in_default-clause-whole : goal.returns-in_default-clause-whole
returns-in_default-clause-whole c =
    let items = c.args.items.now in
    ap (λ w. c.args.path.now ++ w) (sym (walk_past items c.args.place c.in_default.ensures.lookup.3))

pub returns-clause-whole : goal.returns-clause-whole
returns-clause-whole c =
    let items = c.args.items.now in
    let p = c.in-Some.item.now in
    let at : slice_get items c.args.place ≡ Some p = slice_get_read items (length items) c.args.place p refl c.in-Some.ensures.lookup.3.0 c.in-Some.ensures.lookup.1 in
    let own = c.in_ok-go_down.ensures ∙ ap (λ w. c.args.path.now ++ reverse w) c.deref.ensures.value in
    ap (λ w. w ++ way_on (all_seen items) c.earlier.result) own
    ∙ append_assoc c.args.path.now (reverse p.pass.way.items) (way_on (all_seen items) c.earlier.result)
    ∙ ap (λ o. c.args.path.now ++ (reverse p.pass.way.items ++ way_on (all_seen items) o)) c.earlier.ensures.value
    ∙ ap (λ w. c.args.path.now ++ w) (sym (walk_on items c.args.place p at))

use Rattle.std.proofs.Common.{[], ◌∷◌, ◌++◌, ◌∙◌, sym}
use Rattle.pushdown_sym.specs.CellMap.{place_in}
use Rattle.pushdown_sym.proofs.LinkLemmas.{paired_more}
use Rattle.pushdown_sym.proofs.children.with_diagrams.Goals as goal

pub loop-i-preserved : goal.loop-i-preserved
loop-i-preserved c =
    let f = place_in c.args.now.now c.args.kind in
    c.in_ok-push.ensures.items
    ∙ (λ i. c.loop-i.invariant i ++ (c.at-atom.result, c.get.ensures i) ∷ [])
    ∙ sym (paired_more f c.args.atoms.now c.loop-i.i c.at-atom.result c.at-atom.ensures)

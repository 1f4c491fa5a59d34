use Rattle.std.proofs.Common.{◌++◌, [], ◌∷◌, ap, sym, ◌∙◌}
use Rattle.simple_core.specs.declared.summaries.First.{First}
use Rattle.need_table.proofs.TableLemmas.{fresh_of-more}
use Rattle.need_table.proofs.entries.firsts_of.Goals as goal

pub loop-i-preserved : goal.loop-i-preserved
loop-i-preserved c =
    let f : First = record { atom = c.at-atom.result; round = 0 } in
    c.in_ok-push.ensures.items ∙ ap (λ z. z ++ f ∷ []) c.loop-i.invariant ∙ sym (fresh_of-more [] 0 c.args.label.now c.loop-i.i c.at-atom.result c.at-atom.ensures)

use Rattle.std.proofs.Common.{◌∷◌, ◌++◌, [], refl, sym, ap, ◌∙◌, add-one}
use Rattle.node_marks.proofs.NumberLemmas.{take_step, turned_off}
use Rattle.node_marks.proofs.numbered_tree.NumberedTree.number_of.Goals as goal

pub returns-in_err-found-clause-none : goal.returns-in_err-found-clause-none
returns-in_err-found-clause-none c = λ none. turned_off c.args.self.now c.levels.found c.levels.level c.at.result c.args.at.now c.levels.invariant.part c.at.ensures (c.in_err-found.ensures.none refl)

pub levels-preserved : goal.levels-preserved
levels-preserved c = record {
  within = c.in_ok-found.ensures.some.0;
  part = c.in_ok-found.ensures.some.1 ∙ ap (λ z. z ++ c.at.result ∷ []) c.levels.invariant.part ∙ rw add-one (sym (take_step c.args.at.now c.levels.level c.at.result c.at.ensures));
}

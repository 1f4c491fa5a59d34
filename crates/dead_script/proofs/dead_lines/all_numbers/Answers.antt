use Rattle.std.proofs.Common.{◌++◌, List, ℕ, [], ◌∷◌, ap, sym, ◌∙◌, arith}
use Rattle.dead_script.proofs.AskedLemmas.{range_more}
use Rattle.dead_script.proofs.dead_lines.all_numbers.Goals as goal

pub answers-preserved : goal.answers-preserved
answers-preserved c = c.in_ok-push.ensures.items ∙ ap (λ (l : List ℕ). l ++ c.answers.number ∷ []) c.answers.invariant ∙ sym (range_more 0 c.answers.number c.answers.number (omega arith))

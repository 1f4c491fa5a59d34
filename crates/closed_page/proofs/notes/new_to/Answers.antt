use Rattle.std.proofs.Common.{List, ℕ, Contains, ◌∙◌, subst}
use Rattle.closed_page.proofs.NoteLemmas.{all_new}
use Rattle.closed_page.proofs.notes.new_to.Goals as goal

pub returns-then-is_all_new-clause-atoms : goal.returns-then-is_all_new-clause-atoms
returns-then-is_all_new-clause-atoms c =
    c.in_ok-shared.ensures ∙ all_new c.args.own.now c.args.label.now (subst (λ (z : List ℕ). (a : ℕ) → Contains z a → Contains c.args.own.now a → ⊥) c.set-set.ensures (c.is_all_new.ensures.apart c.if-is_all_new.true))

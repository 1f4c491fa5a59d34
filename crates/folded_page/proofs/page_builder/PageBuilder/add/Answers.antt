use Rattle.std.proofs.Common.{◌≡◌, ◌+◌, ◌-◌, ◌<◌, ◌∷◌, ◌++◌, ℕ, List, [], length, get_or, sym, ap, ◌∙◌, subst, arith}
use Rattle.folded_page.proofs.LineLemmas.{step_there, added_to, order_kept}
use Rattle.folded_page.proofs.page_builder.PageBuilder.add.Goals as goal

pub go_down-requires : goal.go_down-requires
go_down-requires c =
    step_there c.args.self.now.builder c.go_up.new.self c.added.new.builder c.args.self.now.line.items c.args.self.now.count c.in-Some.level _ c.in_ok-step.step c.args.label c.requires
    (subst (λ (xs : List ℕ). c.in-Some.level < length xs) c.deref.ensures.value c.in-Some.ensures.0)
    (ap (λ k. k - 1 - c.in-Some.level) (c.len.ensures ∙ sym c.deref.ensures.len ∙ ap length c.deref.ensures.value))
    c.go_up.ensures.tree c.go_up.ensures.at c.in_ok-step.ensures.tree c.added.ensures.at c.in_ok-step.ensures.number

pub returns-clause-added : goal.returns-clause-added
returns-clause-added c =
    added_to c.args.self.now.builder c.go_up.new.self c.added.new.builder c.args.self.now.line.items c.args.self.now.count c.in-Some.level _ c.in_ok-step.step c.args.label c.requires
    (subst (λ (xs : List ℕ). c.in-Some.level < length xs) c.deref.ensures.value c.in-Some.ensures.0)
    (ap (λ k. k - 1 - c.in-Some.level) (c.len.ensures ∙ sym c.deref.ensures.len ∙ ap length c.deref.ensures.value))
    c.go_up.ensures.tree c.go_up.ensures.at c.in_ok-step.ensures.tree c.added.ensures.at c.in_ok-step.ensures.number
    c.go_down.new.builder c.in_ok-go_down.ensures.at c.go_down.ensures.tree c.args.parent
    (subst (λ (xs : List ℕ). get_or xs c.in-Some.level 0 ≡ c.args.parent) c.deref.ensures.value c.in-Some.ensures.1)

pub returns-clause-order : goal.returns-clause-order
returns-clause-order c =
    order_kept c.args.self.now.builder c.go_up.new.self c.added.new.builder c.args.self.now.line.items c.args.self.now.count c.in-Some.level _ c.in_ok-step.step c.args.label c.requires
    (subst (λ (xs : List ℕ). c.in-Some.level < length xs) c.deref.ensures.value c.in-Some.ensures.0)
    (ap (λ k. k - 1 - c.in-Some.level) (c.len.ensures ∙ sym c.deref.ensures.len ∙ ap length c.deref.ensures.value))
    c.go_up.ensures.tree c.go_up.ensures.at c.in_ok-step.ensures.tree c.added.ensures.at c.in_ok-step.ensures.number
    c.go_down.new.builder c.in_ok-go_down.ensures.at c.go_down.ensures.tree c.push.new.self.items (c.in-Some.level + 1) (c.args.self.now.count + 1) (omega arith) (omega arith)
    (c.in_ok-push.ensures.items ∙ ap (λ xs. xs ++ c.args.self.now.count ∷ []) c.truncate.ensures.items)

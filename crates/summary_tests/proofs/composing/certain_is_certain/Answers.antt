use Rattle.std.proofs.Common.{ℕ, [], ◌∷◌}
use Rattle.std.proofs.lemmas.List.Elements.{All-nil, All-cons}
use Rattle.class_diagrams.specs.References.{Reference}
use Rattle.class_diagrams.specs.Arena.{IsIn}
use Rattle.summary_tests.proofs.composing.certain_is_certain.Goals as goal

pub compose-requires-clause-each : goal.compose-requires-clause-each
compose-requires-clause-each c =
    let branches = c.var.new.self.branches in
    All-cons (λ (e : ℕ × Reference). IsIn branches e.1) (1, c.in_ok-c.c) ((2, c.leaf-top.result) ∷ []) c.in_ok-c.ensures.inside
    (All-cons (λ (e : ℕ × Reference). IsIn branches e.1) (2, c.leaf-top.result) [] (c.leaf-top.ensures.inside branches) (All-nil (λ (e : ℕ × Reference). IsIn branches e.1)))

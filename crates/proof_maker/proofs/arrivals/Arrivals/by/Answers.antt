use Rattle.std.proofs.Common.{List, ℕ, ◌↔◌, IfOk, Contains, ◌∙◌, subst}
use Rattle.simple_core.specs.declared.summaries.First.{First}
use Rattle.proof_maker.specs.Arrivals.{CameBy}
use Rattle.proof_maker.proofs.arrivals.Arrivals.by.Goals as goal

pub returns-clause-atoms : goal.returns-clause-atoms
returns-clause-atoms c =
    subst (λ (z : List First). IfOk c.arrived.result (λ (l : List ℕ). (a : ℕ) → Contains l a ↔ CameBy z c.args.round a)) (c.deref.ensures.value ∙ c.self.view_is) c.arrived.ensures.atoms

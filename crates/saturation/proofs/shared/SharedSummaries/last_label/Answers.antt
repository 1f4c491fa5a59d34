use Rattle.std.proofs.Common.{◌↔◌, ℕ, List, true, ◌≡◌, Contains, subst}
use Rattle.class_diagrams.specs.Trees.{eval}
use Rattle.pushdown_sym.specs.CellMap.{trees_in}
use Rattle.saturation.specs.HistoryMap.{history_in}
use Rattle.saturation.proofs.EndLemmas.{rest_is}
use Rattle.saturation.proofs.shared.SharedSummaries.last_label.Goals as goal

pub returns : goal.returns
returns c = rw (← c.self.view_is)
    (rest_is c.self.inside.system c.self.invariant.sound c.self.inside.diagrams (history_in c.self.inside.histories) c.self.inside.cells c.self.invariant.built c.args.kind
    (rw (← c.self.view_is) at c.requires.kind) c.args.parent.now c.in_ok-label.label c.in_ok-label.ensures.rising
    (λ a. subst (λ (xs : List ℕ). Contains c.in_ok-label.label a ↔ (Contains xs a × (eval (trees_in c.self.inside.diagrams.branches c.self.inside.cells c.args.kind a) c.args.parent.now ≡ true)))
    c.self.invariant.given (c.in_ok-label.ensures.members a)))

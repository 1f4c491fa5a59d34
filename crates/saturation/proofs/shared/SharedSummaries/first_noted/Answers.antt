use Rattle.std.proofs.Common.{◌∙◌, sym, ap, List, Bool}
use Rattle.saturation.specs.Histories.{Change, first_holding, first_in}
use Rattle.saturation.specs.HistoryMap.{history_in}
use Rattle.saturation.proofs.EndLemmas.{first_is, first_few}
use Rattle.saturation.proofs.FirstLemmas.{first_at_start}
use Rattle.saturation.proofs.GrowthLemmas.{found_growing}
use Rattle.saturation.proofs.shared.SharedSummaries.first_noted.Goals as goal

pub first_round_under-requires-clause-growing : goal.first_round_under-requires-clause-growing
first_round_under-requires-clause-growing c =
    found_growing c.self.inside.system c.self.inside.diagrams (history_in c.self.inside.histories) c.self.inside.cells c.self.invariant.built c.args.kind c.args.atom
    (rw (← c.self.view_is) at c.requires) c.of-history.result.now c.of-history.ensures c.args.parent.now

pub returns-then-starts_with-clause-first : goal.returns-then-starts_with-clause-first
returns-then-starts_with-clause-first c = first_at_start c.args.self.now.system c.args.kind c.args.atom c.args.parent.now (sym c.starts_with.ensures ∙ c.if-starts_with.true)

pub returns-clause-first : goal.returns-clause-first
returns-clause-first c = rw (← c.self.view_is)
    (first_is c.self.inside.system c.self.invariant.sound c.self.inside.diagrams (history_in c.self.inside.histories) c.self.inside.cells c.self.invariant.built c.args.kind c.args.atom
    (rw (← c.self.view_is) at c.requires) c.args.parent.now c.first_round_under.result
    (ap (λ (b : Bool). first_in b c.self.inside.diagrams.branches (history_in c.self.inside.histories c.args.kind c.args.atom) c.args.parent.now)
    (sym (rw (← c.self.view_is) at c.starts_with.ensures) ∙ c.if-starts_with.false)
    ∙ sym (c.first_round_under.ensures ∙ ap (λ (h : List Change). first_holding c.self.inside.diagrams.branches h c.args.parent.now) c.of-history.ensures)))

pub returns-clause-bound : goal.returns-clause-bound
returns-clause-bound c =
    first_few c.self.inside.system c.self.invariant.sound c.self.inside.diagrams (history_in c.self.inside.histories) c.self.inside.cells c.self.invariant.built c.args.kind c.args.atom
    (rw (← c.self.view_is) at c.requires) c.args.parent.now c.first_round_under.result
    (ap (λ (b : Bool). first_in b c.self.inside.diagrams.branches (history_in c.self.inside.histories c.args.kind c.args.atom) c.args.parent.now)
    (sym (rw (← c.self.view_is) at c.starts_with.ensures) ∙ c.if-starts_with.false)
    ∙ sym (c.first_round_under.ensures ∙ ap (λ (h : List Change). first_holding c.self.inside.diagrams.branches h c.args.parent.now) c.of-history.ensures))

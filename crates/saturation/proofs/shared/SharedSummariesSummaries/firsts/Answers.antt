use Rattle.saturation.specs.HistoryMap.{history_in}
use Rattle.saturation.proofs.CourseLemmas.{can_be_asked, firsts_are}
use Rattle.saturation.proofs.GateLemmas.{row_gated}
use Rattle.saturation.proofs.shared.SharedSummariesSummaries.firsts.Goals as goal

pub row_at-row-requires : goal.row_at-row-requires
row_at-row-requires c = rw (c.items.ensures, c.self.invariant.by_kind.count) (rw (← c.self.view_is) at c.requires.0)

pub firsts_by-requires : goal.firsts_by-requires
firsts_by-requires c =
    can_be_asked c.self.inside.system c.self.invariant.sound c.self.inside.diagrams (history_in c.self.inside.histories) c.self.inside.cells c.self.invariant.built c.args.kind
    (rw (← c.self.view_is) at c.requires.0) c.args.parent.now c.row_at-row.result.now
    (c.self.invariant.by_kind.each c.args.kind c.row_at-row.result.now (rw c.items.ensures at c.row_at-row.ensures))
    (row_gated c.self.inside.diagrams.branches c.self.inside.rows c.args.kind c.row_at-row.result.now c.self.invariant.gated (rw c.items.ensures at c.row_at-row.ensures))

pub returns : goal.returns
returns c = rw (← c.self.view_is)
    (firsts_are c.self.inside.system c.self.invariant.sound c.self.inside.diagrams (history_in c.self.inside.histories) c.self.inside.cells c.self.invariant.built c.args.kind
    (rw (← c.self.view_is) at c.requires.0) c.args.parent.now c.row_at-row.result.now
    (c.self.invariant.by_kind.each c.args.kind c.row_at-row.result.now (rw c.items.ensures at c.row_at-row.ensures))
    c.in_ok-firsts.firsts.items c.in_ok-firsts.ensures)

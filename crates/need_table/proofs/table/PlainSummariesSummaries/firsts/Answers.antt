use Rattle.std.proofs.Common.{◌≡◌, slice_get, Some, sym, ap, ◌∙◌, subst}
use Rattle.std.specs.List.{filter}
use Rattle.tp_base.specs.Classes.{has_class}
use Rattle.simple_core.specs.declared.summaries.First.{First}
use Rattle.need_table.specs.PlainTables.{PlainTable}
use Rattle.need_table.proofs.SettleLemmas.{visible_known}
use Rattle.need_table.proofs.table.PlainSummariesSummaries.firsts.Goals as goal

pub returns : goal.returns
returns c =
    let x = c.entry-entry.result.now in
    let at = subst (λ (t : PlainTable). slice_get t.known c.entry-place.result ≡ Some (c.args.kind, c.args.parent.now)) (sym c.self.view_is) c.entry-place.ensures in
    let kept : c.in_ok-firsts.firsts.items ≡ filter (λ (f : First). has_class f.atom c.self.inside.system.visible) x.firsts.items =
    c.in_ok-firsts.ensures ∙ ap (filter (λ (f : First). has_class f.atom c.self.inside.system.visible)) c.deref.ensures.value in
    rw (← c.self.view_is) (visible_known c.self.inside.system c.self.inside.pairs c.self.inside.table c.entry-place.result (c.args.kind, c.args.parent.now) x c.in_ok-firsts.firsts.items
    c.self.invariant.table c.self.invariant.at_rest at c.entry-entry.ensures kept)

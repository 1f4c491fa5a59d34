use Rattle.std.proofs.Common.{map, sym, ap, ◌∙◌}
use Rattle.std.specs.List.{list_any}
use Rattle.usage_report.specs.Views.{answer_of}
use Rattle.jq_exact.specs.Scripts.{exact_in, has_marks}
use Rattle.treeped_app.proofs.ExactLemmas.{all_kept}
use Rattle.jq_exact.proofs.MarkLemmas.{none_marked}
use Rattle.treeped_app.proofs.settling.settle_all.Goals as goal

pub returns-then-not-any_marked-clause-settled : goal.returns-then-not-any_marked-clause-settled
returns-then-not-any_marked-clause-settled c =
    let s = c.args.script in
    let none = sym c.any_marked.ensures ∙ c.if-not-any_marked.true in
    all_kept c.args.page.now (exact_in s) c.args.system.now (none_marked s.stmts.items s.sharp.items (ap (list_any has_marks) (sym c.deref.ensures.value) ∙ none)) (map answer_of c.args.items.items)

pub settle-requires-clause-room : goal.settle-requires-clause-room
settle-requires-clause-room c = rw (c.deref-2.ensures.value, c.in_ok-exact.ensures) c.requires.room

pub returns-clause-same : goal.returns-clause-same
returns-clause-same c = c.in_ok-script.ensures ∙ c.in_ok-exact.ensures

pub returns-clause-settled : goal.returns-clause-settled
returns-clause-settled c = rw (c.deref-2.ensures.value, c.in_ok-exact.ensures) at c.in_ok-items.ensures

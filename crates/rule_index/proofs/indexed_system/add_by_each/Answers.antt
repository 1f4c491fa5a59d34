use Rattle.std.proofs.Common.{◌+◌, ◌∙◌, ap}
use Rattle.rule_index.specs.Indexes.{given_in}
use Rattle.row_index.specs.Rows.{row_of}
use Rattle.rule_index.proofs.IndexLemmas.{label_more, between_label, on_err}
use Rattle.rule_index.proofs.indexed_system.add_by_each.Goals as goal

pub loop-i-preserved : goal.loop-i-preserved
loop-i-preserved c = label_more (given_in c.args.label.now) c.args.rules.now c.args.index.now (λ a. a + 1) c.args.fresh.now c.args.next.now c.loop-i.next c.add_rules.new.next c.of.result.now c.loop-i.i c.at-atom.result c.at-atom.ensures c.loop-i.invariant (c.of.ensures ∙ ap (λ z. row_of c.args.index.now (z + 1)) c.atom.view_is) c.in_ok-add_rules.ensures.ok

pub returns-in_err-add_rules-clause-err : goal.returns-in_err-add_rules-clause-err
returns-in_err-add_rules-clause-err c =
    on_err _ c.from_residual.result (between_label (given_in c.args.label.now) c.args.rules.now c.args.index.now (λ a. a + 1) c.args.fresh.now c.args.next.now c.loop-i.next c.add_rules.new.next c.of.result.now c.loop-i.i c.at-atom.result c.at-atom.ensures c.loop-i.invariant (c.of.ensures ∙ ap (λ z. row_of c.args.index.now (z + 1)) c.atom.view_is) c.in_err-add_rules.ensures.err)

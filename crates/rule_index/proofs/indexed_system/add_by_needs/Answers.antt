use Rattle.rule_index.proofs.IndexLemmas.{ruled, between_ruled, between_found, on_err}
use Rattle.rule_index.proofs.indexed_system.add_by_needs.Goals as goal

pub returns-clause-ok : goal.returns-clause-ok
returns-clause-ok c =
    ruled c.args.rules.now c.args.index.now c.args.label.now c.args.fresh.now c.args.next.now c.add_rules.new.next c.add_by_each.new.next c.of.result.now c.requires c.of.ensures c.in_ok-add_rules.ensures.ok c.in_ok-add_by_each.ensures.ok

pub returns-in_err-add_rules-clause-err : goal.returns-in_err-add_rules-clause-err
returns-in_err-add_rules-clause-err c = on_err _ c.from_residual.result (between_ruled c.args.rules.now c.args.label.now c.args.next.now c.add_rules.new.next c.of.result.now c.in_err-add_rules.ensures.err)

pub returns-in_err-add_by_each-clause-err : goal.returns-in_err-add_by_each-clause-err
returns-in_err-add_by_each-clause-err c =
    on_err _ c.from_residual-in_err-add_by_each.result (between_found c.args.rules.now c.args.label.now c.args.next.now c.add_by_each.new.next c.args.index.now c.args.fresh.now c.add_rules.new.next c.of.result.now c.in_ok-add_rules.ensures.ok c.in_err-add_by_each.ensures.err)

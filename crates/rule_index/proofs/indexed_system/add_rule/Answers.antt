use Rattle.gathered.proofs.MovingLemmas.{between_same}
use Rattle.rule_index.specs.Indexes.{at_place, given_in}
use Rattle.rule_index.proofs.IndexLemmas.{on_err}
use Rattle.rule_index.proofs.indexed_system.add_rule.Goals as goal

pub returns-in_err-add-clause-err : goal.returns-in_err-add-clause-err
returns-in_err-add-clause-err c = on_err _ c.from_residual.result (between_same c.args.next.now (at_place (given_in c.args.label.now) c.args.rules.now c.args.place) c.add.new.self c.in_err-add.ensures.err)

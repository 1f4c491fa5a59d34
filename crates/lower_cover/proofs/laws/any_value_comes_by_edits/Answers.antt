use Rattle.jq_stmts.specs.Views.{statements_of}
use Rattle.lower_cover.proofs.ValueLemmas.{get_atoms, get_tree}
use Rattle.lower_cover.proofs.laws.any_value_comes_by_edits.Goals as goal

pub returns-clause-atoms : goal.returns-clause-atoms
returns-clause-atoms c = get_atoms c.args.asked.now (statements_of c.args.stmts.now) c.args.page.now

pub returns-clause-trees : goal.returns-clause-trees
returns-clause-trees c = get_tree c.args.asked.now (statements_of c.args.stmts.now) c.args.page.now

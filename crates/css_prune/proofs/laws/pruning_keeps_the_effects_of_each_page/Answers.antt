use Rattle.jq_stmts.specs.Views.{statements_of}
use Rattle.css_prune.proofs.AlikeLemmas.{read_again, page_effects_kept}
use Rattle.css_prune.proofs.laws.pruning_keeps_the_effects_of_each_page.Goals as goal

pub returns : goal.returns
returns c = record {
  reads = read_again c.args.text.now;
  effects = page_effects_kept c.args.page.now (statements_of c.args.stmts.now) c.args.text.now;
}

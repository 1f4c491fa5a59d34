use Rattle.jq_stmts.specs.Views.{statements_of}
use Rattle.css_prune.proofs.EffectLemmas.{told, effects_kept}
use Rattle.css_prune.proofs.laws.pruning_keeps_the_effects.Goals as goal

pub returns : goal.returns
returns c = record {
  effects = effects_kept c.args.page.now (statements_of c.args.stmts.now) c.args.text.now;
  tests = told c.args.page.now;
}

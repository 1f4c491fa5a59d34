use Rattle.sel_text.specs.Views.{selector_of}
use Rattle.jq_sem.proofs.KeptLemmas.{match_kept}
use Rattle.jq_sem.proofs.laws.match_is_kept.Goals as goal

pub returns : goal.returns
returns c = match_kept c.args.tree.now c.args.larger.now (selector_of c.args.s.now)

use Rattle.treeped_app.proofs.EngineLemmas.{one_text}
use Rattle.treeped_app.proofs.laws.engines_agree.Goals as goal

pub returns : goal.returns
returns c = λ r r' t t' said said' ask. one_text r r' t t' said said' ask

use Rattle.std.proofs.Common.{ap, ◌∙◌}
use Rattle.css_read.specs.Pruned as spec
use Rattle.css_prune.proofs.CopyLemmas.{same_without}
use Rattle.css_prune.proofs.copying.without.Goals as goal

pub returns : goal.returns
returns c = c.in_ok-kept.ensures ∙ ap (λ rs. spec.without rs 0 c.args.text.now) c.as_slice.ensures.value ∙ same_without _ _ c.in_ok-sort.ensures.same 0 c.args.text.now

use Rattle.html_subset.proofs.AttributeLemmas.{nothing_before_end}
use Rattle.html_subset.proofs.labels.ends_at_once.Goals as goal

pub returns-in-Some : goal.returns-in-Some
returns-in-Some c = λ end. nothing_before_end c.args.text.now _ c.in-Some.first.now c.in-Some.ensures.cases.0 end

use Rattle.std.proofs.Common.{List, ℕ, [], map, get_or, ap, ◌∙◌}
use Rattle.closed_page.proofs.SpreadLemmas.{label_there}
use Rattle.closed_page.proofs.spreading.spread_labels.Goals as goal

pub returns-clause-label : goal.returns-clause-label
returns-clause-label c =
    label_there c.args.page.now c.args.numbers.now c.args.folded.now c.in_ok-labels.labels c.in_ok-known.known.items c.in_ok-own.own.items c.in_ok-labels.ensures.nodes c.requires.count c.requires.within c.in_ok-known.ensures
    (c.in_ok-own.ensures ∙ ap (λ (z : List (List ℕ)). map (λ k. get_or z k []) c.args.numbers.now) c.deref.ensures.value) c.in_ok-labels.ensures.labels

use Rattle.std.proofs.Common.{List, ℕ, Contains, map, subst}
use Rattle.tp_base.proofs.Rising.{Contains-none}
use Rattle.closed_page.specs.declared.notes.NodeNews.{NodeNews}
use Rattle.closed_page.proofs.SpreadLemmas.{labels_spread, related_spread}
use Rattle.closed_page.proofs.page_labels.PageLabels.with_own.Goals as goal

pub new-requires : goal.new-requires
new-requires c =
    let columns = c.args.columns in
    let labels : List (List ℕ) = map (λ b. b.now) columns.labels.items in
    (c.args.page.now, (labels, c.requires.columns))

pub invariant_of-result : goal.invariant_of-result
invariant_of-result c =
    let t = c.args.page.now in
    let columns = c.args.columns in
    let labels : List (List ℕ) = map (λ b. b.now) columns.labels.items in
    let nodes = c.in_ok-nodes.ensures t (labels, c.requires.columns) in
    (related_spread t c.in_ok-nodes.nodes c.args.own.items nodes c.requires.count, λ f there. absurd (Contains-none f (subst (λ (z : List NodeNews). Contains z f) c.new-2.ensures.items there)))

pub returns-clause-nodes : goal.returns-clause-nodes
returns-clause-nodes c =
    let t = c.args.page.now in
    let columns = c.args.columns in
    let labels : List (List ℕ) = map (λ b. b.now) columns.labels.items in
    c.in_ok-nodes.ensures t (labels, c.requires.columns)

pub returns-clause-labels : goal.returns-clause-labels
returns-clause-labels c =
    let t = c.args.page.now in
    let columns = c.args.columns in
    let labels : List (List ℕ) = map (λ b. b.now) columns.labels.items in
    let nodes = c.in_ok-nodes.ensures t (labels, c.requires.columns) in
    labels_spread t c.in_ok-nodes.nodes c.args.own.items nodes c.requires.count

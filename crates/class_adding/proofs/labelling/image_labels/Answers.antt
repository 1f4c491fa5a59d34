use Rattle.std.proofs.Common.{ℕ, List, ◌<◌, length, get_or, sym, subst}
use Rattle.simple_core.specs.Pairs.{Asked}
use Rattle.closed_page.specs.Spread.{IsSpread}
use Rattle.class_adding.proofs.ClosingLemmas.{closes_start, closes_on, closes_err, closes_refused, closes_alike}
use Rattle.class_adding.proofs.FoldedLemmas.{asked_back, within_nodes, spread_nodes, spread_closed}
use Rattle.class_adding.proofs.labelling.image_labels.Goals as goal

pub returns-in_err-images-clause-went : goal.returns-in_err-images-clause-went
returns-in_err-images-clause-went g c = closes_start g.S.Summaries c.args.system.now (Asked c.args.system.now c.args.page.now) c.from_residual.result c.args.sums.now c.from_residual.ensures.1 c.requires.may

pub returns-in_err-labels-clause-went : goal.returns-in_err-labels-clause-went
returns-in_err-labels-clause-went g c =
    let s = c.args.system.now in
    let u = c.args.folded.now.tree in
    let sums = c.last_labels.new.sums in
    let result = c.from_residual-in_err-labels.result in
    closes_alike g.S.Summaries s (Asked s u) (Asked s c.args.page.now) result c.args.sums.now sums (asked_back s c.args.page.now u c.args.folded.now.numbers.items c.requires.folded)
    (closes_err g.S.Summaries s (Asked s u) c.args.sums.now sums result c.in_err-labels.field-0.0 c.from_residual-in_err-labels.ensures.1 c.in_err-labels.ensures.went)

pub spread-requires-clause-within : goal.spread-requires-clause-within
spread-requires-clause-within g c = λ i less.
    let f = c.args.folded.now in
    let nodes = c.in_ok-labels.labels.nodes in
    subst (λ (z : List ℕ). get_or z i 0 < length nodes) (sym c.deref.ensures.value) (within_nodes c.args.page.now f.tree f.numbers.items nodes c.requires.folded c.in_ok-labels.ensures.nodes i less)

pub returns-in_err-spread-clause-went : goal.returns-in_err-spread-clause-went
returns-in_err-spread-clause-went g c =
    let s = c.args.system.now in
    let u = c.args.folded.now.tree in
    let sums = c.last_labels.new.sums in
    let result = c.from_residual-in_err-spread.result in
    closes_alike g.S.Summaries s (Asked s u) (Asked s c.args.page.now) result c.args.sums.now sums (asked_back s c.args.page.now u c.args.folded.now.numbers.items c.requires.folded)
    (closes_refused g.S.Summaries s (Asked s u) c.args.sums.now sums c.in_ok-labels.labels result c.from_residual-in_err-spread.ensures.1 c.in_ok-labels.ensures.went)

pub returns-clause-closed : goal.returns-clause-closed
returns-clause-closed g c =
    let s = c.args.system.now in
    let t = c.args.page.now in
    let f = c.args.folded.now in
    let l = c.in_ok-labels.labels in
    let l' = c.in_ok-spread.spread in
    spread_closed s t f.tree f.numbers.items c.requires.folded l l' c.in_ok-labels.ensures.closed c.in_ok-labels.ensures.of_nodes c.in_ok-labels.ensures.nodes
    (subst (λ (z : List ℕ). IsSpread t z l l') c.deref.ensures.value c.in_ok-spread.ensures.spread)

pub returns-clause-of_nodes : goal.returns-clause-of_nodes
returns-clause-of_nodes g c =
    let s = c.args.system.now in
    let t = c.args.page.now in
    let f = c.args.folded.now in
    let l = c.in_ok-labels.labels in
    let l' = c.in_ok-spread.spread in
    spread_nodes s t f.tree f.numbers.items c.requires.folded l l' c.in_ok-labels.ensures.closed c.in_ok-labels.ensures.of_nodes c.in_ok-labels.ensures.nodes
    (subst (λ (z : List ℕ). IsSpread t z l l') c.deref.ensures.value c.in_ok-spread.ensures.spread)

pub returns-clause-went : goal.returns-clause-went
returns-clause-went g c =
    let s = c.args.system.now in
    let u = c.args.folded.now.tree in
    let sums = c.last_labels.new.sums in
    closes_alike g.S.Summaries s (Asked s u) (Asked s c.args.page.now) _ c.args.sums.now sums (asked_back s c.args.page.now u c.args.folded.now.numbers.items c.requires.folded)
    (closes_on g.S.Summaries s (Asked s u) c.args.sums.now sums c.in_ok-labels.labels c.in_ok-spread.spread c.in_ok-labels.ensures.went)

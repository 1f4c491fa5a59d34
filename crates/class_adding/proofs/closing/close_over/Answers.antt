use Rattle.simple_core.specs.Pairs.{Asked}
use Rattle.closed_page.specs.Views.{firsts_of}
use Rattle.class_adding.proofs.ClosingLemmas.{closes_on, closes_err, closes_refused}
use Rattle.class_adding.proofs.FirstsLemmas.{closed_same, no_others}
use Rattle.class_adding.proofs.closing.close_over.Goals as goal

pub returns-in_err-labels-clause-went : goal.returns-in_err-labels-clause-went
returns-in_err-labels-clause-went g c =
    let s = c.args.system.now in
    closes_err g.S.Summaries s (Asked s c.args.page.now) c.args.sums.now c.page_labels.new.sums c.from_residual.result c.in_err-labels.field-0.0 c.from_residual.ensures.1 c.in_err-labels.ensures.went

pub new-requires-clause-others : goal.new-requires-clause-others
new-requires-clause-others g c =
    let l = c.in_ok-labels.labels in
    no_others c.args.system.now c.args.page.now (record { labels = l.labels; firsts = firsts_of l.firsts }) c.in_ok-labels.ensures.closed

pub returns-in_err-closed-clause-went : goal.returns-in_err-closed-clause-went
returns-in_err-closed-clause-went g c =
    let s = c.args.system.now in
    closes_refused g.S.Summaries s (Asked s c.args.page.now) c.args.sums.now c.page_labels.new.sums c.in_ok-labels.labels c.from_residual-in_err-closed.result c.from_residual-in_err-closed.ensures.1 c.in_ok-labels.ensures.went

pub returns-clause-closed : goal.returns-clause-closed
returns-clause-closed g c =
    let l = c.in_ok-labels.labels in
    closed_same c.args.system.now c.args.page.now l.labels l.firsts c.in_ok-closed.closed c.in_ok-labels.ensures.closed c.in_ok-closed.ensures.labels c.in_ok-closed.ensures.rounds

pub returns-clause-went : goal.returns-clause-went
returns-clause-went g c =
    let s = c.args.system.now in
    closes_on g.S.Summaries s (Asked s c.args.page.now) c.args.sums.now c.page_labels.new.sums c.in_ok-labels.labels c.in_ok-closed.closed c.in_ok-labels.ensures.went

use Rattle.std.proofs.Common.{Err, refl, ap}
use Rattle.std.proofs.lemmas.Result.{err_from_is_err_and}
use Rattle.usage_report.specs.Summary.{summary}
use Rattle.treeped_app.specs.Views.{said_of, texts_of}
use Rattle.treeped_app.proofs.SaidMeanings.{ring_written}
use Rattle.treeped_app.proofs.WritingLemmas.{cut_short}
use Rattle.treeped_app.proofs.pages.count.Goals as goal

pub returns-clause-means : goal.returns-clause-means
returns-clause-means g c =
    let x = texts_of c.args.texts.now in
    ring_written c.args.n c.args.request.now.mode c.args.request.now.limits.now _ _ (said_of x c.in_ok-said.said) c.in_ok-said.ensures.said (rw c.deref.ensures.value at c.in_ok-write_summary.ensures.ok)

pub returns-in_err-write_summary-clause-written : goal.returns-in_err-write_summary-clause-written
returns-in_err-write_summary-clause-written g c =
    let exit = err_from_is_err_and c.from_residual-in_err-write_summary.result c.from_residual-in_err-write_summary.ensures.1 in
    rw (exit.1, exit.2)
    (cut_short c.args.request.now.mode c.args.request.now.limits.now (texts_of c.args.texts.now) (λ s. summary c.args.n s.items) _ _ _ _ (said_of (texts_of c.args.texts.now) c.in_ok-said.said) c.in_err-write_summary.field-0.0 refl c.in_ok-said.ensures.said
    (rw c.deref.ensures.value at c.in_err-write_summary.ensures.err) (λ is. c.in_err-write_summary.ensures.write (ap (λ e. Err e) is)))

use Rattle.std.proofs.Common.{Err, refl, ap}
use Rattle.std.proofs.lemmas.Result.{err_from_is_err_and}
use Rattle.treeped_app.specs.Modes.{text_on}
use Rattle.treeped_app.specs.Views.{said_of, texts_of}
use Rattle.treeped_app.proofs.SaidMeanings.{page_written}
use Rattle.treeped_app.proofs.WritingLemmas.{cut_short}
use Rattle.treeped_app.proofs.pages.answer.Goals as goal

pub returns-clause-means : goal.returns-clause-means
returns-clause-means g c =
    let x = texts_of c.args.texts.now in
    page_written c.args.request.now.mode c.args.request.now.limits.now _ _ (said_of x c.in_ok-said.said) c.in_ok-said.ensures.said c.in_ok-write_one.ensures.means

pub returns-in_err-write_one-clause-written : goal.returns-in_err-write_one-clause-written
returns-in_err-write_one-clause-written g c =
    let exit = err_from_is_err_and c.from_residual-in_err-write_one.result c.from_residual-in_err-write_one.ensures.1 in
    rw (exit.1, exit.2)
    (cut_short c.args.request.now.mode c.args.request.now.limits.now (texts_of c.args.texts.now) (text_on c.args.request.now.mode) _ _ _ _ (said_of (texts_of c.args.texts.now) c.in_ok-said.said) c.in_err-write_one.field-0.0 refl c.in_ok-said.ensures.said
    (c.in_err-write_one.ensures.err) (λ is. c.in_err-write_one.ensures.write (ap (λ e. Err e) is)))

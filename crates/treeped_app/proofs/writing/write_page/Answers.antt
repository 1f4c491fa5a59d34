use Rattle.std.proofs.Common.{map, ap, ◌∙◌}
use Rattle.jq_stmts.specs.Views.{statements_of}
use Rattle.treeped_app.specs.Meaning.{MeansReport}
use Rattle.treeped_app.specs.Modes.{report_on}
use Rattle.treeped_app.specs.Views.{said_of, texts_of}
use Rattle.treeped_app.proofs.SaidMeanings.{report_means, written_means}
use Rattle.treeped_app.proofs.writing.write_page.Goals as goal

pub returns-clause-means : goal.returns-clause-means
returns-clause-means g c =
    let s = said_of (texts_of c.args.texts.now) c.args.said.now in
    written_means c.write_report.result _ _ (report_on s) (MeansReport s.texts s.inputs) (report_means s c.requires.lines)
    (rw (c.deref-2.ensures.value ∙ c.in_ok-places.ensures ∙ ap (λ ss. map (λ s. s.place) (statements_of ss)) c.deref.ensures.value, c.deref-3.ensures.value) at c.write_report.ensures.ok)

pub write_report-requires-clause-reportable : goal.write_report-requires-clause-reportable
write_report-requires-clause-reportable g c =
    rw (c.deref-2.ensures.value ∙ c.in_ok-places.ensures ∙ ap (λ ss. map (λ s. s.place) (statements_of ss)) c.deref.ensures.value, c.deref-3.ensures.value) c.requires.reportable

pub returns-clause-ok : goal.returns-clause-ok
returns-clause-ok g c =
    rw (c.deref-2.ensures.value ∙ c.in_ok-places.ensures ∙ ap (λ ss. map (λ s. s.place) (statements_of ss)) c.deref.ensures.value, c.deref-3.ensures.value) at c.write_report.ensures.ok

pub returns-clause-err : goal.returns-clause-err
returns-clause-err g c =
    rw (c.deref-2.ensures.value ∙ c.in_ok-places.ensures ∙ ap (λ ss. map (λ s. s.place) (statements_of ss)) c.deref.ensures.value, c.deref-3.ensures.value) at c.write_report.ensures.err

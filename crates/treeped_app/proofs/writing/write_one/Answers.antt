use Rattle.std.proofs.Common.{map, length, subst, ap, refl, ◌∙◌}
use Rattle.std.proofs.lemmas.List.{length-map}
use Rattle.css_read.specs.Views.{item_of}
use Rattle.jq_stmts.specs.Views.{statements_of}
use Rattle.usage_report.specs.Views.{answer_of}
use Rattle.command_words.specs.declared.words.Mode.{Mode}
use Rattle.dead_script.specs.Verdicts.{dead_text}
use Rattle.tp_io.proofs.SinkLemmas.{on_err, none_out}
use Rattle.usage_report.proofs.ReportLemmas.{front_of_front, err_after}
use Rattle.treeped_app.specs.Inputs.{IsWritable}
use Rattle.treeped_app.specs.Meaning.{MeansPage}
use Rattle.treeped_app.specs.Modes as modes
use Rattle.treeped_app.specs.Modes.{is_unused, report_on, text_on}
use Rattle.treeped_app.specs.Views.{said_of, texts_of}
use Rattle.treeped_app.proofs.PruneLemmas.{items_judged, items_many, flags_seen}
use Rattle.treeped_app.proofs.SaidMeanings.{writable_means, written_means}
use Rattle.treeped_app.proofs.SayingLemmas.{reportable_of, probed_by, traceable_of, sheet_of_said}
use Rattle.treeped_app.proofs.WritingLemmas.{ok_after, report_alone}
use Rattle.treeped_app.proofs.writing.write_one.Goals as goal

-- ---- what is written means what it says

pub returns-in_ok-unused-in-Prune-clause-means : goal.returns-in_ok-unused-in-Prune-clause-means
returns-in_ok-unused-in-Prune-clause-means g c =
    let s = said_of (texts_of c.args.texts.now) c.args.said.now in
    written_means c.write_pruned.result _ _ (text_on c.args.mode s) (MeansPage c.args.mode s.texts s.inputs) (writable_means c.args.mode s c.requires.writable).text
    (rw c.in-Prune.is
    (rw (c.deref-in-Prune.ensures.value ∙ c.in_ok-unused-in-Prune.ensures ∙ ap (map (λ a. is_unused (answer_of a))) c.deref.ensures.value ∙ flags_seen c.args.said.now.items.items) at c.write_pruned.ensures.ok))

pub returns-in_ok-write_page-in-Dead-clause-means : goal.returns-in_ok-write_page-in-Dead-clause-means
returns-in_ok-write_page-in-Dead-clause-means g c =
    let s = said_of (texts_of c.args.texts.now) c.args.said.now in
    written_means c.write_asked.result _ _ (text_on c.args.mode s) (MeansPage c.args.mode s.texts s.inputs) (writable_means c.args.mode s c.requires.writable).text
    (rw c.in-Dead.is
    (ok_after c.write_asked.result _ _ _ _ _ c.in_ok-write_page-in-Dead.ensures.ok (rw (c.deref-in-Dead.ensures.value, c.deref-in-Dead-2.ensures.value, c.deref-in-Dead-3.ensures.value) at c.write_asked.ensures.ok)))

pub returns-in_ok-places-in-Runs-clause-means : goal.returns-in_ok-places-in-Runs-clause-means
returns-in_ok-places-in-Runs-clause-means g c =
    let s = said_of (texts_of c.args.texts.now) c.args.said.now in
    written_means c.write_traces.result _ _ (text_on c.args.mode s) (MeansPage c.args.mode s.texts s.inputs) (writable_means c.args.mode s c.requires.writable).text
    (rw c.in-Runs.is
    (rw (c.deref-in-Runs-2.ensures.value ∙ c.in_ok-places-in-Runs.ensures ∙ ap (λ ss. map (λ s. s.place) (statements_of ss)) c.deref-in-Runs.ensures.value, c.deref-in-Runs-3.ensures.value, c.deref-in-Runs-4.ensures.value) at c.write_traces.ensures.ok))

pub returns-in_default-clause-means : goal.returns-in_default-clause-means
returns-in_default-clause-means g c =
    let s = said_of (texts_of c.args.texts.now) c.args.said.now in
    written_means c.write_page-in_default.result _ _ (text_on c.args.mode s) (MeansPage c.args.mode s.texts s.inputs) (writable_means c.args.mode s c.requires.writable).text
    (rw (report_alone c.args.mode s c.in_default.not-Prune c.in_default.not-Dead c.in_default.not-Runs) c.write_page-in_default.ensures.ok)

pub write_page-requires-clause-lines : goal.write_page-requires-clause-lines
write_page-requires-clause-lines g c = (writable_means c.args.mode (said_of (texts_of c.args.texts.now) c.args.said.now) c.requires.writable).lines

pub write_page-requires-in_default-clause-lines : goal.write_page-requires-in_default-clause-lines
write_page-requires-in_default-clause-lines g c = (writable_means c.args.mode (said_of (texts_of c.args.texts.now) c.args.said.now) c.requires.writable).lines

-- ---- the sheet that is left

pub returns-in_err-unused-in-Prune-clause-err : goal.returns-in_err-unused-in-Prune-clause-err
returns-in_err-unused-in-Prune-clause-err g c = on_err _ _ (none_out _ _ (text_on c.args.mode (said_of (texts_of c.args.texts.now) c.args.said.now)) refl)

pub write_pruned-requires-clause-read : goal.write_pruned-requires-clause-read
write_pruned-requires-clause-read g c = sheet_of_said c.args.mode (said_of (texts_of c.args.texts.now) c.args.said.now) c.requires.writable

pub write_pruned-requires-clause-count : goal.write_pruned-requires-clause-count
write_pruned-requires-clause-count g c =
    let s = said_of (texts_of c.args.texts.now) c.args.said.now in
    let answers = c.args.said.now.items.items in
    ap length (c.deref-in-Prune.ensures.value ∙ c.in_ok-unused-in-Prune.ensures ∙ ap (map (λ a. is_unused (answer_of a))) c.deref.ensures.value ∙ flags_seen answers)
    ∙ length-map (map answer_of answers) is_unused
    ∙ items_many (modes.places_of s.inputs) s.inputs.sheet.items s.items (reportable_of c.args.mode s c.requires.writable)
    ∙ length-map c.args.said.now.inputs.sheet.items item_of

pub write_pruned-requires-clause-judged : goal.write_pruned-requires-clause-judged
write_pruned-requires-clause-judged g c =
    let s = said_of (texts_of c.args.texts.now) c.args.said.now in
    rw (c.deref-in-Prune.ensures.value ∙ c.in_ok-unused-in-Prune.ensures ∙ ap (map (λ a. is_unused (answer_of a))) c.deref.ensures.value ∙ flags_seen c.args.said.now.items.items)
    (items_judged (modes.places_of s.inputs) s.inputs.sheet.items s.items (reportable_of c.args.mode s c.requires.writable))

pub returns-in_ok-unused-in-Prune-clause-ok : goal.returns-in_ok-unused-in-Prune-clause-ok
returns-in_ok-unused-in-Prune-clause-ok g c =
    rw c.in-Prune.is
    (rw (c.deref-in-Prune.ensures.value ∙ c.in_ok-unused-in-Prune.ensures ∙ ap (map (λ a. is_unused (answer_of a))) c.deref.ensures.value ∙ flags_seen c.args.said.now.items.items) at c.write_pruned.ensures.ok)

pub returns-in_ok-unused-in-Prune-clause-err : goal.returns-in_ok-unused-in-Prune-clause-err
returns-in_ok-unused-in-Prune-clause-err g c =
    rw c.in-Prune.is
    (rw (c.deref-in-Prune.ensures.value ∙ c.in_ok-unused-in-Prune.ensures ∙ ap (map (λ a. is_unused (answer_of a))) c.deref.ensures.value ∙ flags_seen c.args.said.now.items.items) at c.write_pruned.ensures.err)

-- ---- the report, and then the statements

pub write_page-requires-clause-reportable : goal.write_page-requires-clause-reportable
write_page-requires-clause-reportable g c = reportable_of c.args.mode (said_of (texts_of c.args.texts.now) c.args.said.now) c.requires.writable

pub returns-in_err-write_page-in-Dead-clause-err : goal.returns-in_err-write_page-in-Dead-clause-err
returns-in_err-write_page-in-Dead-clause-err g c =
    let s = said_of (texts_of c.args.texts.now) c.args.said.now in
    rw c.in-Dead.is (on_err _ _ (front_of_front _ _ (report_on s) (dead_text s.inputs.stmts s.others) c.in_err-write_page-in-Dead.ensures.err))

pub write_asked-requires-clause-one_each : goal.write_asked-requires-clause-one_each
write_asked-requires-clause-one_each g c =
    let x = texts_of c.args.texts.now in
    let u = c.args.said.now in
    let all = probed_by x u (subst (λ (m : Mode). IsWritable m (said_of x u)) c.in-Dead.is c.requires.writable) c.requires.in_order in
    rw (c.deref-in-Dead.ensures.value, c.deref-in-Dead-2.ensures.value) all.one_each

pub write_asked-requires-clause-known : goal.write_asked-requires-clause-known
write_asked-requires-clause-known g c =
    let x = texts_of c.args.texts.now in
    let u = c.args.said.now in
    let all = probed_by x u (subst (λ (m : Mode). IsWritable m (said_of x u)) c.in-Dead.is c.requires.writable) c.requires.in_order in
    rw (c.deref-in-Dead-2.ensures.value, c.deref-in-Dead-3.ensures.value) all.known

pub write_asked-requires-clause-probed : goal.write_asked-requires-clause-probed
write_asked-requires-clause-probed g c =
    let x = texts_of c.args.texts.now in
    let u = c.args.said.now in
    let all = probed_by x u (subst (λ (m : Mode). IsWritable m (said_of x u)) c.in-Dead.is c.requires.writable) c.requires.in_order in
    rw (c.deref-in-Dead.ensures.value, c.deref-in-Dead-3.ensures.value) all.probed

pub returns-in_ok-write_page-in-Dead-clause-ok : goal.returns-in_ok-write_page-in-Dead-clause-ok
returns-in_ok-write_page-in-Dead-clause-ok g c =
    rw c.in-Dead.is
    (ok_after c.write_asked.result _ _ _ _ _ c.in_ok-write_page-in-Dead.ensures.ok (rw (c.deref-in-Dead.ensures.value, c.deref-in-Dead-2.ensures.value, c.deref-in-Dead-3.ensures.value) at c.write_asked.ensures.ok))

pub returns-in_ok-write_page-in-Dead-clause-err : goal.returns-in_ok-write_page-in-Dead-clause-err
returns-in_ok-write_page-in-Dead-clause-err g c =
    rw c.in-Dead.is
    (err_after c.write_asked.result _ _ _ _ _ c.in_ok-write_page-in-Dead.ensures.ok (rw (c.deref-in-Dead.ensures.value, c.deref-in-Dead-2.ensures.value, c.deref-in-Dead-3.ensures.value) at c.write_asked.ensures.err))

-- ---- the report with whole runs

pub returns-in_err-places-in-Runs-clause-err : goal.returns-in_err-places-in-Runs-clause-err
returns-in_err-places-in-Runs-clause-err g c = on_err _ _ (none_out _ _ (text_on c.args.mode (said_of (texts_of c.args.texts.now) c.args.said.now)) refl)

pub write_traces-requires-clause-reportable : goal.write_traces-requires-clause-reportable
write_traces-requires-clause-reportable g c =
    rw (c.deref-in-Runs-2.ensures.value ∙ c.in_ok-places-in-Runs.ensures ∙ ap (λ ss. map (λ s. s.place) (statements_of ss)) c.deref-in-Runs.ensures.value, c.deref-in-Runs-3.ensures.value)
    (reportable_of c.args.mode (said_of (texts_of c.args.texts.now) c.args.said.now) c.requires.writable)

pub write_traces-requires-clause-traceable : goal.write_traces-requires-clause-traceable
write_traces-requires-clause-traceable g c =
    let s = said_of (texts_of c.args.texts.now) c.args.said.now in
    rw (c.deref-in-Runs-2.ensures.value ∙ c.in_ok-places-in-Runs.ensures ∙ ap (λ ss. map (λ s. s.place) (statements_of ss)) c.deref-in-Runs.ensures.value, c.deref-in-Runs-4.ensures.value)
    (traceable_of s (subst (λ (m : Mode). IsWritable m s) c.in-Runs.is c.requires.writable))

pub returns-in_ok-places-in-Runs-clause-ok : goal.returns-in_ok-places-in-Runs-clause-ok
returns-in_ok-places-in-Runs-clause-ok g c =
    rw c.in-Runs.is
    (rw (c.deref-in-Runs-2.ensures.value ∙ c.in_ok-places-in-Runs.ensures ∙ ap (λ ss. map (λ s. s.place) (statements_of ss)) c.deref-in-Runs.ensures.value, c.deref-in-Runs-3.ensures.value, c.deref-in-Runs-4.ensures.value) at c.write_traces.ensures.ok)

pub returns-in_ok-places-in-Runs-clause-err : goal.returns-in_ok-places-in-Runs-clause-err
returns-in_ok-places-in-Runs-clause-err g c =
    rw c.in-Runs.is
    (rw (c.deref-in-Runs-2.ensures.value ∙ c.in_ok-places-in-Runs.ensures ∙ ap (λ ss. map (λ s. s.place) (statements_of ss)) c.deref-in-Runs.ensures.value, c.deref-in-Runs-3.ensures.value, c.deref-in-Runs-4.ensures.value) at c.write_traces.ensures.err)

-- ---- the report alone

pub write_page-requires-in_default-clause-reportable : goal.write_page-requires-in_default-clause-reportable
write_page-requires-in_default-clause-reportable g c = reportable_of c.args.mode (said_of (texts_of c.args.texts.now) c.args.said.now) c.requires.writable

pub returns-in_default-clause-err : goal.returns-in_default-clause-err
returns-in_default-clause-err g c =
    rw (report_alone c.args.mode (said_of (texts_of c.args.texts.now) c.args.said.now) c.in_default.not-Prune c.in_default.not-Dead c.in_default.not-Runs) c.write_page-in_default.ensures.err

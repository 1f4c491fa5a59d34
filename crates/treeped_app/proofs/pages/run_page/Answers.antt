use Rattle.std.proofs.lemmas.Result.{err_from_is_err_and}
use Rattle.std.proofs.Common.{refl}
use Rattle.treeped_app.specs.Views.{names_of}
use Rattle.treeped_app.proofs.MeansLemmas.{page_from}
use Rattle.treeped_app.proofs.RunLemmas.{page_ends, page_stops}
use Rattle.treeped_app.proofs.pages.run_page.Goals as goal

pub returns-clause-means : goal.returns-clause-means
returns-clause-means g c =
    let loaded = c.in_ok-loaded.loaded in
    page_from c.answer.result _ (names_of c.args.names.now) c.args.request.now.mode (record { page = loaded.0.items; sheet = loaded.1.items; script = loaded.2.items }) _ _ _ _ c.in_ok-loaded.ensures.loaded
    (rw (c.deref.ensures.value, c.deref-2.ensures.value, c.deref-3.ensures.value) at c.answer.ensures.means)

pub returns-in_err-loaded-clause-ends : goal.returns-in_err-loaded-clause-ends
returns-in_err-loaded-clause-ends g c = λ words task.
    let exit = err_from_is_err_and c.from_residual.result c.from_residual.ensures.1 in
    rw (exit.1, exit.2) (page_stops _ words _ _ _ (names_of c.args.names.now) c.args.request.now.mode c.args.request.now.limits.now _ refl task c.in_err-loaded.ensures.loaded)

pub returns-clause-ends : goal.returns-clause-ends
returns-clause-ends g c = λ words task.
    let loaded = c.in_ok-loaded.loaded in
    page_ends _ words _ _ _ (names_of c.args.names.now) c.args.request.now.mode c.args.request.now.limits.now (record { page = loaded.0.items; sheet = loaded.1.items; script = loaded.2.items }) c.answer.result c.requires.one task c.in_ok-loaded.ensures.loaded
    (rw (c.deref.ensures.value, c.deref-2.ensures.value, c.deref-3.ensures.value) at c.answer.ensures.written)

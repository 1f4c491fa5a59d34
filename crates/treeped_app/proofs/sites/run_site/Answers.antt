use Rattle.std.proofs.Common.{◌≡◌, Err, refl, sym, subst}
use Rattle.std.proofs.lemmas.Result.{err_from_is_err_and}
use Rattle.treeped_app.specs.Modes.{Texts}
use Rattle.treeped_app.specs.Sites.{IsBegun}
use Rattle.treeped_app.proofs.MeansLemmas.{site_from}
use Rattle.treeped_app.proofs.SiteLemmas.{site_not_loaded, site_not_begun, site_stops, site_ends, kept_read}
use Rattle.treeped_app.proofs.sites.run_site.Goals as goal

pub returns-clause-means : goal.returns-clause-means
returns-clause-means g c = λ words task.
    let loaded = c.in_ok-loaded.loaded in
    site_from _ _ _ _ c.args.request.now.limits.now c.args.request.now.mode c.finished.result c.requires.on_pages task
    (site_ends _ words _ c.args.request.now.mode c.requires.on_pages c.args.request.now.limits.now _ _ _ _ task (record { page = loaded.1.items; sheet = loaded.0.items; script = loaded.2.items }) _ _ _ _ c.in_ok-loaded.ensures.loaded
    (rw (c.deref.ensures.value, c.deref-2.ensures.value, c.deref-3.ensures.value) at c.in_ok-seen.ensures.begun) _ (rw (c.deref-4.ensures.value, c.in_ok-loaded.ensures.same_files) at c.in_ok-more_pages.ensures.more) _ c.finished.result
    (rw c.deref-5.ensures.value at c.finished.ensures))

pub returns-in_err-loaded-clause-ends : goal.returns-in_err-loaded-clause-ends
returns-in_err-loaded-clause-ends g c = λ words task.
    let exit = err_from_is_err_and c.from_residual.result c.from_residual.ensures.1 in
    rw (exit.1, exit.2) (site_not_loaded _ words _ c.args.request.now.mode c.requires.on_pages c.args.request.now.limits.now _ _ _ _ task _ _ _ refl c.in_err-loaded.ensures.loaded)

pub returns-in_err-seen-clause-ends : goal.returns-in_err-seen-clause-ends
returns-in_err-seen-clause-ends g c = λ words task.
    let loaded = c.in_ok-loaded.loaded in
    let x : Texts = record { page = loaded.1.items; sheet = loaded.0.items; script = loaded.2.items } in
    let seen : Texts = record { page = c.deref.result.now; sheet = c.deref-2.result.now; script = c.deref-3.result.now } in
    let same : seen ≡ x = rw (c.deref.ensures.value, c.deref-2.ensures.value, c.deref-3.ensures.value) refl in
    let exit = err_from_is_err_and c.from_residual-in_err-seen.result c.from_residual-in_err-seen.ensures.1 in
    rw (exit.1, exit.2)
    (site_not_begun _ words _ c.args.request.now.mode c.requires.on_pages c.args.request.now.limits.now _ _ _ _ task x _ _ _ refl c.in_ok-loaded.ensures.loaded
    (subst (λ (z : Texts). IsBegun c.args.request.now.mode c.args.request.now.limits.now z (Err c.in_err-seen.field-0.0)) same c.in_err-seen.ensures.begun))

pub more_pages-requires-clause-kept : goal.more_pages-requires-clause-kept
more_pages-requires-clause-kept g c = rw (c.deref-4.ensures.value, sym c.deref-2.ensures.value) c.in_ok-seen.ensures.kept

pub returns-in_err-more_pages-clause-ends : goal.returns-in_err-more_pages-clause-ends
returns-in_err-more_pages-clause-ends g c = λ words task.
    let loaded = c.in_ok-loaded.loaded in
    let exit = err_from_is_err_and c.from_residual-in_err-more_pages.result c.from_residual-in_err-more_pages.ensures.1 in
    rw (exit.1, exit.2)
    (site_stops _ words _ c.args.request.now.mode c.requires.on_pages c.args.request.now.limits.now _ _ _ _ task _ (record { page = loaded.1.items; sheet = loaded.0.items; script = loaded.2.items }) _ _ _ _ _ _ refl c.in_ok-loaded.ensures.loaded
    (rw (c.deref.ensures.value, c.deref-2.ensures.value, c.deref-3.ensures.value) at c.in_ok-seen.ensures.begun) (rw (c.deref-4.ensures.value, c.in_ok-loaded.ensures.same_files) at c.in_err-more_pages.ensures.more))

pub finished-requires-clause-read : goal.finished-requires-clause-read
finished-requires-clause-read g c = rw (c.deref-5.ensures.value, sym c.deref-4.ensures.value) (kept_read _ _ c.in_ok-more_pages.ensures.kept)

pub returns-clause-ends : goal.returns-clause-ends
returns-clause-ends g c = λ words task.
    let loaded = c.in_ok-loaded.loaded in
    site_ends _ words _ c.args.request.now.mode c.requires.on_pages c.args.request.now.limits.now _ _ _ _ task (record { page = loaded.1.items; sheet = loaded.0.items; script = loaded.2.items }) _ _ _ _ c.in_ok-loaded.ensures.loaded
    (rw (c.deref.ensures.value, c.deref-2.ensures.value, c.deref-3.ensures.value) at c.in_ok-seen.ensures.begun) _ (rw (c.deref-4.ensures.value, c.in_ok-loaded.ensures.same_files) at c.in_ok-more_pages.ensures.more) _ c.finished.result
    (rw c.deref-5.ensures.value at c.finished.ensures)

use Rattle.std.proofs.Common.{[], ◌∷◌}
use Rattle.std.proofs.lemmas.Result.{err_from_is_err_and}
use Rattle.treeped_app.specs.Views.{wanted_of}
use Rattle.treeped_app.proofs.LoadingLemmas.{first_stops, later_stops}
use Rattle.treeped_app.proofs.loading.load_three.Goals as goal

pub returns-in_err-one-clause-loaded : goal.returns-in_err-one-clause-loaded
returns-in_err-one-clause-loaded g c =
    let exit = err_from_is_err_and c.from_residual.result c.from_residual.ensures.1 in
    rw (exit.1, exit.2) (first_stops (g.F.Files.told c.args.files.now) (wanted_of c.args.first.now) (wanted_of c.args.second.now ∷ wanted_of c.args.third.now ∷ []) _ _ _ c.in_err-one.ensures.loaded)

pub returns-in_err-two-clause-loaded : goal.returns-in_err-two-clause-loaded
returns-in_err-two-clause-loaded g c =
    let exit = err_from_is_err_and c.from_residual-in_err-two.result c.from_residual-in_err-two.ensures.1 in
    rw (exit.1, exit.2)
    (later_stops (g.F.Files.told c.args.files.now) _ (wanted_of c.args.first.now) (wanted_of c.args.second.now ∷ wanted_of c.args.third.now ∷ []) _ _ _ _ c.in_ok-one.ensures.same_files c.in_ok-one.ensures.loaded _ c.in_err-two.ensures.loaded)

use Rattle.sel_core.proofs.FitLemmas.{fits_is}
use Rattle.sel_core.proofs.matching.fits.Goals as goal

pub returns-in-Some : goal.returns-in-Some
returns-in-Some c = fits_is c.args.tree.now c.args.at.now c.in-Some.label.now c.items.result.now _ c.has_all.result c.in-Some.ensures c.items.ensures c.has_all.ensures

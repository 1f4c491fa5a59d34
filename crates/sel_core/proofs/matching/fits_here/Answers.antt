use Rattle.sel_core.proofs.FitLemmas.{fits_is}
use Rattle.sel_core.proofs.matching.fits_here.Goals as goal

pub returns : goal.returns
returns c = fits_is c.args.node.now.tree c.args.node.now.path c.label.result.now c.items.result.now _ c.has_all.result c.label.ensures c.items.ensures c.has_all.ensures

use Rattle.std.proofs.Common.{refl, ap}
use Rattle.treeped_app.specs.Views.{inputs_of}
use Rattle.treeped_app.proofs.SiteLemmas.{first_can}
use Rattle.treeped_app.proofs.sites.begun.Goals as goal

pub returns-clause-kept : goal.returns-clause-kept
returns-clause-kept c = first_can _ _ _ _ _ refl c.in_ok-said.ensures.said (record { site = c.in_ok-seen.ensures.first.0; places = c.in_ok-seen.ensures.first.1; last = ap inputs_of c.in_ok-seen.ensures.last })

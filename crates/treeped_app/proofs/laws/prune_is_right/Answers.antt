use Rattle.treeped_app.proofs.PreservationLemmas.{on_page, on_site}
use Rattle.treeped_app.proofs.laws.prune_is_right.Goals as goal

pub returns-clause-page : goal.returns-clause-page
returns-clause-page c = λ r t s whole. on_page r t s whole

pub returns-clause-site : goal.returns-clause-site
returns-clause-site c = λ r t said whole s there. on_site r t said whole s there

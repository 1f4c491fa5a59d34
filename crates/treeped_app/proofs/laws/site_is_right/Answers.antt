use Rattle.treeped_app.proofs.EachPageLemmas.{of_each_page}
use Rattle.treeped_app.proofs.laws.site_is_right.Goals as goal

pub returns : goal.returns
returns c = λ r t said whole k b at. of_each_page r t said whole k b at

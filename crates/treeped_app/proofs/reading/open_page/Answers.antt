use Rattle.html_subset.proofs.CountLemmas.{read_page_few}
use Rattle.treeped_app.proofs.reading.open_page.Goals as goal

pub returns-in-Ok-clause-few : goal.returns-in-Ok-clause-few
returns-in-Ok-clause-few c = read_page_few c.args.text.now c.args.atoms.now c.read_page.new.atoms c.in-Ok.tree c.in-Ok.ensures.reads

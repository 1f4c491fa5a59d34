use Rattle.treeped_app.proofs.TaskLemmas.{site_few}
use Rattle.treeped_app.proofs.tasks.site_of.Goals as goal

pub returns-clause-few : goal.returns-clause-few
returns-clause-few c = site_few c.args.names.now c.requires.long c.requires.short

use Rattle.std.proofs.Common.{Ok, Err, refl}
use Rattle.treeped_app.proofs.CauseLemmas.{causes_of, no_reason}
use Rattle.treeped_app.proofs.MeansLemmas.{none_reported}
use Rattle.treeped_app.proofs.runs.treeped.Goals as goal

pub returns-in-Ok-clause-means : goal.returns-in-Ok-clause-means
returns-in-Ok-clause-means g c = λ reports. let writes = c.in-Ok.ensures.means in (writes.0, writes.1, writes.2.0, writes.2.1, writes.2.2)

pub returns-in-Err-clause-means : goal.returns-in-Err-clause-means
returns-in-Err-clause-means g c = λ reports. absurd (none_reported _ _ c.in-Err.stop c.tell.ensures.tells reports)

pub returns-in-Ok-clause-causes : goal.returns-in-Ok-clause-causes
returns-in-Ok-clause-causes g c = causes_of _ _ _ (Ok c.in-Ok.status, c.in-Ok.ensures.ends, (refl, refl))

pub returns-in-Err-clause-causes : goal.returns-in-Err-clause-causes
returns-in-Err-clause-causes g c = causes_of _ _ _ (Err c.in-Err.stop, c.in-Err.ensures.ends, c.tell.ensures.tells)

pub returns-in-Ok-clause-says_why : goal.returns-in-Ok-clause-says_why
returns-in-Ok-clause-says_why g c = no_reason _ _ _ _ c.in-Ok.ensures.ends

use Rattle.std.proofs.Common.{length}
use Rattle.treeped_app.proofs.sites.+more_pages.Given as goal

abbrev pub decreases-more_pages : goal.decreases-more_pages
decreases-more_pages g l = length l.later.now

use Rattle.css_read.proofs.FoundLemmas.{closed_is}
use Rattle.css_read.proofs.finding.Found.close.Goals as goal

pub returns-clause-found : goal.returns-clause-found
returns-clause-found c =
    closed_is c.args.to c.args.self.now.holders.items c.args.self.now.owners.items c.args.self.now.opened.items c.pop.new.self.items c.in-Some.number c.index-holder.result.now c.in-Some.ensures.items c.requires c.index-holder.ensures

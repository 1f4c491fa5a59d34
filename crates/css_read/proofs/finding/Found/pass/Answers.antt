use Rattle.std.proofs.Common.{sym, ◌∙◌}
use Rattle.css_read.proofs.FoundLemmas.{passed_is}
use Rattle.css_read.proofs.finding.Found.pass.Goals as goal

pub returns-clause-found : goal.returns-clause-found
returns-clause-found c =
    passed_is c.args.is_gap c.args.self.now.holders.items c.args.self.now.owners.items c.args.self.now.opened.items c.in-Some.number c.index-holder.result.now c.if-is_gap.false (sym c.in-Some.is ∙ c.innermost.ensures) c.requires c.index-holder.ensures

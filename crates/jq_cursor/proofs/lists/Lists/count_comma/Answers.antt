use Rattle.jq_cursor.proofs.NoteSteps.{few_commas}
use Rattle.jq_cursor.proofs.lists.Lists.count_comma.Goals as goal

pub and_comma-list-requires : goal.and_comma-list-requires
and_comma-list-requires c = few_commas c.args.self.now.words c.pop.new.opened.items c.args.opened.now.items c.in-Some.last c.args.words.now.words c.in-Some.ensures.some c.requires.holds

use Rattle.class_adding.proofs.FreshLemmas.{all_new}
use Rattle.class_adding.proofs.looking.news_in.Goals as goal

pub returns-then-are_all_missing : goal.returns-then-are_all_missing
returns-then-are_all_missing c = all_new c.args.own.now c.args.given (c.are_all_missing.ensures.0 c.if-are_all_missing.true)

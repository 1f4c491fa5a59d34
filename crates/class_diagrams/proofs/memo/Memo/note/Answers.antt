use Rattle.class_diagrams.proofs.MemoLemmas.{noted}
use Rattle.class_diagrams.proofs.memo.Memo.note.Goals as goal

pub returns : goal.returns
returns c = rw (← c.self.view_is) (noted c.put.result c.self.inside.results c.put.new.self c.args.task c.args.result_of c.put.ensures.entries c.put.ensures.err)

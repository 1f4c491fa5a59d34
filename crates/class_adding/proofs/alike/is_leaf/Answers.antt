use Rattle.std.proofs.Common.{length}
use Rattle.std.proofs.lemmas.Bool.{eqb-true}
use Rattle.class_adding.proofs.AlikeLemmas.{no_children}
use Rattle.class_adding.proofs.alike.is_leaf.Goals as goal

pub returns : goal.returns
returns c = λ is. no_children c.args.labels.now.labels c.args.labels.now.nodes c.args.number c.kids-kids.result.now c.kids-kids.ensures.kids c.kids-kids.ensures.whole (eqb-true (length c.kids-kids.result.now) 0 is)

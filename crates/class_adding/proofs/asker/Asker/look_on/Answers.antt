use Rattle.simple_core.specs.Pairs.{Asks}
use Rattle.closed_page.specs.Gains.{label_in}
use Rattle.closed_page.specs.Labelled.{node_of}
use Rattle.class_adding.proofs.WentLemmas.{went_start}
use Rattle.class_adding.proofs.AlikeLemmas.{taken_over, again}
use Rattle.class_adding.proofs.asker.Asker.look_on.Goals as goal

pub look_before-requires-clause-alike : goal.look_before-requires-clause-alike
look_before-requires-clause-alike g c = c.requires.may.alike

pub returns-in_err-before-clause-went : goal.returns-in_err-before-clause-went
returns-in_err-before-clause-went g c = went_start g.S.Summaries (Asks c.args.self.now.system.now (label_in c.args.filling.now.labels.labels (node_of c.args.filling.now.labels c.args.number))) c.args.self.now c.requires.may.ready

pub returns-in-Some-clause-look : goal.returns-in-Some-clause-look
returns-in-Some-clause-look g c =
    let labels = c.args.filling.now.labels in
    again c.args.self.now.system.now labels.labels c.args.k (g.S.Summaries.known c.args.self.now.sums.now) c.requires.looks.0 labels.nodes c.args.looks.now c.args.number c.in-Some.look c.requires.looks.1
    (taken_over labels.labels labels.nodes c.args.looks.now c.args.number c.in_ok-before.before c.in-Some.look c.in-Some.is c.in_ok-before.ensures)

pub returns-in-Some-clause-went : goal.returns-in-Some-clause-went
returns-in-Some-clause-went g c = went_start g.S.Summaries (Asks c.args.self.now.system.now (label_in c.args.filling.now.labels.labels (node_of c.args.filling.now.labels c.args.number))) c.args.self.now c.requires.may.ready

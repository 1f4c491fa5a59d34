use Rattle.closed_page.specs.Gains.{gains_at}
use Rattle.class_adding.proofs.RoundLemmas.{look_now, gain_now, keep_kept, keep_added, keep_there, keep_numbers}
use Rattle.class_adding.proofs.asker.Asker.look_once.Goals as goal

pub look_on-requires-clause-looks : goal.look_on-requires-clause-looks
look_on-requires-clause-looks g c = (gains_at c.args.filling.now.labels.nodes c.args.gains.now.items, c.requires.looks)

pub returns-clause-kept : goal.returns-clause-kept
returns-clause-kept g c = keep_kept c.args.filling.now.labels.nodes c.args.gains.now.items c.keep.new.gains.items c.args.number c.in_ok-look.look c.in_ok-keep.ensures.more c.in_ok-keep.ensures.same

pub returns-clause-numbers : goal.returns-clause-numbers
returns-clause-numbers g c = keep_numbers c.args.filling.now.labels.nodes c.args.gains.now.items c.keep.new.gains.items c.args.number c.in_ok-look.look c.in_ok-keep.ensures.more c.in_ok-keep.ensures.same c.requires.may.within

pub returns-clause-look : goal.returns-clause-look
returns-clause-look g c =
    let labels = c.args.filling.now.labels in
    look_now c.args.self.now.system.now labels.labels c.args.k (g.S.Summaries.known c.look_on.new.self.sums.now) (gains_at labels.nodes c.keep.new.gains.items) labels.nodes c.args.number c.in_ok-look.look c.requires.may.within c.in_ok-look.ensures.look
    (keep_there labels.nodes c.args.gains.now.items c.keep.new.gains.items c.args.number c.in_ok-look.look c.in_ok-keep.ensures.more c.in_ok-keep.ensures.same)

pub returns-clause-added : goal.returns-clause-added
returns-clause-added g c =
    let labels = c.args.filling.now.labels in
    gain_now c.args.self.now.system.now labels.labels c.args.k (g.S.Summaries.known c.look_on.new.self.sums.now) (gains_at labels.nodes c.args.gains.now.items) (gains_at labels.nodes c.keep.new.gains.items) labels.nodes c.args.number c.in_ok-look.look c.in_ok-look.ensures.look
    (keep_added labels.nodes c.args.gains.now.items c.keep.new.gains.items c.args.number c.in_ok-look.look c.in_ok-keep.ensures.more c.in_ok-keep.ensures.same)

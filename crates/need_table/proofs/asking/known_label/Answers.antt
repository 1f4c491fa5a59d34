use Rattle.std.proofs.Common.{ℕ, List, sym, subst}
use Rattle.simple_core.specs.Rounds.{IsRest}
use Rattle.need_table.proofs.FillLemmas.{more_itself}
use Rattle.need_table.proofs.ChildLemmas.{child_there}
use Rattle.need_table.proofs.SettleLemmas.{label_at_rest}
use Rattle.need_table.proofs.asking.known_label.Goals as goal

pub returns-in_ok-label-in-Some-clause-label : goal.returns-in_ok-label-in-Some-clause-label
returns-in_ok-label-in-Some-clause-label c =
    let rest = label_at_rest c.args.system.now c.requires.table.0 c.args.table.now c.in-Some.i (c.args.kind, c.args.parent.now) c.entry.result.now c.requires.table.1 c.requires.at_rest c.in-Some.ensures.place c.entry.ensures in
    subst (λ (z : List ℕ). IsRest c.args.system.now c.args.kind c.args.parent.now z)
    (sym c.in_ok-label-in-Some.ensures) rest

pub returns-in_ok-label-in-Some-clause-there : goal.returns-in_ok-label-in-Some-clause-there
returns-in_ok-label-in-Some-clause-there c = child_there c.args.table.now c.args.table.now c.in-Some.i (c.args.kind, c.args.parent.now) (more_itself c.args.table.now) c.in-Some.ensures.place

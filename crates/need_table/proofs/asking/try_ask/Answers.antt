use Rattle.std.proofs.Common.{ℕ, List, sym, subst}
use Rattle.simple_core.specs.Rounds.{IsRest}
use Rattle.need_table.proofs.SettleLemmas.{label_at_rest}
use Rattle.need_table.proofs.asking.try_ask.Goals as goal

pub returns-clause-label : goal.returns-clause-label
returns-clause-label c =
    let rest = label_at_rest c.args.system.now c.args.pairs c.fill.new.table c.in_ok-i.i (c.args.kind, c.args.parent.now) c.entry.result.now
    c.in_ok-i.ensures.table c.in_ok-i.ensures.at_rest c.in_ok-i.ensures.place c.entry.ensures in
    subst (λ (z : List ℕ). IsRest c.args.system.now c.args.kind c.args.parent.now z)
    (sym c.in_ok-label.ensures) rest

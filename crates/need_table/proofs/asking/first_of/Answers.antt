use Rattle.std.proofs.lemmas.Bool.{both_ways}
use Rattle.need_table.proofs.SettleLemmas.{round_absent}
use Rattle.need_table.proofs.asking.first_of.Goals as goal

pub returns-then-not-has : goal.returns-then-not-has
returns-then-not-has c = round_absent c.args.entry.now.label c.args.entry.now.firsts.items c.args.atom c.requires (λ there. both_ways c.has.result c.if-not-has.true (c.has.ensures.member.1 there))

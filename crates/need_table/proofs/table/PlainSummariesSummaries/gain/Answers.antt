use Rattle.std.proofs.Common.{◌≡◌, ◌⊎◌, map, Some, option_map, Contains, rules, Err, sym, ap, subst}
use Rattle.simple_core.specs.Pairs.{Pair, Needed, HasMore}
use Rattle.simple_core.specs.declared.summaries.GainFault.TheVariants.{Spent}
use Rattle.need_table.specs.Tables.{pair_of}
use Rattle.need_table.specs.PlainViews.{question_of}
use Rattle.need_table.proofs.PlainLemmas.{rest_asks_all, told_now, spent_now, room_kept}
use Rattle.need_table.proofs.table.PlainSummariesSummaries.gain.Goals as goal

pub returns-then-is_some-clause-closed : goal.returns-then-is_some-clause-closed
returns-then-is_some-clause-closed c = rw (← c.self.view_is) (rest_asks_all c.self.inside.system c.self.inside.pairs c.self.inside.table c.self.invariant.table c.self.invariant.at_rest)

pub returns-in_err-copy-clause-closed : goal.returns-in_err-copy-clause-closed
returns-in_err-copy-clause-closed c = rw (← c.self.view_is) (rest_asks_all c.self.inside.system c.self.inside.pairs c.self.inside.table c.self.invariant.table c.self.invariant.at_rest)

pub returns-in-Ok-clause-closed : goal.returns-in-Ok-clause-closed
returns-in-Ok-clause-closed c = rest_asks_all c.self.inside.system c.self.inside.pairs c.ask.new.table c.ask.ensures.table c.ask.ensures.at_rest

pub returns-in-Err-Memory-clause-closed : goal.returns-in-Err-Memory-clause-closed
returns-in-Err-Memory-clause-closed c = rest_asks_all c.self.inside.system c.self.inside.pairs c.ask.new.table c.ask.ensures.table c.ask.ensures.at_rest

pub returns-in-Err-Spent-clause-closed : goal.returns-in-Err-Spent-clause-closed
returns-in-Err-Spent-clause-closed c = rest_asks_all c.self.inside.system c.self.inside.pairs c.ask.new.table c.ask.ensures.table c.ask.ensures.at_rest

pub returns-in-Ok-clause-told : goal.returns-in-Ok-clause-told
returns-in-Ok-clause-told c = rw (← c.self.view_is)
    (told_now c.self.inside.system c.self.inside.pairs c.self.inside.table c.ask.new.table (c.args.kind, c.args.parent.now)
    c.ask.ensures.table c.ask.ensures.at_rest c.in-Ok.ensures.there c.ask.ensures.kept c.in-Ok.ensures.needed)

pub invariant_of-self-in-Err-Spent : goal.invariant_of-self-in-Err-Spent
invariant_of-self-in-Err-Spent c =
    let question : (c.args.kind, c.in_ok-copy.field-0) ≡ (c.args.kind, c.args.parent.now) = ap (λ z. let q : Pair = (c.args.kind, z) in q) c.in_ok-copy.ensures in
    let is : c.ask.result ≡ Err Spent = search rules in
    record {
      table = c.ask.ensures.table;
      small = c.self.invariant.small;
      at_rest = c.ask.ensures.at_rest;
      too_many = subst (λ (q : Pair). HasMore (Needed c.self.inside.system (λ r. Contains (map pair_of c.ask.new.table) r ⊎ (r ≡ q))) c.self.inside.pairs) (sym question)
          (spent_now c.self.inside.system c.self.inside.pairs c.self.inside.table c.ask.new.table (c.args.kind, c.args.parent.now) c.in-Err-Spent.ensures.err (c.ask.ensures.spent is));
    }

pub returns-then-is_some-clause-keeps_room : goal.returns-then-is_some-clause-keeps_room
returns-then-is_some-clause-keeps_room c = rw (← c.self.view_is)
    (room_kept c.self.inside.system c.self.inside.pairs c.self.inside.table (option_map question_of c.self.inside.spent) c.self.invariant.table c.self.invariant.too_many)

pub returns-in-Err-Spent-clause-keeps_room : goal.returns-in-Err-Spent-clause-keeps_room
returns-in-Err-Spent-clause-keeps_room c =
    room_kept c.self.inside.system c.self.inside.pairs c.ask.new.table (Some (question_of (record { kind = c.args.kind; parent = c.in_ok-copy.field-0 }))) c.ask.ensures.table (invariant_of-self-in-Err-Spent c).too_many

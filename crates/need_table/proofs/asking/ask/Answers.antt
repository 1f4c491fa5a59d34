use Rattle.std.proofs.Common.{List, map, Contains, sym, subst, arith}
use Rattle.need_table.specs.declared.entries.Entry.{Entry}
use Rattle.need_table.specs.Tables.{pair_of, IsTable, AllRest}
use Rattle.need_table.proofs.FillLemmas.{pairs_more}
use Rattle.need_table.proofs.SettleLemmas.{as_before}
use Rattle.need_table.proofs.asking.ask.Goals as goal

pub known_label-requires-clause-table : goal.known_label-requires-clause-table
known_label-requires-clause-table c = (c.args.pairs, c.requires.table)

pub returns-in-Ok-clause-kept : goal.returns-in-Ok-clause-kept
returns-in-Ok-clause-kept c = pairs_more c.args.table.now c.try_ask.new.table c.try_ask.ensures.more

pub returns-in-Err-clause-err : goal.returns-in-Err-clause-err
returns-in-Err-clause-err c = as_before c.args.table.now c.try_ask.new.table c.truncate.new.self c.len-before.result c.requires.at_rest c.try_ask.ensures.more
    (omega (arith, c.len-before.ensures)) c.truncate.ensures

pub returns-in-Err-clause-table : goal.returns-in-Err-clause-table
returns-in-Err-clause-table c =
    let same = as_before c.args.table.now c.try_ask.new.table c.truncate.new.self c.len-before.result c.requires.at_rest c.try_ask.ensures.more
    (omega (arith, c.len-before.ensures)) c.truncate.ensures in
    subst (λ (z : List Entry). IsTable c.args.system.now c.args.pairs z) (sym same) c.requires.table

pub returns-in-Err-clause-at_rest : goal.returns-in-Err-clause-at_rest
returns-in-Err-clause-at_rest c =
    let same = as_before c.args.table.now c.try_ask.new.table c.truncate.new.self c.len-before.result c.requires.at_rest c.try_ask.ensures.more
    (omega (arith, c.len-before.ensures)) c.truncate.ensures in
    subst AllRest (sym same) c.requires.at_rest

pub returns-in-Err-clause-kept : goal.returns-in-Err-clause-kept
returns-in-Err-clause-kept c = λ q there.
    let same = as_before c.args.table.now c.try_ask.new.table c.truncate.new.self c.len-before.result c.requires.at_rest c.try_ask.ensures.more
    (omega (arith, c.len-before.ensures)) c.truncate.ensures in
    subst (λ (z : List Entry). Contains (map pair_of z) q) (sym same) there

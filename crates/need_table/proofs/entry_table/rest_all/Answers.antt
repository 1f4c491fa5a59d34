use Rattle.std.proofs.Common.{◌<◌, length, arith}
use Rattle.need_table.proofs.SettleLemmas.{rest_start, rest_step, rested_all}
use Rattle.need_table.proofs.entry_table.rest_all.Goals as goal

pub entries-init : goal.entries-init
entries-init c = rest_start c.args.entries.now.items c.args.first c.requires.at_rest

pub entries-preserved : goal.entries-preserved
entries-preserved c =
    let entries = c.entries.entries.items in
    let less : c.entries.i < length c.args.entries.now.items = omega (arith, c.entries-test.true, c.len.ensures, c.entries.entries.ok.0, c.entries.invariant.same) in
    rest_step c.args.entries.now.items entries c.entries.i c.index_mut.result.now c.rest.new.entry c.entries.invariant less c.index_mut.ensures.value c.rest.ensures

pub returns : goal.returns
returns c = rested_all c.args.entries.now.items c.entries.entries.items c.entries.i (omega (arith, c.entries-test.false, c.len.ensures, c.entries.entries.ok.0, c.entries.invariant.same)) c.entries.invariant

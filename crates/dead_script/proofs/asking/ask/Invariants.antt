use Rattle.std.proofs.Common.{map, take}
use Rattle.jq_stmts.specs.Views.{chain_of, statements_of}
use Rattle.dead_script.specs.Asked.{AreAsked}
use Rattle.dead_script.specs.Probes.{probe_guards}
use Rattle.dead_script.proofs.AskedLemmas.{AreKept}
use Rattle.dead_script.proofs.asking.ask.Given as goal

abbrev pub invariant-statements : goal.invariant-statements
invariant-statements l = record {
  asked : AreAsked (probe_guards (statements_of (take l.stmt-index l.stmts))) l.asked.guards.items l.asked.numbers.items;
  kept : AreKept (map chain_of l.before) l.start l.asked.guards.items l.asked.numbers.items;
}

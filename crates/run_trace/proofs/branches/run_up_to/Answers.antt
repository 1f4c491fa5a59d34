use Rattle.std.proofs.Common.{length, arith}
use Rattle.run_trace.proofs.KnownLemmas.{number_below}
use Rattle.run_trace.proofs.branches.run_up_to.Goals as goal

pub run_one-requires-clause-there : goal.run_one-requires-clause-there
run_one-requires-clause-there c = number_below (length c.args.task.now.stmts.now) c.args.steps.now c.runs.depth c.index-steps-depth.result c.requires.numbers (omega arith) c.index-steps-depth.is

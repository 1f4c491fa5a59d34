use Rattle.std.proofs.Common.{◌≡◌}
use Rattle.jq_words.specs.Words.{past}
use Rattle.jq_words.specs.Results.{InFile, IsRest}
use Rattle.jq_words.proofs.words.Words.pass_all.Given as goal

abbrev pub invariant-loop-i : goal.invariant-loop-i
invariant-loop-i l = record {
  passed : l.self ≡ past l.i l.fn.self;
  rest : InFile IsRest l.fn.self l.self;
}

use Rattle.std.proofs.Common.{arith}
use Rattle.jq_words.proofs.Files.{some_passed}
use Rattle.jq_words.proofs.words.Words.pass_all.Goals as goal

pub returns-clause-behind : goal.returns-clause-behind
returns-clause-behind c = λ some. some_passed c.loop-i.i _ _ (omega (arith, some, c.loop-i.auto.i-end, c.loop-i-test.false)) c.loop-i.invariant.passed

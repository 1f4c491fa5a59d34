use Rattle.std.proofs.Common.{◌≡◌, ◌++◌, length}
use Rattle.widen_sheet.specs.Views.{wide_view, kinds_of}
use Rattle.widen_sheet.specs.Wide as spec
use Rattle.widen_sheet.proofs.marks.put_tokens.Given as goal

abbrev pub invariant-tokens : goal.invariant-tokens
invariant-tokens l = record {
  gone : l.gone ≡ spec.goes (kinds_of l.rest);
  put : l.out.items ++ spec.spelled_from l.prior (spec.slots_from l.run (wide_view l.text l.rest)) ≡ l.fn.out.items ++ spec.spelled (wide_view l.text l.tokens);
}

abbrev pub decreases-tokens : goal.decreases-tokens
decreases-tokens l = length l.rest

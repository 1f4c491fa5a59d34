use Rattle.std.proofs.Common.{List, ℕ, Some, sym, subst}
use Rattle.run_ends.specs.Tells.{put_of, SaysWhy}
use Rattle.run_tests.specs.RoomSinks.{RoomySink}
use Rattle.run_tests.specs.SureRuns.{IsHeard}
use Rattle.run_tests.proofs.SureLemmas.{is_heard}
use Rattle.run_tests.proofs.sure_runs.errors_of.Goals as goal

pub returns : goal.returns
returns g c =
    let err : RoomySink = c.treeped-status.new.err in
    let s = c.treeped-status.result in
    let text = c.into_bytes.ensures in
    subst (λ (z : List ℕ). IsHeard s z) (sym text.bytes)
    (is_heard err.bytes err.faults s text.fails_full (subst (λ (e : RoomySink). SaysWhy ⊥ (put_of (Some e.bytes) (Some err.bytes) e.faults err.faults) s) c.in_ok-err.ensures c.treeped-status.ensures.says_why))

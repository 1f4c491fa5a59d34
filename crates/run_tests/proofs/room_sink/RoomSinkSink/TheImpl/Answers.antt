use Rattle.std.proofs.Common.{◌≡◌, ℕ, ◌<◌, ◌≤◌, List, ◌++◌, take, length, Some, Result, Ok, Err, IfOk, OnOk, OnErr, IsOkUnless, ap, subst, sym, ◌∙◌, arith}
use Rattle.tp_io.specs.declared.sinks.SinkFault.{SinkFault}
use Rattle.tp_io.specs.declared.sinks.SinkFault.TheVariants.{Failed, Memory}
use Rattle.tp_io.specs.Counts.{next_count}
use Rattle.run_tests.specs.RoomSinks.{RoomySink}
use Rattle.tp_io.specs.Sinks.{Rose}
use Rattle.tp_io.proofs.CountLemmas.{rose_next}
use Rattle.run_tests.proofs.room_sink.RoomSinkSink.TheImpl.Goals as goal

within_piece : (r : Result ℕ SinkFault) (len : ℕ) → 0 < len → IfOk r (λ count. count ≡ 1) → IfOk r (λ count. count ≤ len)
within_piece (Ok n) len some one = omega (arith, some, one)
within_piece (Err e) len some one = tt

not_nothing : (r : Result ℕ SinkFault) → IfOk r (λ count. count ≡ 1) → r ≡ Ok 0 → ⊥
not_nothing (Ok n) one is = let none : n ≡ 0 = cc in omega (arith, one, none)
not_nothing (Err e) one is = cc

no_memory : (r : Result ℕ SinkFault) → IsOkUnless r Failed → r ≡ Err Memory → ⊥
no_memory (Ok n) only is = cc
no_memory (Err e) only is = let failed : e ≡ Failed = only in cc

took_one : (r : Result ℕ SinkFault) (old new : RoomySink) (piece : List ℕ) → IfOk r (λ count. count ≡ 1) → OnOk r (new ≡ record old { bytes = old.bytes ++ take 1 piece }) → IfOk r (λ count. Some new.bytes ≡ Some (old.bytes ++ take count piece))
took_one (Ok n) old new piece one kept = ap (λ (s : RoomySink). Some s.bytes) kept ∙ ap (λ k. Some (old.bytes ++ take k piece)) (sym one)
took_one (Err e) old new piece one kept = tt

took_none : (r : Result ℕ SinkFault) (old new : RoomySink) → OnErr r (new ≡ record old { faults = next_count old.faults }) → OnErr r (Some new.bytes ≡ Some old.bytes)
took_none (Ok n) old new counted = tt
took_none (Err e) old new counted = ap (λ (s : RoomySink). Some s.bytes) counted

rose : (r : Result ℕ SinkFault) (old new : RoomySink) → OnErr r (new ≡ record old { faults = next_count old.faults }) → r ≡ Err Failed → Rose old.faults new.faults
rose (Ok n) old new counted is = cc
rose (Err e) old new counted is = subst (λ n. Rose old.faults n) (sym (ap (λ (s : RoomySink). s.faults) counted)) (rose_next old.faults)

pub put-tells : goal.put-tells
put-tells c =
    let e = c.ensures in
    record {
      within = within_piece c.result (length c.args.piece.now) c.requires e.one;
      took = took_one c.result _ _ _ e.one e.kept;
      err = took_none c.result _ _ e.counted;
      failed = rose c.result _ _ e.counted;
      took_nothing = λ is. absurd (not_nothing c.result e.one is);
      memory = no_memory c.result e.only_failed;
      never_falls = e.never_falls;
    }

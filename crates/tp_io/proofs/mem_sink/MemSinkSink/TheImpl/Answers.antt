use Rattle.std.proofs.Common.{◌≡◌, ℕ, ◌≤◌, min, List, ◌++◌, take, length, Some, Result, Ok, Err, IfOk, OnErr, ap, subst, sym, ◌∙◌, arith}
use Rattle.tp_io.specs.declared.sinks.SinkFault.{SinkFault}
use Rattle.tp_io.specs.declared.sinks.SinkFault.TheVariants.{Failed}
use Rattle.tp_io.specs.MemorySinks.{MemorySink, bytes_after, faults_after}
use Rattle.tp_io.specs.Sinks.{Rose}
use Rattle.tp_io.proofs.CountLemmas.{rose_next}
use Rattle.tp_io.proofs.mem_sink.MemSinkSink.TheImpl.Goals as goal

within_piece : (r : Result ℕ SinkFault) (most len : ℕ) → IfOk r (λ count. count ≡ min most len) → IfOk r (λ count. count ≤ len)
within_piece (Ok n) most len e = omega arith
within_piece (Err e) most len h = tt

took_bytes : (r : Result ℕ SinkFault) (old piece new : List ℕ) → new ≡ bytes_after old piece r → IfOk r (λ count. Some new ≡ Some (old ++ take count piece))
took_bytes (Ok n) old piece new e = ap Some e
took_bytes (Err e) old piece new h = tt

same_bytes : (r : Result ℕ SinkFault) (old piece new : List ℕ) → new ≡ bytes_after old piece r → OnErr r (Some new ≡ Some old)
same_bytes (Ok n) old piece new e = tt
same_bytes (Err e) old piece new h = ap Some h

rose_by : (r known : Result ℕ SinkFault) (old new : ℕ) → new ≡ faults_after old r → Rose old (faults_after old known) → r ≡ known → Rose old new
rose_by r known old new e rose is = subst (λ (n : ℕ). Rose old n) (sym (e ∙ ap (faults_after old) is)) rose

pub put-tells : goal.put-tells
put-tells c =
    let after = c.ensures.after in
    let bytes = ap (λ (s : MemorySink). s.bytes) after in
    let faults = ap (λ (s : MemorySink). s.faults) after in
    record {
      within = within_piece c.result c.args.self.now.most (length c.args.piece.now) c.ensures.count;
      took = took_bytes c.result _ _ _ bytes;
      err = same_bytes c.result _ c.args.piece.now _ bytes;
      failed = rose_by c.result (Err Failed) _ _ faults (rose_next c.args.self.now.faults);
      took_nothing = rose_by c.result (Ok 0) _ _ faults (rose_next c.args.self.now.faults);
      memory = λ _. tt;
      never_falls = c.ensures.never_falls;
    }

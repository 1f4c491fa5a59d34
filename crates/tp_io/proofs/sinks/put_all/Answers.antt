use Rattle.std.proofs.Common.{◌++◌, take, false-eqb, arith}
use Rattle.tp_io.proofs.SinkLemmas.{adds_more, cut_off, goes_on, none_out, on_err, some_left}
use Rattle.tp_io.proofs.sinks.put_all.Goals as goal

-- src/sinks.rt:69:21
pub returns-in_err-count-clause-err : goal.returns-in_err-count-clause-err
returns-in_err-count-clause-err g c =
    let gone = c.puts.invariant.gone in
    on_err c.from_residual.result _
    (cut_off _ _ _ gone.0 c.puts.rest.now _ gone.1 gone.2 (none_out _ _ c.puts.rest.now c.in_err-count.ensures.err))

-- src/sinks.rt:71:13
pub returns-then-count-eq0-clause-err : goal.returns-then-count-eq0-clause-err
returns-then-count-eq0-clause-err g c =
    let gone = c.puts.invariant.gone in
    cut_off _ _ _ gone.0 c.puts.rest.now _ gone.1 gone.2 (c.in_ok-count.count, c.in_ok-count.ensures.took)

-- src/sinks.rt:68:5
pub puts-preserved : goal.puts-preserved
puts-preserved g c =
    let gone = c.puts.invariant.gone in
    record {
      gone = (
        gone.0 ++ take c.in_ok-count.count c.puts.rest.now,
        rw c.split_at.ensures.back (goes_on gone.0 c.puts.rest.now _ c.in_ok-count.count gone.1),
        adds_more _ _ _ gone.0 (take c.in_ok-count.count c.puts.rest.now) gone.2 c.in_ok-count.ensures.took,
      );
      never_falls = omega (arith, c.in_ok-count.ensures.never_falls);
      untouched = λ empty. absurd (some_left gone.0 c.puts.rest.now _ gone.1 (omega (arith, false-eqb _ 0 c.puts-test.ensures)) empty);
    }

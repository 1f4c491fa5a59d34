use Rattle.std.proofs.Common.{◌≡◌, ◌∙◌, [], Ok, Err, arith}
use Rattle.std.proofs.lemmas.Grind.{common_steps}
use Rattle.std.proofs.lemmas.Result.{err_from_is_err_and}
use Rattle.premise_lines.specs.declared.stops.Stop.TheVariants.{NoMemory}
use Rattle.premise_lines.specs.Tells.{put_of}
use Rattle.premise_lines.proofs.WritingLemmas.{line_cut, line_done, lines_of_none, line_unmade, as_text}
use Rattle.premise_lines.proofs.writing.write_lines.Goals as goal

pub returns-in_err-line : goal.returns-in_err-line
returns-in_err-line g c =
    let exit = err_from_is_err_and c.from_residual.result c.from_residual.ensures.1 in
    let was = c.findings.out in
    rw (exit.1, exit.2) (c.findings.invariant.goes_on (g.O.Sink.written was) (g.O.Sink.faults was) (Err NoMemory) (line_unmade c.args.part c.args.text.now c.findings.left.now (g.O.Sink.written was) (g.O.Sink.faults was)))

pub returns-in_err-put : goal.returns-in_err-put
returns-in_err-put g c =
    let exit = err_from_is_err_and c.from_residual-in_err-put.result c.from_residual-in_err-put.ensures.1 in
    let was = c.findings.out in
    let now = c.put.new.out in
    let e = c.in_err-put.field-0.0 in
    rw (exit.1, exit.2) (c.findings.invariant.goes_on (g.O.Sink.written now) (g.O.Sink.faults now) (Err e)
    (line_cut c.args.part c.args.text.now c.findings.left.now c.in-Some.others.now c.in-Some.finding.now c.in-Some.ensures.cases.0
    (put_of (g.O.Sink.written was) (g.O.Sink.written now) (g.O.Sink.faults was) (g.O.Sink.faults now)) e
    (as_text _ _ (c.deref.ensures.value ∙ c.in_ok-line.ensures.line) (put_of (g.O.Sink.written was) (g.O.Sink.written now) (g.O.Sink.faults was) (g.O.Sink.faults now)) (Err e) c.in_err-put.ensures)))

pub findings-preserved : goal.findings-preserved
findings-preserved g c =
    let was = c.findings.out in
    let now = c.put.new.out in
    record {
      here = c.in_ok-line.ensures.here;
      goes_on = λ held faults r later.
          c.findings.invariant.goes_on held faults r
          (line_done c.args.part c.args.text.now c.findings.left.now c.in-Some.others.now c.in-Some.finding.now c.in-Some.ensures.cases.0
          (g.O.Sink.written was) (g.O.Sink.written now) held (g.O.Sink.faults was) (g.O.Sink.faults now) faults r
          (as_text _ _ (c.deref.ensures.value ∙ c.in_ok-line.ensures.line) (put_of (g.O.Sink.written was) (g.O.Sink.written now) (g.O.Sink.faults was) (g.O.Sink.faults now)) (Ok tt) c.in_ok-put.ensures) later);
    }

pub returns : goal.returns
returns g c =
    let none : c.findings.left.now ≡ [] = grind (arith, common_steps) in
    let now = c.findings.out in
    c.findings.invariant.goes_on (g.O.Sink.written now) (g.O.Sink.faults now) (Ok tt)
    (lines_of_none c.args.part c.args.text.now c.findings.left.now (g.O.Sink.written now) (g.O.Sink.faults now) none)

use Rattle.std.proofs.Common.{◌++◌, Ok, Err}
use Rattle.std.proofs.lemmas.Result.{err_from_is_err_and}
use Rattle.premise_lines.specs.Lines.{header, lines_of, report_of}
use Rattle.premise_lines.specs.Runs.{status_of}
use Rattle.premise_lines.specs.Tells.{put_of}
use Rattle.premise_lines.specs.declared.stops.Part.TheVariants.{Page, Sheet}
use Rattle.premise_lines.proofs.WritingLemmas.{then_writes, cut_in_front, cut_with, as_text, as_lines}
use Rattle.premise_lines.proofs.writing.write.Goals as goal

pub returns-in_err-put : goal.returns-in_err-put
returns-in_err-put g c =
    let x = c.args.report.now in
    let was = c.args.out.now in
    let now = c.put.new.out in
    let e = c.in_err-put.field-0.0 in
    let out = put_of (g.O.Sink.written was) (g.O.Sink.written now) (g.O.Sink.faults was) (g.O.Sink.faults now) in
    let exit = err_from_is_err_and c.from_residual.result c.from_residual.ensures.1 in
    rw (exit.1, exit.2) (cut_with (report_of x) (status_of x) out e (cut_in_front out header (lines_of Page x.page x.in_page ++ lines_of Sheet x.sheet x.in_sheet) e c.in_err-put.ensures))

pub returns-in_err-write_lines : goal.returns-in_err-write_lines
returns-in_err-write_lines g c =
    let x = c.args.report.now in
    let was = c.args.out.now in
    let mid = c.put.new.out in
    let now = c.write_lines.new.out in
    let e = c.in_err-write_lines.field-0.0 in
    let later = put_of (g.O.Sink.written mid) (g.O.Sink.written now) (g.O.Sink.faults mid) (g.O.Sink.faults now) in
    let out = put_of (g.O.Sink.written was) (g.O.Sink.written now) (g.O.Sink.faults was) (g.O.Sink.faults now) in
    let exit = err_from_is_err_and c.from_residual-in_err-write_lines.result c.from_residual-in_err-write_lines.ensures.1 in
    rw (exit.1, exit.2)
    (cut_with (report_of x) (status_of x) out e
    (then_writes (g.O.Sink.written was) (g.O.Sink.written mid) (g.O.Sink.written now) (g.O.Sink.faults was) (g.O.Sink.faults mid) (g.O.Sink.faults now)
    header (lines_of Page x.page x.in_page ++ lines_of Sheet x.sheet x.in_sheet) c.in_ok-put.ensures (Err e)
    (cut_in_front later (lines_of Page x.page x.in_page) (lines_of Sheet x.sheet x.in_sheet) e
    (as_text _ _ (as_lines Page _ _ _ _ c.items.ensures c.items-in_page.ensures) later (Err e) c.in_err-write_lines.ensures))))

pub returns-in_err-write_lines-2 : goal.returns-in_err-write_lines-2
returns-in_err-write_lines-2 g c =
    let x = c.args.report.now in
    let was = c.args.out.now in
    let mid = c.put.new.out in
    let later = c.write_lines.new.out in
    let now = c.write_lines-2.new.out in
    let e = c.in_err-write_lines-2.field-0.0 in
    let out = put_of (g.O.Sink.written was) (g.O.Sink.written now) (g.O.Sink.faults was) (g.O.Sink.faults now) in
    let exit = err_from_is_err_and c.from_residual-in_err-write_lines-2.result c.from_residual-in_err-write_lines-2.ensures.1 in
    rw (exit.1, exit.2)
    (cut_with (report_of x) (status_of x) out e
    (then_writes (g.O.Sink.written was) (g.O.Sink.written mid) (g.O.Sink.written now) (g.O.Sink.faults was) (g.O.Sink.faults mid) (g.O.Sink.faults now)
    header (lines_of Page x.page x.in_page ++ lines_of Sheet x.sheet x.in_sheet) c.in_ok-put.ensures (Err e)
    (then_writes (g.O.Sink.written mid) (g.O.Sink.written later) (g.O.Sink.written now) (g.O.Sink.faults mid) (g.O.Sink.faults later) (g.O.Sink.faults now)
    (lines_of Page x.page x.in_page) (lines_of Sheet x.sheet x.in_sheet)
    (as_text _ _ (as_lines Page _ _ _ _ c.items.ensures c.items-in_page.ensures) (put_of (g.O.Sink.written mid) (g.O.Sink.written later) (g.O.Sink.faults mid) (g.O.Sink.faults later)) (Ok tt) c.in_ok-write_lines.ensures) (Err e)
    (as_text _ _ (as_lines Sheet _ _ _ _ c.items-2.ensures c.items-in_sheet.ensures) (put_of (g.O.Sink.written later) (g.O.Sink.written now) (g.O.Sink.faults later) (g.O.Sink.faults now)) (Err e) c.in_err-write_lines-2.ensures))))

pub returns : goal.returns
returns g c =
    let x = c.args.report.now in
    let was = c.args.out.now in
    let mid = c.put.new.out in
    let later = c.write_lines.new.out in
    let now = c.write_lines-2.new.out in (
      c.status_of.ensures,
      (then_writes (g.O.Sink.written was) (g.O.Sink.written mid) (g.O.Sink.written now) (g.O.Sink.faults was) (g.O.Sink.faults mid) (g.O.Sink.faults now)
          header (lines_of Page x.page x.in_page ++ lines_of Sheet x.sheet x.in_sheet) c.in_ok-put.ensures (Ok tt)
          (then_writes (g.O.Sink.written mid) (g.O.Sink.written later) (g.O.Sink.written now) (g.O.Sink.faults mid) (g.O.Sink.faults later) (g.O.Sink.faults now)
          (lines_of Page x.page x.in_page) (lines_of Sheet x.sheet x.in_sheet)
          (as_text _ _ (as_lines Page _ _ _ _ c.items.ensures c.items-in_page.ensures) (put_of (g.O.Sink.written mid) (g.O.Sink.written later) (g.O.Sink.faults mid) (g.O.Sink.faults later)) (Ok tt) c.in_ok-write_lines.ensures) (Ok tt)
          (as_text _ _ (as_lines Sheet _ _ _ _ c.items-2.ensures c.items-in_sheet.ensures) (put_of (g.O.Sink.written later) (g.O.Sink.written now) (g.O.Sink.faults later) (g.O.Sink.faults now)) (Ok tt) c.in_ok-write_lines-2.ensures))).0,
    )

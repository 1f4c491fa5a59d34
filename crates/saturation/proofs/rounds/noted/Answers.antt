use Rattle.row_index.specs.Rows.{row_of}
use Rattle.pushdown_sym.specs.Rounds.{cell}
use Rattle.saturation.specs.HistoryMap.{history_in}
use Rattle.saturation.proofs.DoneLemmas.{start_noted, changed_kinds, next_done, since_changed, ends_later}
use Rattle.saturation.proofs.rounds.noted.Goals as goal

pub returns : goal.returns
returns c s nodes k old todo round sound count reads ends done calculated x first =
    let h = history_in c.args.log.now in
    let cells = c.args.cells.now in
    let d = c.args.d.now in
    let changes = c.args.changes.now in
    let noted = c.in_ok-note_all.ensures.noted s k round calculated.trees (start_noted s nodes k old h cells todo done d changes calculated) in
    let read = c.in_ok-next.ensures s (cell s k) d.branches sound count reads (changed_kinds s nodes k old h cells todo done d changes calculated) ends
    (since_changed s nodes k old h cells todo done d changes calculated sound (history_in c.note_all.new.log) c.note_all.new.cells noted) in (
      next_done s nodes k old h cells todo done d changes calculated sound x first (history_in c.note_all.new.log) c.note_all.new.cells c.in_ok-next.next.items c.in_ok-note_all.ensures.cells noted read.0,
      ends_later s nodes k old h cells todo done d changes calculated sound (history_in c.note_all.new.log) c.note_all.new.cells (row_of c.readers.new.ends) noted read.1,
    )

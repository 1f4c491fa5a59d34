use Rattle.std.proofs.Common.{◌==◌, ◌&&◌}
use Rattle.pushdown_sym.specs.CellMap.{place_in}
use Rattle.summary_tests.proofs.Cells.{either_inside}
use Rattle.summary_tests.proofs.rounds.set_cell.Goals as goal

pub returns : goal.returns
returns c = λ j a.
    either_inside c.diagram_of.new.d.branches ((c.args.kind == j) && (c.args.atom == a)) c.in_ok-to.to (place_in c.args.all.now j a) (place_in c.set.new.self j a)
    c.in_ok-to.ensures.inside (c.in_ok-to.ensures.stays (place_in c.args.all.now j a) (c.requires j a)) (c.in_ok-set.ensures.ok j a)

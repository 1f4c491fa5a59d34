use Rattle.row_index.proofs.NumberLemmas.{numbers_start, numbers_next}
use Rattle.row_index.proofs.index.Index.of_numbers.Goals as goal

pub loop-i-init : goal.loop-i-init
loop-i-init c = numbers_start c.new-index.result c.new-index.ensures

pub loop-i-preserved : goal.loop-i-preserved
loop-i-preserved c = numbers_next c.args.numbers.now c.loop-i.i c.loop-i.index c.note_number.new.self c.loop-i-test.true c.in_ok-note_number.ensures c.loop-i.invariant

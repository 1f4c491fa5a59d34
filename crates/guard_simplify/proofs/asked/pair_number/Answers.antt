use Rattle.guard_sem.specs.OfSelectors as spec
use Rattle.sel_text.specs.Parts.{join_of}
use Rattle.guard_simplify.proofs.AskedLemmas.{ok_pair}
use Rattle.guard_simplify.proofs.asked.pair_number.Goals as goal

pub returns : goal.returns
returns c =
    ok_pair c.args.first c.args.keys.now.keys c.compound_number.new.keys.keys c.compound_number-2.new.keys.keys c.enter_one.new.keys.keys c.enter.new.keys.keys
    (spec.of_compound c.args.part.now.atoms) (spec.of_compound c.args.above.now.atoms) (join_of c.args.join) c.in_ok-own.own c.in_ok-over.over c.in_ok-up.up c.shape_of_join.result c.enter.result
    c.in_ok-own.ensures c.in_ok-over.ensures c.shape_of_join.ensures c.in_ok-up.ensures (rw c.from_buf-parts.ensures.items at c.enter.ensures)

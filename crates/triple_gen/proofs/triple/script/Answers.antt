use Rattle.triple_gen.proofs.RingLemmas.{one_more_script}
use Rattle.triple_gen.proofs.triple.script.Goals as goal

pub boxes-preserved : goal.boxes-preserved
boxes-preserved c = one_more_script c.args.n c.boxes.i c.boxes.text _ c.boxes.invariant c.in_ok-script_line.ensures

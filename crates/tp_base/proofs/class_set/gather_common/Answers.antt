use Rattle.std.proofs.Common.{◌≡◌, ◌<◌, length, get_or, sym, ◌∙◌, arith}
use Rattle.std.proofs.lemmas.List.{get_or_default}
use Rattle.tp_base.proofs.Walks.{told, still_next, gathered_more, gathered_none}
use Rattle.tp_base.proofs.class_set.gather_common.Goals as goal
use Rattle.tp_base.proofs.class_set.gather_common.Goals.{then-there, else-there}

pub loop-at-preserved : goal.loop-at-preserved
loop-at-preserved c =
    let old = c.args.atoms.now in
    let others = c.args.others.now in
    let i = c.loop-at.at in
    let within : i < length old = c.loop-at-test.true in
    let item : c.index-atoms-at.result ≡ get_or old i 0 = c.index-atoms-at.is ∙ get_or_default c.loop-at.atoms i c.index-atoms-at.result 0 (omega arith) ∙ c.loop-at.invariant.so_far.later i (omega arith) in
    let tells = told old c.loop-at.left.now others c.seek-there.result.1.now i c.index-atoms-at.result c.seek-there.result.0 c.loop-at.invariant.still within item c.seek-there.ensures.test in
    record {
      still = still_next old c.loop-at.left.now others c.seek-there.result.1.now i c.index-atoms-at.result c.seek-there.result.0 c.loop-at.invariant.still within item
          c.requires.rising c.seek-there.ensures.same c.seek-there.ensures.rising;
      so_far = elim c.if-there.branch [
        | then-there w ↦ rw (w.atoms-is, w.kept-is, item) (gathered_more old c.loop-at.atoms others i c.loop-at.kept c.loop-at.invariant.so_far within (omega arith) (sym tells ∙ w.if-there.true))
        | else-there w ↦ rw (w.atoms-is, w.kept-is) (gathered_none old c.loop-at.atoms others i c.loop-at.kept c.loop-at.invariant.so_far within (sym tells ∙ w.if-there.false))
      ];
    }

use Rattle.std.proofs.Common.{◌≡◌, sym, ◌∙◌, get_or}
use Rattle.std.proofs.lemmas.Bool.{and_from}
use Rattle.std.proofs.lemmas.List.{get_or_default}
use Rattle.std.proofs.lemmas.List.Folds.{list_all_at, list_all_more}
use Rattle.tp_base.specs.Classes.{has_class}
use Rattle.tp_base.proofs.Walks.{told, still_next}
use Rattle.tp_base.proofs.class_set.are_among.Goals as goal

pub returns-then-not-there : goal.returns-then-not-there
returns-then-not-there c =
    let atoms = c.args.atoms.now in
    let others = c.args.others.now in
    let i = c.loop-atom.atom-index in
    let item : c.atom-item.result ≡ get_or atoms i 0 = c.atom-item.is ∙ get_or_default atoms i c.atom-item.result 0 c.loop-atom-test.true in
    let tells = told atoms c.loop-atom.left.now others c.seek-there.result.1.now i c.atom-item.result c.seek-there.result.0 c.loop-atom.invariant.still c.loop-atom-test.true item c.seek-there.ensures.test in
    sym (list_all_at (λ x. has_class x others) atoms i 0 c.loop-atom-test.true (sym tells ∙ c.if-not-there.true))

pub loop-atom-preserved : goal.loop-atom-preserved
loop-atom-preserved c =
    let atoms = c.args.atoms.now in
    let others = c.args.others.now in
    let i = c.loop-atom.atom-index in
    let item : c.atom-item.result ≡ get_or atoms i 0 = c.atom-item.is ∙ get_or_default atoms i c.atom-item.result 0 c.loop-atom-test.true in
    let tells = told atoms c.loop-atom.left.now others c.seek-there.result.1.now i c.atom-item.result c.seek-there.result.0 c.loop-atom.invariant.still c.loop-atom-test.true item c.seek-there.ensures.test in
    record {
      still = still_next atoms c.loop-atom.left.now others c.seek-there.result.1.now i c.atom-item.result c.seek-there.result.0 c.loop-atom.invariant.still c.loop-atom-test.true item
          c.requires.rising c.seek-there.ensures.same c.seek-there.ensures.rising;
      passed = list_all_more (λ x. has_class x others) atoms i 0 c.loop-atom-test.true
          ∙ and_from _ _ c.loop-atom.invariant.passed (sym tells ∙ c.if-not-there.false);
    }

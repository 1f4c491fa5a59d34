use Rattle.std.proofs.Common.{◌≡◌, ◌≤◌, suc, length, take, is_some, not, false, ◌∙◌, sym, ap, subst, true, arith}
use Rattle.std.proofs.lemmas.List.{take_all}
use Rattle.proof_check.specs.Firsts.{first_in, all_known}
use Rattle.proof_check.proofs.FirstLemmas.{all_known_one, all_known_not}
use Rattle.proof_check.proofs.premises.all_first.Goals as goal

pub returns-then-is_none : goal.returns-then-is_none
returns-then-is_none c = sym (all_known_not (first_in c.args.known.now c.args.node) c.args.atoms.now c.loop-n.n c.at.result c.at.ensures (sym (ap is_some c.get.ensures) ∙ (c.is_none.ensures ∙ ap not c.if-is_none.true)))

pub loop-n-preserved : goal.loop-n-preserved
loop-n-preserved c = record {
  so_far = subst (λ n. all_known (first_in c.args.known.now c.args.node) (take n c.args.atoms.now) ≡ true) {x = suc c.loop-n.n} (omega arith)
      (all_known_one (first_in c.args.known.now c.args.node) c.args.atoms.now c.loop-n.n c.at.result c.loop-n.invariant.so_far c.at.ensures (sym (ap is_some c.get.ensures) ∙ (c.is_none.ensures ∙ ap not c.if-is_none.false)));
}

pub returns : goal.returns
returns c =
    let past : length c.args.atoms.now ≤ c.loop-n.n = omega (arith, c.loop-n-test.false, c.len-n-end.ensures.count) in
    sym c.loop-n.invariant.so_far ∙ ap (λ xs. all_known (first_in c.args.known.now c.args.node) xs) (take_all c.loop-n.n c.args.atoms.now past)

use Rattle.std.proofs.Common.{◌≡◌, true, false, not, refl, sym, ap, ◌∙◌, arith}
use Rattle.std.proofs.lemmas.Bool.{eq-eqb}
use Rattle.pair_table.proofs.SetLemmas.{all_atoms, other_length, other_atom}
use Rattle.pair_table.proofs.pairs.same_atoms.Goals as goal

pub returns-then-len : goal.returns-then-len
returns-then-len c = other_length c.args.first.now c.args.second.now c.len.result c.len-2.result c.len.ensures.count c.len-2.ensures.count c.if-len.true

pub returns-then-ne : goal.returns-then-ne
returns-then-ne c =
    other_atom c.args.first.now c.args.second.now c.atoms.i c.at.result c.at-in-atoms.result c.at.ensures c.at-in-atoms.ensures
    (λ same. let never : true ≡ false = sym c.if-ne.true ∙ c.ne.ensures ∙ ap not (eq-eqb c.at.result c.at-in-atoms.result same) in cc)

pub returns : goal.returns
returns c = (λ is. all_atoms c.args.first.now c.args.second.now c.atoms.i c.len.result c.len-2.result c.len.ensures.count c.len-2.ensures.count c.if-len.false (omega (arith, c.atoms-test.false, c.len-in-atoms.ensures.count)) c.atoms.invariant, λ same. refl)

use Rattle.std.proofs.Common.{◌≡◌, ◌+◌, List, ℕ, get_or, take, subst, arith}
use Rattle.std.proofs.lemmas.List.{take_all}
use Rattle.std.proofs.lemmas.Option.{get_or_from_slice_get}
use Rattle.tp_base.proofs.Lists.{take_next}
use Rattle.closed_page.specs.Runs.{AreByAtomWith}
use Rattle.closed_page.proofs.RowLemmas.{with_start, put_sorted, put_ended, put_rest, put_firsts, atoms_apart, ended_on}
use Rattle.closed_page.proofs.first_rows.put_all.Goals as goal

pub loop-i-init : goal.loop-i-init
loop-i-init c = record {
  sorted = c.requires.sorted;
  ended = ended_on c.args.rows.now.items c.args.kids c.requires.filled c.requires.ended;
  rest = λ b none. c.requires.ended b;
  rows = λ fs before. with_start fs c.args.kids c.args.rows.now.items before;
}

pub put-requires-clause-ordered : goal.put-requires-clause-ordered
put-requires-clause-ordered c = c.loop-i.invariant.sorted c.at.result

pub put-requires-clause-ends : goal.put-requires-clause-ends
put-requires-clause-ends c =
    let atoms = c.args.atoms.now in
    let a = c.at.result in
    let i = c.loop-i.i in
    let here : get_or atoms i 0 ≡ a = get_or_from_slice_get atoms i a 0 c.at.ensures in
    c.loop-i.invariant.rest a (atoms_apart atoms i a c.len-i-end.ensures.rising (omega (arith, c.loop-i-test.true, c.len-i-end.ensures.count)) here)

pub loop-i-preserved : goal.loop-i-preserved
loop-i-preserved c =
    let old = c.loop-i.rows.items in
    let new = c.put.new.rows.items in
    let atoms = c.args.atoms.now in
    let a = c.at.result in
    let i = c.loop-i.i in
    let y = c.args.kids in
    let put = c.in_ok-put.ensures in
    record {
      sorted = put_sorted old new a y put c.loop-i.invariant.sorted;
      ended = put_ended old new a y put c.loop-i.invariant.ended;
      rest = put_rest old new a y put atoms i (get_or_from_slice_get atoms i a 0 c.at.ensures) c.loop-i.invariant.rest;
      rows = λ fs before. put_firsts old new a y put fs (take i atoms) (take (i + 1) atoms) (take_next atoms i a c.at.ensures) (c.loop-i.invariant.rows fs before);
    }

pub returns-clause-rows : goal.returns-clause-rows
returns-clause-rows c = λ fs before.
    subst (λ (z : List ℕ). AreByAtomWith fs z c.args.kids c.loop-i.rows.items) (take_all c.loop-i.i c.args.atoms.now (omega (arith, c.loop-i-test.false, c.len-i-end.ensures.count))) (c.loop-i.invariant.rows fs before)

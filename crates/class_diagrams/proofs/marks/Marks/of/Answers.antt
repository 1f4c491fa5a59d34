use Rattle.std.proofs.Common.{◌≡◌, ℕ, ◌<◌, All, List, true, false, length, set, get_or, refl, sym, subst, arith}
use Rattle.std.proofs.lemmas.List.{length-set, take_all}
use Rattle.std.proofs.lemmas.List.Elements.{All-contains}
use Rattle.tp_base.specs.Classes.{has_class}
use Rattle.tp_base.proofs.Lists.{Contains-at}
use Rattle.class_diagrams.proofs.MarkLemmas.{marks_are, one_marked}
use Rattle.class_diagrams.proofs.marks.Marks.of.Goals as goal

pub loop-i-preserved : goal.loop-i-preserved
loop-i-preserved c =
    let atoms = c.args.set.now in
    let old = c.loop-i.marks.items in
    let a = c.at.result in
    let less : a < length old = All-contains (λ x. x < length old) atoms a c.loop-i.invariant.long (Contains-at atoms c.loop-i.i a c.at.ensures) in
    rw c.number.view_is (record {
      long = subst (λ n. All (λ x. x < n) atoms) (sym (length-set old a true)) c.loop-i.invariant.long;
      each = one_marked old (set old a true) atoms c.loop-i.i a c.at.ensures less refl c.loop-i.invariant.each;
    })

pub returns : goal.returns
returns c = marks_are c.loop-i.marks.items c.args.set.now c.len-i-end.ensures.rising
    (subst (λ (xs : List ℕ). (a : ℕ) → get_or c.loop-i.marks.items a false ≡ has_class a xs)
    (take_all c.loop-i.i c.args.set.now (omega (arith, c.loop-i-test.false, c.len-i-end.ensures.count))) c.loop-i.invariant.each)

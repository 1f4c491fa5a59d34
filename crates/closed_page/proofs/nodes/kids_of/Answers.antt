use Rattle.std.proofs.Common.{List, ℕ, Option, sym, subst, arith}
use Rattle.std.proofs.lemmas.List.{take_all}
use Rattle.row_index.specs.Rows.{IsNotedIf, AreByNumber}
use Rattle.row_index.proofs.NumberLemmas.{numbers_start, numbers_next}
use Rattle.closed_page.specs.Numbered.{told}
use Rattle.closed_page.proofs.NodeLemmas.{told-length, told-each}
use Rattle.closed_page.proofs.nodes.kids_of.Goals as goal

pub loop-i-init : goal.loop-i-init
loop-i-init c = numbers_start c.new-kids.result c.new-kids.ensures

pub loop-i-preserved : goal.loop-i-preserved
loop-i-preserved c =
    let numbers = c.args.numbers.now in
    let i = c.loop-i.i in
    let old = c.loop-i.kids in
    let new = c.note_kid.new.kids in
    let long = told-length numbers in
    numbers_next (told numbers) i old new (omega (arith, long, c.loop-i-test.true)) (subst (λ (o : Option ℕ). IsNotedIf old new o i) (sym (told-each numbers i c.loop-i-test.true)) c.in_ok-note_kid.ensures) c.loop-i.invariant

pub returns : goal.returns
returns c =
    let numbers = c.args.numbers.now in
    let long = told-length numbers in
    subst (λ (z : List (Option ℕ)). AreByNumber z c.loop-i.kids) (take_all c.loop-i.i (told numbers) (omega (arith, long, c.loop-i-test.false))) c.loop-i.invariant

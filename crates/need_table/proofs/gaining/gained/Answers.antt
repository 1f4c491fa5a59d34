use Rattle.std.proofs.Common.{ℕ, List, ap, sym, ◌∙◌, subst, arith}
use Rattle.std.specs.List.Sorted.{IsStrictlyIncreasing}
use Rattle.tp_base.proofs.ClassLemmas.{IsStrictlyIncreasing-union_of}
use Rattle.need_table.specs.Tables.{pair_of, atoms_from, replaced}
use Rattle.need_table.specs.Turns.{given_above, IsAsked}
use Rattle.need_table.proofs.ChildLemmas.{within_of}
use Rattle.need_table.proofs.GainLemmas.{met_at, fresh_at, gained_at}
use Rattle.need_table.proofs.StepLemmas.{asked_read}
use Rattle.need_table.proofs.gaining.gained.Goals as goal

pub add_own-requires-clause-met : goal.add_own-requires-clause-met
add_own-requires-clause-met c =
    let asked = c.args.asked.now in
    let x = c.entry-entry.result.now in
    met_at c.args.system.now c.args.table.now c.args.i c.args.k x (atoms_from asked.place x.firsts.items) asked.from asked.anew c.entry-entry.ensures
    (asked_read c.args.system.now c.args.table.now c.args.table.now c.args.i c.args.k x asked.place asked.from asked.anew c.entry-entry.ensures c.requires.asked)

pub add_own-requires-clause-within : goal.add_own-requires-clause-within
add_own-requires-clause-within c =
    let asked = c.args.asked.now in
    let x = c.entry-entry.result.now in
    fresh_at c.args.system.now c.args.table.now c.args.i c.args.k x (atoms_from asked.place x.firsts.items) asked.from asked.anew c.entry-entry.ensures
    (asked_read c.args.system.now c.args.table.now c.args.table.now c.args.i c.args.k x asked.place asked.from asked.anew c.entry-entry.ensures c.requires.asked)

pub entry-entry-requires : goal.entry-entry-requires
entry-entry-requires c =
    let asked = c.args.asked.now in
    within_of (λ e. IsAsked c.args.system.now c.args.table.now (pair_of e) c.args.k e.label (atoms_from asked.place e.firsts.items) asked.from (replaced asked.anew e.children.items)) c.args.table.now c.args.i c.requires.asked

pub add_above-requires : goal.add_above-requires
add_above-requires c = c.in_ok-add_own.ensures.rises (subst IsStrictlyIncreasing (sym c.clear.ensures) (λ k within. absurd (omega arith)))

pub add_children-requires-clause-rises : goal.add_children-requires-clause-rises
add_children-requires-clause-rises c =
    subst IsStrictlyIncreasing (sym c.in_ok-add_above.ensures)
    (IsStrictlyIncreasing-union_of c.add_own.new.next (given_above c.args.system.now c.args.k c.entry-entry.result.now.parent)
    (c.in_ok-add_own.ensures.rises (subst IsStrictlyIncreasing (sym c.clear.ensures) (λ k within. absurd (omega arith)))))

pub returns : goal.returns
returns c =
    let asked = c.args.asked.now in
    let x = c.entry-entry.result.now in
    gained_at c.args.system.now c.args.table.now c.args.i c.args.k x (atoms_from asked.place x.firsts.items) asked.from asked.anew c.entry-entry.ensures
    (asked_read c.args.system.now c.args.table.now c.args.table.now c.args.i c.args.k x asked.place asked.from asked.anew c.entry-entry.ensures c.requires.asked) c.entries.result.now c.asked_places-children.result.now
    c.clear.new.self c.add_own.new.next c.add_above.new.next c.add_children.new.next c.requires.known c.entries.ensures (c.asked_places-children.ensures ∙ ap (λ (z : List ℕ). replaced asked.anew z) c.deref.ensures.value) c.clear.ensures
    c.in_ok-add_own.ensures c.in_ok-add_above.ensures c.in_ok-add_children.ensures

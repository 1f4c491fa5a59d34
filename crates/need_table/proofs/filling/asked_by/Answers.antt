use Rattle.std.proofs.Common.{◌≡◌, List, drop, slice_get, Err, sym, ap, ◌∙◌, subst, rules}
use Rattle.simple_core.specs.declared.summaries.GainFault.TheVariants.{Spent}
use Rattle.simple_core.specs.declared.summaries.First.{First}
use Rattle.need_table.specs.Tables.{IsPlaceFrom}
use Rattle.need_table.proofs.ChildLemmas.{asks_needed}
use Rattle.need_table.proofs.GainLemmas.{order_at, own_at, same_at, anew_at}
use Rattle.need_table.proofs.SeenLemmas.{before_at, label_rises}
use Rattle.need_table.proofs.filling.asked_by.Goals as goal

pub place_from-place-requires : goal.place_from-place-requires
place_from-place-requires c = order_at c.args.system.now c.args.pairs c.args.table.now c.args.i c.args.k c.entry-entry.result.now c.deref.result.now c.requires.table c.requires.rounds c.entry-entry.ensures c.deref.ensures.value

pub seen_by-requires-clause-rises : goal.seen_by-requires-clause-rises
seen_by-requires-clause-rises c = label_rises c.args.system.now c.args.pairs c.args.table.now c.args.i c.args.k c.entry-entry.result.now c.requires.table c.requires.rounds c.entry-entry.ensures

pub seen_by-requires-clause-before : goal.seen_by-requires-clause-before
seen_by-requires-clause-before c = λ later j child there at.
    let x = c.entry-entry.result.now in
    before_at c.args.system.now c.args.pairs c.args.table.now c.args.i c.args.k c.place_from-place.result x c.requires.table c.requires.rounds c.entry-entry.ensures
    (subst (λ (z : List First). IsPlaceFrom z c.args.k c.place_from-place.result) c.deref.ensures.value c.place_from-place.ensures) later j child there (ap (λ z. slice_get z j) (sym c.entries.ensures) ∙ at)

pub returns-in_err-children-clause-spent : goal.returns-in_err-children-clause-spent
returns-in_err-children-clause-spent c = λ is qs all.
    let own = own_at c.args.system.now c.args.pairs c.args.table.now c.args.i c.args.k c.entry-entry.result.now c.requires.table c.requires.rounds c.entry-entry.ensures c.in_ok-own.own c.in_ok-own.ensures in
    let spent : c.ask_all.result ≡ Err Spent = search rules in
    c.ask_all.ensures.spent spent qs all (asks_needed c.args.system.now qs c.args.table.now c.args.i c.args.k c.in_ok-own.own own all)

pub returns-then-not-asks_other-clause-asked : goal.returns-then-not-asks_other-clause-asked
returns-then-not-asks_other-clause-asked c =
    let x = c.entry-entry.result.now in
    same_at c.args.system.now c.args.pairs c.args.table.now c.args.i c.args.k x c.requires.table c.requires.rounds c.entry-entry.ensures
    c.place_from-place.result (subst (λ (z : List First). IsPlaceFrom z c.args.k c.place_from-place.result) c.deref.ensures.value c.place_from-place.ensures)
    c.behind.result.now (c.behind.ensures ∙ ap (drop c.place_from-place.result) c.deref-2.ensures.value)
    (c.asks_other.ensures.later c.if-not-asks_other.true) (c.asks_other.ensures.same c.if-not-asks_other.true)

pub returns-clause-asked : goal.returns-clause-asked
returns-clause-asked c =
    let x = c.entry-entry.result.now in
    anew_at c.args.system.now c.args.pairs c.args.table.now c.args.i c.args.k x c.requires.table c.requires.rounds c.entry-entry.ensures
    c.place_from-place.result (subst (λ (z : List First). IsPlaceFrom z c.args.k c.place_from-place.result) c.deref.ensures.value c.place_from-place.ensures)
    c.ask_all.new.table c.in_ok-own.own c.in_ok-children.children.items c.in_ok-own.ensures c.in_ok-children.ensures.heard c.in_ok-children.ensures.only

pub returns-clause-needed : goal.returns-clause-needed
returns-clause-needed c = λ qs all.
    let own = own_at c.args.system.now c.args.pairs c.args.table.now c.args.i c.args.k c.entry-entry.result.now c.requires.table c.requires.rounds c.entry-entry.ensures c.in_ok-own.own c.in_ok-own.ensures in
    c.in_ok-children.ensures.needed qs all (asks_needed c.args.system.now qs c.args.table.now c.args.i c.args.k c.in_ok-own.own own all)

use Rattle.std.proofs.Common.{◌∙◌, List, refl, sym, ap, subst, length, take, drop, arith}
use Rattle.std.specs.List.Sorted.{IsNonDecreasing}
use Rattle.pushdown_sym.specs.Starts.{StartsAt}
use Rattle.saturation.specs.HistoryMap.{Noted, IsBehind}
use Rattle.saturation.proofs.LogLemmas.{part_of, ends_before, place_behind}
use Rattle.saturation.proofs.histories.HistoryRow.of.Goals as goal

pub start_of-from-requires : goal.start_of-from-requires
start_of-from-requires c = subst IsNonDecreasing (sym c.deref.ensures.value) c.self.invariant.order

pub start_of-to-requires : goal.start_of-to-requires
start_of-to-requires c = subst IsNonDecreasing (sym c.deref-2.ensures.value) c.self.invariant.order

pub split_at-requires-2 : goal.split_at-requires-2
split_at-requires-2 c =
    let low = subst (λ n. StartsAt n c.deref.result.now c.start_of-from.result) c.atom.view_is c.start_of-from.ensures.start in
    let high = ends_before c.args.atom c.atom.inside.0 c.deref-2.result.now c.start_of-to.result c.atom.view_is c.start_of-to.ensures.start in
    let part = part_of c.args.atom c.self.inside.atoms.items c.deref.result.now c.deref-2.result.now c.self.inside.changes.items c.start_of-from.result c.start_of-to.result c.self.invariant
    c.deref.ensures.value c.deref-2.ensures.value low high c.start_of-from.ensures.within c.start_of-to.ensures.within in
    let front = ap length (c.split_at.ensures.front ∙ ap (take c.start_of-to.result) c.deref-3.ensures.value) in
    omega (arith, front, part.0)

pub returns-clause-part : goal.returns-clause-part
returns-clause-part c =
    let low = subst (λ n. StartsAt n c.deref.result.now c.start_of-from.result) c.atom.view_is c.start_of-from.ensures.start in
    let high = ends_before c.args.atom c.atom.inside.0 c.deref-2.result.now c.start_of-to.result c.atom.view_is c.start_of-to.ensures.start in
    let part = part_of c.args.atom c.self.inside.atoms.items c.deref.result.now c.deref-2.result.now c.self.inside.changes.items c.start_of-from.result c.start_of-to.result c.self.invariant
    c.deref.ensures.value c.deref-2.ensures.value low high c.start_of-from.ensures.within c.start_of-to.ensures.within in
    c.split_at-2.ensures.back
    ∙ ap (drop c.start_of-from.result) (c.split_at.ensures.front ∙ ap (take c.start_of-to.result) c.deref-3.ensures.value)
    ∙ part.1 ∙ rw (← c.self.view_is) refl

pub returns-clause-behind : goal.returns-clause-behind
returns-clause-behind c =
    let high = ends_before c.args.atom c.atom.inside.0 c.deref-2.result.now c.start_of-to.result c.atom.view_is c.start_of-to.ensures.start in
    subst (λ (row : List Noted). IsBehind c.args.atom row c.start_of-to.result) c.self.view_is
    (place_behind c.args.atom c.self.inside.atoms.items c.deref-2.result.now c.self.inside.changes.items c.start_of-to.result c.self.invariant c.deref-2.ensures.value high c.start_of-to.ensures.within)

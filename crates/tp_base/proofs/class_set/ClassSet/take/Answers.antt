use Rattle.std.proofs.Common.{sym, ◌∙◌, refl}
use Rattle.std.specs.List.Sorted.{IsStrictlyIncreasing}
use Rattle.std.proofs.lemmas.Bool.{false_from_ne_true}
use Rattle.tp_base.specs.Classes.{has_class}
use Rattle.tp_base.proofs.ClassLemmas.{has_class-Contains, Contains-has_class}
use Rattle.tp_base.proofs.LossLemmas.{IsStrictlyIncreasing-without_class, without_found, without_missing}
use Rattle.tp_base.proofs.Searches.{found, found_gap, not_in_gap}
use Rattle.tp_base.proofs.class_set.ClassSet.take.Goals as goal

pub invariant_of-self : goal.invariant_of-self
invariant_of-self c =
    let up : IsStrictlyIncreasing c.deref.result.now = rw c.deref.ensures.value c.self.invariant in
    rw (c.remove.ensures.items, ← c.deref.ensures.value, ← without_found c.deref.result.now c.args.atom up c.in-Ok.place c.in-Ok.ensures.position)
    (IsStrictlyIncreasing-without_class c.args.atom c.deref.result.now up)

pub returns-in-Ok-clause-taken : goal.returns-in-Ok-clause-taken
returns-in-Ok-clause-taken c =
    let up : IsStrictlyIncreasing c.deref.result.now = rw c.deref.ensures.value c.self.invariant in
    c.remove.ensures.items ∙ rw (← c.self.view_is, ← c.deref.ensures.value) (sym (without_found c.deref.result.now c.args.atom up c.in-Ok.place c.in-Ok.ensures.position))

pub returns-in-Ok-clause-test : goal.returns-in-Ok-clause-test
returns-in-Ok-clause-test c =
    let there = found c.deref.result.now c.args.atom (rw c.deref.ensures.value c.self.invariant) c.in-Ok.place c.in-Ok.ensures.position in
    rw (← c.self.view_is, ← c.deref.ensures.value, has_class-Contains c.args.atom c.deref.result.now there) refl

pub returns-in-Ok-clause-member : goal.returns-in-Ok-clause-member
returns-in-Ok-clause-member c =
    let there = found c.deref.result.now c.args.atom (rw c.deref.ensures.value c.self.invariant) c.in-Ok.place c.in-Ok.ensures.position in
    rw (← c.self.view_is, ← c.deref.ensures.value) (λ _. there, λ _. refl)

pub returns-in-Err-clause-taken : goal.returns-in-Err-clause-taken
returns-in-Err-clause-taken c =
    let up : IsStrictlyIncreasing c.deref.result.now = rw c.deref.ensures.value c.self.invariant in
    rw (← c.self.view_is, ← c.deref.ensures.value) (sym (without_missing c.deref.result.now c.args.atom up c.in-Err.field-0 c.in-Err.ensures.position))

pub returns-in-Err-clause-test : goal.returns-in-Err-clause-test
returns-in-Err-clause-test c =
    let gap = found_gap c.deref.result.now c.args.atom (rw c.deref.ensures.value c.self.invariant) c.in-Err.field-0 c.in-Err.ensures.position in
    let none = false_from_ne_true (has_class c.args.atom c.deref.result.now)
    (λ there. not_in_gap c.deref.result.now c.args.atom c.in-Err.field-0 gap (Contains-has_class c.args.atom c.deref.result.now there)) in
    rw (← c.self.view_is, ← c.deref.ensures.value, none) refl

pub returns-in-Err-clause-member : goal.returns-in-Err-clause-member
returns-in-Err-clause-member c =
    let gap = found_gap c.deref.result.now c.args.atom (rw c.deref.ensures.value c.self.invariant) c.in-Err.field-0 c.in-Err.ensures.position in
    rw (← c.self.view_is, ← c.deref.ensures.value) (λ no. cc, λ there. absurd (not_in_gap c.deref.result.now c.args.atom c.in-Err.field-0 gap there))

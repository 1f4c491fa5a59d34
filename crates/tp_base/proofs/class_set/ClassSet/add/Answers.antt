use Rattle.std.proofs.Common.{sym, ◌∙◌, refl}
use Rattle.std.proofs.lemmas.Bool.{false_from_ne_true}
use Rattle.tp_base.specs.Classes.{has_class}
use Rattle.tp_base.proofs.ClassLemmas.{has_class-Contains, Contains-has_class, with_class-member, IsStrictlyIncreasing-with_class}
use Rattle.tp_base.proofs.Searches.{found, found_gap, not_in_gap, insert_gap}
use Rattle.tp_base.proofs.class_set.ClassSet.add.Goals as goal

pub returns-in-Ok-clause-ok : goal.returns-in-Ok-clause-ok
returns-in-Ok-clause-ok c =
    let there = found c.deref.result.now c.args.atom (rw c.deref.ensures.value c.self.invariant) c.in-Ok.field-0 c.in-Ok.ensures.position in
    rw (← c.self.view_is, ← c.deref.ensures.value) (sym (with_class-member c.args.atom c.deref.result.now (rw c.deref.ensures.value c.self.invariant) there))

pub returns-in-Ok-clause-test : goal.returns-in-Ok-clause-test
returns-in-Ok-clause-test c =
    let there = found c.deref.result.now c.args.atom (rw c.deref.ensures.value c.self.invariant) c.in-Ok.field-0 c.in-Ok.ensures.position in
    rw (← c.self.view_is, ← c.deref.ensures.value, has_class-Contains c.args.atom c.deref.result.now there) refl

pub invariant_of-self-in-Err : goal.invariant_of-self-in-Err
invariant_of-self-in-Err c =
    let gap = found_gap c.deref.result.now c.args.atom (rw c.deref.ensures.value c.self.invariant) c.in-Err.place c.in-Err.ensures.position in
    rw (c.in_ok-insert-in-Err.ensures.items, ← c.deref.ensures.value, insert_gap c.args.atom c.deref.result.now c.in-Err.place gap)
    (IsStrictlyIncreasing-with_class c.args.atom c.deref.result.now (rw c.deref.ensures.value c.self.invariant))

pub returns-in_ok-insert-in-Err-clause-ok : goal.returns-in_ok-insert-in-Err-clause-ok
returns-in_ok-insert-in-Err-clause-ok c =
    let gap = found_gap c.deref.result.now c.args.atom (rw c.deref.ensures.value c.self.invariant) c.in-Err.place c.in-Err.ensures.position in
    c.in_ok-insert-in-Err.ensures.items ∙ rw (← c.self.view_is, ← c.deref.ensures.value) (insert_gap c.args.atom c.deref.result.now c.in-Err.place gap)

pub returns-in_ok-insert-in-Err-clause-grew : goal.returns-in_ok-insert-in-Err-clause-grew
returns-in_ok-insert-in-Err-clause-grew c =
    let gap = found_gap c.deref.result.now c.args.atom (rw c.deref.ensures.value c.self.invariant) c.in-Err.place c.in-Err.ensures.position in
    (λ _. rw (← c.self.view_is, ← c.deref.ensures.value) (not_in_gap c.deref.result.now c.args.atom c.in-Err.place gap), λ _. refl)

pub returns-in_ok-insert-in-Err-clause-test : goal.returns-in_ok-insert-in-Err-clause-test
returns-in_ok-insert-in-Err-clause-test c =
    let gap = found_gap c.deref.result.now c.args.atom (rw c.deref.ensures.value c.self.invariant) c.in-Err.place c.in-Err.ensures.position in
    let none = false_from_ne_true (has_class c.args.atom c.deref.result.now)
    (λ there. not_in_gap c.deref.result.now c.args.atom c.in-Err.place gap (Contains-has_class c.args.atom c.deref.result.now there)) in
    rw (← c.self.view_is, ← c.deref.ensures.value, none) refl

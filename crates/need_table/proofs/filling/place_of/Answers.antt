use Rattle.std.proofs.Common.{◌≡◌, ◌<◌, map, length, slice_get, IsSomeAnd, Contains, refl, subst, arith}
use Rattle.need_table.specs.Tables.{pair_of}
use Rattle.need_table.proofs.FillLemmas.{IsPushed, pushed, full, appended_none}
use Rattle.need_table.proofs.filling.place_of.Goals.{In-None, In_ok-push-in-None}
use Rattle.need_table.proofs.filling.place_of.Goals as goal

absent : (c : In-None) → Contains (map pair_of c.args.table.now) (c.args.kind, c.args.parent.now) → ⊥
absent c = c.in-None.ensures.none.0 refl

stands : (c : In_ok-push-in-None) → IsPushed c.args.system.now c.args.pairs c.args.table.now c.push.new.self (c.args.kind, c.args.parent.now)
stands c =
    let room : length c.args.table.now < c.args.pairs = omega (arith, c.if-place-pairs.false, c.len-place.ensures) in
    pushed c.args.system.now c.args.pairs c.args.table.now c.push.new.self (c.args.kind, c.args.parent.now) c.in_ok-entry-in-None.entry
    c.requires.table room (c.in-None.ensures.none.0 refl)
    c.in_ok-entry-in-None.ensures.pair c.in_ok-entry-in-None.ensures.rounds c.in_ok-entry-in-None.ensures.children c.in_ok-entry-in-None.ensures.firsts c.in_ok-entry-in-None.ensures.label c.in_ok-push-in-None.ensures.ok

pub returns-then-place-pairs-clause-spent : goal.returns-then-place-pairs-clause-spent
returns-then-place-pairs-clause-spent c = λ is qs needed one.
    full c.args.system.now c.args.pairs c.args.table.now (c.args.kind, c.args.parent.now) c.requires.table
    (omega (arith, c.if-place-pairs.true, c.len-place.ensures)) (absent (goal.at.returns-then-place-pairs-clause-spent c).In-None) qs needed one

pub returns-in_ok-push-in-None-clause-table : goal.returns-in_ok-push-in-None-clause-table
returns-in_ok-push-in-None-clause-table c = (stands (goal.at.returns-in_ok-push-in-None-clause-table c).In_ok-push-in-None).table

pub returns-in_ok-push-in-None-clause-more : goal.returns-in_ok-push-in-None-clause-more
returns-in_ok-push-in-None-clause-more c = (stands (goal.at.returns-in_ok-push-in-None-clause-more c).In_ok-push-in-None).more

pub returns-in_ok-push-in-None-clause-place : goal.returns-in_ok-push-in-None-clause-place
returns-in_ok-push-in-None-clause-place c =
    let place : length c.args.table.now ≡ c.len-place.result = omega (arith, c.len-place.ensures) in
    subst (λ n. IsSomeAnd (slice_get c.push.new.self n) (λ e. pair_of e ≡ (c.args.kind, c.args.parent.now))) place (stands (goal.at.returns-in_ok-push-in-None-clause-place c).In_ok-push-in-None).place

pub returns-in_ok-push-in-None-clause-needed : goal.returns-in_ok-push-in-None-clause-needed
returns-in_ok-push-in-None-clause-needed c = (stands (goal.at.returns-in_ok-push-in-None-clause-needed c).In_ok-push-in-None).needed

pub returns-in_ok-push-in-None-clause-appended : goal.returns-in_ok-push-in-None-clause-appended
returns-in_ok-push-in-None-clause-appended c = (stands (goal.at.returns-in_ok-push-in-None-clause-appended c).In_ok-push-in-None).appended

pub returns-in-Some-clause-appended : goal.returns-in-Some-clause-appended
returns-in-Some-clause-appended c = appended_none c.args.table.now

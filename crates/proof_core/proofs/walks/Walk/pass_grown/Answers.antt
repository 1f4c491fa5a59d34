use Rattle.std.proofs.Common.{◌≡◌, Some, None, ◌++◌, ◌∷◌, [], sym, ap, ◌∙◌}
use Rattle.std.proofs.lemmas.Result.{on_ok_weaker}
use Rattle.proof_core.specs.Trails.{progress_of}
use Rattle.proof_core.proofs.PassLemmas.{passed_plain}
use Rattle.proof_core.proofs.WalkLemmas.{goes_none, goes_down}
use Rattle.proof_core.proofs.WorkLemmas.{less_stay, less_down}
use Rattle.proof_core.proofs.WorldLemmas.{on_both, on_three, few_spawned}
use Rattle.std.specs.Option.{option_copied}
use Rattle.proof_core.specs.declared.walks.Walk.{Walk}
use Rattle.proof_core.specs.Passes.{named_for}
use Rattle.proof_core.specs.Trails.{number_for}
use Rattle.proof_check.specs.Unfolding.{spawned}
use Rattle.proof_core.proofs.walks.Walk.pass_grown.Goals as goal

pub bring-requires-clause-number : goal.bring-requires-clause-number
bring-requires-clause-number c = (few_spawned c.args.world.now.system.now c.args.world.now.siblings c.args.grown.spawn c.in-Some.kind.now (sym c.spawned.ensures ∙ ap option_copied c.in-Some.is)).0

pub bring-requires-clause-siblings : goal.bring-requires-clause-siblings
bring-requires-clause-siblings c = (few_spawned c.args.world.now.system.now c.args.world.now.siblings c.args.grown.spawn c.in-Some.kind.now (sym c.spawned.ensures ∙ ap option_copied c.in-Some.is)).1

pub returns-in_ok-number-in-Some-clause-on : goal.returns-in_ok-number-in-Some-clause-on
returns-in_ok-number-in-Some-clause-on c =
    let s = c.args.world.now.system.now in
    let es = c.args.world.now.entries.now in
    let old = c.args.self.now in
    let new : Walk = c.enter.new.self in
    let before = progress_of c.args.trail.now in
    let after = progress_of c.bring.new.self in
    let kind = c.in-Some.kind.now in
    let is_kind : spawned s c.args.grown.spawn ≡ Some kind = sym c.spawned.ensures ∙ ap option_copied c.in-Some.is in
    on_three c.enter.result c.enter.ensures.at c.enter.ensures.level c.enter.ensures.stack (λ at level stack.
    goes_down s es old new c.args.item c.args.grown.link c.args.grown.spawn c.args.grown.entry c.child_for-child.result c.in_ok-number-in-Some.number kind before after c.requires.next c.requires.reason is_kind
    (c.child_for-child.ensures ∙ ap (λ a. named_for a old.level.here) c.needed_by.ensures) (c.in_ok-number-in-Some.ensures.number ∙ ap (λ b. number_for kind b old.at before) c.base_of-base.ensures.base) c.in_ok-number-in-Some.ensures.trail
    at level (stack ∙ ap (λ a. old.stack.items ++ record { level = old.level; atom = c.args.item.atom; from = a; child = c.in_ok-number-in-Some.number } ∷ []) c.from_of-from.ensures))

pub returns-in_ok-number-in-Some-clause-work : goal.returns-in_ok-number-in-Some-clause-work
returns-in_ok-number-in-Some-clause-work c =
    on_both c.enter.result c.enter.ensures.level c.enter.ensures.stack (λ level stack.
    less_down c.args.world.now.entries.now c.args.self.now c.enter.new.self c.args.item c.args.grown.link c.args.grown.spawn c.args.grown.entry c.args.item.atom c.from_of-from.result c.in_ok-number-in-Some.number c.requires.next c.requires.reason level stack)

pub returns-in-None-clause-on : goal.returns-in-None-clause-on
returns-in-None-clause-on c =
    let s = c.args.world.now.system.now in
    let es = c.args.world.now.entries.now in
    let old = c.args.self.now in
    let none : spawned s c.args.grown.spawn ≡ None = sym c.spawned.ensures ∙ ap option_copied c.in-None.is in
    on_ok_weaker c.push.result (λ is. goes_none s es old c.args.item c.args.grown.link c.args.grown.spawn c.args.grown.entry c.push.new.self c.plain.result (progress_of c.args.trail.now) c.requires.next is c.requires.reason none
    (passed_plain old.at c.plain.result c.args.item.atom c.plain.ensures.atom c.plain.ensures.child c.plain.ensures.way)) c.push.ensures

pub returns-in-None-clause-work : goal.returns-in-None-clause-work
returns-in-None-clause-work c = on_ok_weaker c.push.result (λ is. less_stay c.args.world.now.entries.now c.args.self.now c.args.item c.push.new.self c.plain.result c.requires.next is) c.push.ensures

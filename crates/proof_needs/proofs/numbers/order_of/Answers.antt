use Rattle.std.proofs.Common.{◌++◌, reverse, map, ap, ◌∙◌}
use Rattle.proof_needs.specs.declared.numbers.Task.TheVariants.{Visit}
use Rattle.proof_needs.specs.Numbers.{Walk}
use Rattle.proof_needs.proofs.NumberLemmas.{started, walking_below, walking_next, walking_smaller, ended}
use Rattle.proof_needs.proofs.numbers.order_of.Goals as goal

pub tasks-init : goal.tasks-init
tasks-init c =
    let names = c.args.names.now in
    let roots = c.args.roots.now in
    let is = c.in_ok-push_visits.ensures ∙ ap (λ l. l ++ reverse (map Visit roots)) c.new-tasks.ensures.items in
    started names roots c.push_visits.new.tasks.items c.new-entered.result.keys c.new-order.result.keys c.requires.roots is c.new-entered.ensures.empty c.new-order.ensures.empty

pub take-requires : goal.take-requires
take-requires c = walking_below c.args.names.now c.args.roots.now c.tasks.tasks.items c.pop.new.self.items c.in-Some.task (record { entered = c.tasks.entered.keys; order = c.tasks.order.keys }) c.tasks.invariant c.in-Some.ensures.items

pub tasks-smaller : goal.tasks-smaller
tasks-smaller c =
    let w : Walk = record { entered = c.tasks.entered.keys; order = c.tasks.order.keys } in
    let w' : Walk = record { entered = c.take.new.entered.keys; order = c.take.new.order.keys } in
    let below = walking_below c.args.names.now c.args.roots.now c.tasks.tasks.items c.pop.new.self.items c.in-Some.task w c.tasks.invariant c.in-Some.ensures.items in
    walking_smaller c.args.names.now c.tasks.tasks.items c.pop.new.self.items c.take.new.tasks.items c.in-Some.task w w' below c.in-Some.ensures.items c.in_ok-take.ensures

pub tasks-preserved : goal.tasks-preserved
tasks-preserved c =
    let w : Walk = record { entered = c.tasks.entered.keys; order = c.tasks.order.keys } in
    let w' : Walk = record { entered = c.take.new.entered.keys; order = c.take.new.order.keys } in
    walking_next c.args.names.now c.args.roots.now c.tasks.tasks.items c.pop.new.self.items c.take.new.tasks.items c.in-Some.task w w' c.requires.names c.tasks.invariant c.in-Some.ensures.items c.in_ok-take.ensures

pub returns : goal.returns
returns c =
    let w : Walk = record { entered = c.tasks.entered.keys; order = c.tasks.order.keys } in
    ended c.args.names.now c.args.roots.now c.tasks.tasks.items c.pop.new.self.items c.tasks.tasks.len w c.tasks.invariant c.in_default.ensures.items c.in_default.ensures.rest c.in_default.ensures.cases.0

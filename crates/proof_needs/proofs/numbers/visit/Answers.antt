use Rattle.std.proofs.Common.{◌++◌, map, reverse, ◌∙◌}
use Rattle.proof_needs.specs.declared.numbers.Task.TheVariants.{Visit}
use Rattle.proof_needs.specs.Numbers.{names_at}
use Rattle.proof_needs.proofs.NumberLemmas.{visited_known, visited_new}
use Rattle.proof_needs.proofs.numbers.visit.Goals as goal

pub returns-then-not-fresh : goal.returns-then-not-fresh
returns-then-not-fresh c = λ order.
    visited_known (names_at c.args.names.now) c.args.triple c.args.tasks.now.items c.args.entered.now.keys c.insert.new.self.keys order c.in_ok-fresh.fresh c.in_ok-fresh.ensures.added c.if-not-fresh.true c.in_ok-fresh.ensures.keys

pub returns : goal.returns
returns c = λ order.
    let grown = c.in_ok-push_visits.ensures ∙ (λ k. (c.in_ok-push.ensures.items k) ++ reverse (map Visit (c.deref.ensures.value k))) in
    visited_new c.args.names.now c.args.triple c.index-names-triple.result c.args.tasks.now.items c.push_visits.new.tasks.items c.args.entered.now.keys c.insert.new.self.keys order c.in_ok-fresh.fresh
    c.in_ok-fresh.ensures.added c.if-not-fresh.false c.in_ok-fresh.ensures.keys c.requires c.index-names-triple.is grown

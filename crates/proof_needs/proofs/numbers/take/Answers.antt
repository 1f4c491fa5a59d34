use Rattle.std.proofs.Common.{sym, subst}
use Rattle.proof_needs.specs.declared.numbers.Task.{Task}
use Rattle.proof_needs.specs.Numbers.{Walk, names_at, IsTaken}
use Rattle.proof_needs.proofs.numbers.take.Goals as goal

pub returns-in_ok-visit-in-Visit : goal.returns-in_ok-visit-in-Visit
returns-in_ok-visit-in-Visit c =
    let old : Walk = record { entered = c.args.entered.now.keys; order = c.args.order.now.keys } in
    let now : Walk = record { entered = c.visit.new.entered.keys; order = c.args.order.now.keys } in
    let visited = c.in_ok-visit-in-Visit.ensures c.args.order.now.keys in
    subst (λ (t : Task). IsTaken (names_at c.args.names.now) t c.args.tasks.now.items c.visit.new.tasks.items old now) (sym c.in-Visit.is) visited

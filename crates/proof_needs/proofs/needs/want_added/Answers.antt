use Rattle.std.proofs.Common.{refl}
use Rattle.proof_needs.specs.declared.needs.Tie.{Tie}
use Rattle.proof_needs.proofs.TieLemmas.{used_is, used_kept, used_first, used_second, used_third, on_err}
use Rattle.proof_needs.proofs.needs.want_added.Goals as goal

pub returns-clause-ok : goal.returns-clause-ok
returns-clause-ok c = λ tie at.
    let was = c.index_mut-tie.result.now in
    used_is c.args.ties.now.items c.args.n c.args.from c.args.spawner.atom c.args.spawner.spot tie was (record { above = was.above; users = c.push.new.self }) c.args.wants.now.keys c.want.new.wants.keys c.want-2.new.wants.keys c.want_each.new.wants.keys
    at c.index_mut-tie.ensures.value refl c.in_ok-push.ensures.items c.in_ok-want.ensures.ok c.in_ok-want-2.ensures.ok c.in_ok-want_each.ensures.ok

pub returns-in_err-push-clause-err : goal.returns-in_err-push-clause-err
returns-in_err-push-clause-err c = on_err _ c.from_residual.result (λ tie at.
    let was = c.index_mut-tie.result.now in
    let now : Tie = record { above = was.above; users = c.push.new.self } in
    used_kept c.args.ties.now.items c.args.n c.args.from tie was now at c.index_mut-tie.ensures.value c.args.wants.now.keys c.args.wants.now.keys c.args.spawner.atom c.args.spawner.spot refl c.in_err-push.ensures.items refl)

pub returns-in_err-want-clause-err : goal.returns-in_err-want-clause-err
returns-in_err-want-clause-err c = on_err _ c.from_residual-in_err-want.result (λ tie at.
    let was = c.index_mut-tie.result.now in
    let now : Tie = record { above = was.above; users = c.push.new.self } in
    used_first c.args.ties.now.items c.args.n c.args.from tie was now at c.index_mut-tie.ensures.value c.args.wants.now.keys c.want.new.wants.keys c.args.spawner.atom c.args.spawner.spot refl c.in_ok-push.ensures.items c.in_err-want.ensures.err)

pub returns-in_err-want-2-clause-err : goal.returns-in_err-want-2-clause-err
returns-in_err-want-2-clause-err c = on_err _ c.from_residual-in_err-want-2.result (λ tie at.
    let was = c.index_mut-tie.result.now in
    let now : Tie = record { above = was.above; users = c.push.new.self } in
    used_second c.args.ties.now.items c.args.n c.args.from tie was now at c.index_mut-tie.ensures.value c.args.wants.now.keys c.want-2.new.wants.keys c.args.spawner.atom c.args.spawner.spot refl c.want.new.wants.keys c.in_ok-push.ensures.items
    c.in_ok-want.ensures.ok c.in_err-want-2.ensures.err)

pub returns-in_err-want_each-clause-err : goal.returns-in_err-want_each-clause-err
returns-in_err-want_each-clause-err c = on_err _ c.from_residual-in_err-want_each.result (λ tie at.
    let was = c.index_mut-tie.result.now in
    let now : Tie = record { above = was.above; users = c.push.new.self } in
    used_third c.args.ties.now.items c.args.n c.args.from tie was now at c.index_mut-tie.ensures.value c.args.wants.now.keys c.want_each.new.wants.keys c.args.spawner.atom c.args.spawner.spot refl c.want.new.wants.keys c.want-2.new.wants.keys
    c.in_ok-push.ensures.items c.in_ok-want.ensures.ok c.in_ok-want-2.ensures.ok c.in_err-want_each.ensures.err)

use Rattle.std.proofs.Common.{refl}
use Rattle.proof_needs.specs.declared.needs.Tie.{Tie}
use Rattle.proof_needs.proofs.TieLemmas.{above_is, above_kept, above_some, on_err}
use Rattle.proof_needs.proofs.needs.want_above.Goals as goal

pub returns-clause-ok : goal.returns-clause-ok
returns-clause-ok c = λ tie at.
    let was = c.index_mut-tie.result.now in
    above_is c.args.ties.now.items c.args.n c.args.from tie was (record { above = c.add.new.self; users = was.users }) c.deref.result.now c.args.wants.now.keys c.want_at_each.new.wants.keys
    at c.index_mut-tie.ensures.value c.in_ok-add.ensures.ok refl c.deref.ensures.value c.in_ok-want_at_each.ensures.ok

pub returns-in_err-add-clause-err : goal.returns-in_err-add-clause-err
returns-in_err-add-clause-err c = on_err _ c.from_residual.result (λ tie at.
    let was = c.index_mut-tie.result.now in
    let now : Tie = record { above = c.add.new.self; users = was.users } in
    above_kept c.args.ties.now.items c.args.n c.args.from tie was now at c.index_mut-tie.ensures.value c.args.wants.now.keys c.args.wants.now.keys c.in_err-add.ensures.err refl refl)

pub returns-in_err-want_at_each-clause-err : goal.returns-in_err-want_at_each-clause-err
returns-in_err-want_at_each-clause-err c = on_err _ c.from_residual-in_err-want_at_each.result (λ tie at.
    let was = c.index_mut-tie.result.now in
    let now : Tie = record { above = c.add.new.self; users = was.users } in
    above_some c.args.ties.now.items c.args.n c.args.from tie was now at c.index_mut-tie.ensures.value c.args.wants.now.keys c.want_at_each.new.wants.keys c.deref.result.now
    c.in_ok-add.ensures.ok refl c.deref.ensures.value c.in_err-want_at_each.ensures.err)

use Rattle.std.proofs.Common.{◌≡◌, Some, slice_get, sym, subst}
use Rattle.proof_needs.specs.Following.{IsUsed, IsUsedSome}
use Rattle.proof_needs.proofs.TieLemmas.{on_ok, err_then}
use Rattle.proof_needs.proofs.needs.follow_spawn.Goals as goal

pub returns-clause-follows : goal.returns-clause-follows
returns-clause-follows c =
    let old = c.args.needs.now in
    let new = c.want_added.new in
    on_ok c.want_added.result (λ used n tie is at.
    let same : c.in-Some.n ≡ n = let known = c.in-Some.is in cc in
    subst (λ z. IsUsed z c.args.from c.args.spawner c.args.spot tie old.ties.items new.ties.items old.wants.keys new.wants.keys) same (used tie (subst (λ z. slice_get old.ties.items z ≡ Some tie) (sym same) at))) c.want_added.ensures.ok

pub returns-clause-err : goal.returns-clause-err
returns-clause-err c =
    let old = c.args.needs.now in
    let new = c.want_added.new in
    err_then c.want_added.result (λ used n tie is at.
    let same : c.in-Some.n ≡ n = let known = c.in-Some.is in cc in
    subst (λ z. IsUsedSome z c.args.from c.args.spawner c.args.spot tie old.ties.items new.ties.items old.wants.keys new.wants.keys) same (used tie (subst (λ z. slice_get old.ties.items z ≡ Some tie) (sym same) at))) c.want_added.ensures.err

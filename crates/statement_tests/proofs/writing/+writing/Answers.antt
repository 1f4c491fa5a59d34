use Rattle.std.proofs.Common.{◌≤◌, arith, subst, sym}
use Rattle.guard_sem.specs.Guards.{guards_of}
use Rattle.guard_sem.specs.Sizes.{size_of, sizes_of}
use Rattle.guard_sem.proofs.Sizes.{item_le}
use Rattle.statement_tests.proofs.writing.+writing.Goals as goal

pub put_all-put_guard-requires : goal.put_all-put_guard-requires
put_all-put_guard-requires t c =
    let le : size_of c.g-item.result ≤ sizes_of (guards_of c.args.guards.now) =
    subst (λ z. size_of z ≤ sizes_of (guards_of c.args.guards.now)) (sym c.g-item.is) (item_le c.args.guards.now c.guards.g-index c.g-item.result c.guards-test.true) in
    (omega (arith, le), tt)

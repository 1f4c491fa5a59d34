use Rattle.std.proofs.Common.{◌+◌, ◌*◌}
use Rattle.guard_sem.specs.Guards.{guards_of}
use Rattle.guard_sem.specs.Sizes.{size_of, sizes_of}
use Rattle.statement_tests.proofs.writing.+writing.Given as goal

abbrev pub decreases-put_guard : goal.decreases-put_guard
decreases-put_guard l = 2 * size_of l.g.now

abbrev pub decreases-put_inner : goal.decreases-put_inner
decreases-put_inner l = 2 * size_of l.g.now + 1

abbrev pub decreases-put_all : goal.decreases-put_all
decreases-put_all l = 2 * sizes_of (guards_of l.guards.now) + 1

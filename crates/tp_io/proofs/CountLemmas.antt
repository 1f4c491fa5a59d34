-- Counts that stop at the greatest `u64`.
use Rattle.std.proofs.Common.{ℕ, arith}
use Rattle.tp_io.specs.Counts.{next_count}
use Rattle.tp_io.specs.Sinks.{Rose}

-- one more fault makes the count rise
pub rose_next : (n : ℕ) → Rose n (next_count n)
rose_next n = grind arith

-- Where numbers begin in a sorted list.
use Rattle.std.specs.Prelude.{◌≡◌, ℕ, true, false, nat_lt, List}
use Rattle.std.specs.List.Sorted.{IsPartitionPoint}

-- those below a number end at a place
abbrev pub StartsAt : ℕ → List ℕ → ℕ → Type 0
StartsAt n numbers from = IsPartitionPoint (λ m. nat_lt m n ≡ true) (λ m. nat_lt m n ≡ false) numbers from

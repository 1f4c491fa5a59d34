-- The hash of a pair of a kind and a label.
use Rattle.std.specs.Prelude.{ℕ, ◌*◌, ◌%◌, ◌^◌, List, fold, bit_xor}

-- one number more, by the prime of the 64-bit FNV hash
abbrev pub hash_with : ℕ → ℕ → ℕ
hash_with hash number = bit_xor ((hash * 1099511628211) % 2 ^ 64) number

abbrev pub hash_of : ℕ → List ℕ → ℕ
hash_of kind label = fold hash_with kind label

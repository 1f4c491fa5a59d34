-- What is told of some calls by the one that comes next.
--     and_standing     how many stand
--     has_parents      whether one is of `parents`
use Rattle.std.specs.Prelude.{ℕ, ◌+◌, ◌-◌, ◌||◌, Bool, true, false, List, [], ◌∷◌}
use Rattle.jq_stmts.specs.Statements.{Call, parents, back}

-- `back` takes the last one back, if there is one
abbrev pub and_standing : ℕ → Call → ℕ
and_standing n back = n - 1
and_standing n c = n + 1

abbrev pub is_parents : Call → Bool
is_parents (parents cs) = true
is_parents c = false

-- also one that was taken back
abbrev pub has_parents : List Call → Bool
has_parents [] = false
has_parents (c ∷ calls) = is_parents c || has_parents calls

-- Items that were passed at one node.
--     seen v here        the items at the node v, as the unfolding sees them
use Rattle.std.specs.Prelude.{ℕ, ◌==◌, List, [], ◌++◌, map, find, reverse, option_map, option_and_then, unwrap_or}
use Rattle.proof_core.specs.declared.passes.Pass.{Pass}
use Rattle.proof_check.specs.Unfolding.{Passed}

abbrev pub passed_of : List ℕ → Pass → Passed
passed_of v p = record { atom = p.atom; child = p.child; end = v ++ reverse p.way.items }

abbrev pub seen : List ℕ → List Pass → List Passed
seen v here = map (passed_of v) here

-- the way of the first item with the atom, and the child that this item names
abbrev pub way_for : ℕ → List Pass → List ℕ
way_for a here = unwrap_or (option_map (λ (p : Pass). p.way.items) (find (λ p. p.atom == a) here)) []

abbrev pub named_for : ℕ → List Pass → ℕ
named_for a here = unwrap_or (option_and_then (λ (p : Pass). p.child) (find (λ p. p.atom == a) here)) 0

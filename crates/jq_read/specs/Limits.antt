-- What the statements of a script stay within.
--     AreWithin    at most so many statements, calls of each, and nodes of all markup
use Rattle.std.specs.Prelude.{ℕ, ◌≤◌, List, [], ◌∷◌, length, map, sum}
use Rattle.std.specs.List.{AllByRecursion, sum_by}
use Rattle.tree_sem.specs.Trees.{LabelTree}
use Rattle.tree_sem.specs.declared.actions.Action.{Action}
use Rattle.tree_sem.specs.declared.actions.Action.TheVariants.{Classes, Inside, Beside}
use Rattle.jq_stmts.specs.Statements.{Chain, Statement}
use Rattle.jq_words.specs.declared.faults.TheConstants.{MOST_STATEMENTS, MOST_CALLS, MOST_FOREST_NODES}
use Rattle.jq_parts.specs.Markup.{nodes_in}

-- the trees that an action adds
abbrev pub trees_added : Action → List LabelTree
trees_added (Classes classes) = []
trees_added (Inside forest) = forest.tops
trees_added (Beside forest) = forest.tops

-- how many nodes some statements add
abbrev pub nodes_added : List Statement → ℕ
nodes_added ss = sum_by (λ s. nodes_in (trees_added s.action)) ss

-- how many calls some chains have together
abbrev pub calls_of_chains : List Chain → ℕ
calls_of_chains chains = sum (map (λ c. length c.calls) chains)

abbrev pub calls_of : Statement → ℕ
calls_of s = calls_of_chains (s.chain ∷ s.handlers)

pub record AreWithin (ss : List Statement) : Type 0 where
  pub few : length ss ≤ MOST_STATEMENTS
  pub short : AllByRecursion (λ s. calls_of s ≤ MOST_CALLS) ss
  pub small : nodes_added ss ≤ MOST_FOREST_NODES

-- Laws: a rule and its statement select the same nodes and make the same steps.
--     HoldsWhereSelected t s     the guard of s holds exactly where s selects
--     AsRules t stmts u          legal steps of the rules make u of t
--     AsStatements t stmts u     legal steps of the statements do
--     AreAlike t stmts           what legal steps of the one kind make of t, legal steps of the other kind make of it too
use Rattle.std.specs.Prelude.{◌≡◌, ◌↔◌, ℕ, List}
use Rattle.tree_sem.specs.declared.actions.Step.{Step}
use Rattle.tree_sem.specs.Trees.{LabelTree}
use Rattle.jq_sem.specs.Statements.{Selected}
use Rattle.jq_stmts.specs.Statements.{Statement}
use Rattle.jq_sem.specs.Reachability as script
use Rattle.guard_sem.specs.Holding.{Holds}
use Rattle.guard_sem.specs.Rules.{RuleStep, end_of, AreLegal}
use Rattle.rule_translate.specs.Translation.{guard_of, rules_of}

abbrev pub HoldsWhereSelected : LabelTree → Statement → Type 0
HoldsWhereSelected t s = (v : List ℕ) → Holds t v (guard_of s) ↔ Selected t s v

pub record AsRules (t : LabelTree) (stmts : List Statement) (after : LabelTree) : Type 0 where
  pub steps : List RuleStep
  pub legal : AreLegal t (rules_of stmts) steps
  pub ends : end_of t (rules_of stmts) steps ≡ after

pub record AsStatements (t : LabelTree) (stmts : List Statement) (after : LabelTree) : Type 0 where
  pub steps : List Step
  pub legal : script.AreLegal t stmts steps
  pub ends : script.end_of t stmts steps ≡ after

-- a statement's step is one step of its rule, but a `Beside` at the root, which changes nothing, is none
pub record AreAlike (t : LabelTree) (stmts : List Statement) : Type 0 where
  pub as_rules : (steps : List Step) → script.AreLegal t stmts steps → AsRules t stmts (script.end_of t stmts steps)
  pub as_statements : (steps : List RuleStep) → AreLegal t (rules_of stmts) steps → AsStatements t stmts (end_of t (rules_of stmts) steps)

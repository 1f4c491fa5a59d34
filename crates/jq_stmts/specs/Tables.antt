-- Statements and selectors whose atoms stand in a table of n names.
use Rattle.std.specs.Prelude.{ℕ, ◌<◌, List, [], ◌∷◌, All}
use Rattle.tree_sem.specs.Trees.{LabelTree}
use Rattle.tree_sem.specs.declared.actions.Action.{Action}
use Rattle.tree_sem.specs.declared.actions.Action.TheVariants.{Classes, Inside, Beside}
use Rattle.sel_text.specs.Selectors.{Outer, Selector}
use Rattle.jq_stmts.specs.Statements.{Root, matched, this, Call, find, children, parent, parents, filter, has, around, near, add, back, Chain, Statement}
use Rattle.tree_sem.specs.Nodes.{IsTreeOver}

module _ (n : ℕ) where
  abbrev pub AreAtoms : List ℕ → Type 0
  AreAtoms atoms = All (λ a. a < n) atoms

  abbrev pub AreCompoundsOver : List (List ℕ) → Type 0
  AreCompoundsOver [] = Unit {0}
  AreCompoundsOver (c ∷ cs) = AreAtoms c × AreCompoundsOver cs

  abbrev pub AreOutersOver : List Outer → Type 0
  AreOutersOver [] = Unit {0}
  AreOutersOver (o ∷ outer) = AreAtoms o.atoms × AreOutersOver outer

  abbrev pub IsSelectorOver : Selector → Type 0
  IsSelectorOver s = AreAtoms s.subject × AreOutersOver s.outer

  abbrev pub AreSelectorsOver : List Selector → Type 0
  AreSelectorsOver [] = Unit {0}
  AreSelectorsOver (s ∷ ss) = IsSelectorOver s × AreSelectorsOver ss

  abbrev pub IsRootOver : Root → Type 0
  IsRootOver (matched ss) = AreSelectorsOver ss
  IsRootOver this = Unit {0}

  abbrev pub IsCallOver : Call → Type 0
  IsCallOver (find cs) = AreCompoundsOver cs
  IsCallOver (children cs) = AreCompoundsOver cs
  IsCallOver (parent cs) = AreCompoundsOver cs
  IsCallOver (parents cs) = AreCompoundsOver cs
  IsCallOver (filter cs) = AreCompoundsOver cs
  IsCallOver (has cs) = AreCompoundsOver cs
  IsCallOver (around cs) = AreCompoundsOver cs
  IsCallOver (near cs) = AreCompoundsOver cs
  IsCallOver (add ss) = AreSelectorsOver ss
  IsCallOver back = Unit {0}

  abbrev pub AreCallsOver : List Call → Type 0
  AreCallsOver [] = Unit {0}
  AreCallsOver (c ∷ calls) = IsCallOver c × AreCallsOver calls

  abbrev pub IsChainOver : Chain → Type 0
  IsChainOver c = IsRootOver c.root × AreCallsOver c.calls

  abbrev pub AreChainsOver : List Chain → Type 0
  AreChainsOver [] = Unit {0}
  AreChainsOver (c ∷ chains) = IsChainOver c × AreChainsOver chains

  abbrev pub AreTreesOver : List LabelTree → Type 0
  AreTreesOver [] = Unit {0}
  AreTreesOver (t ∷ trees) = IsTreeOver n t × AreTreesOver trees

  abbrev pub IsActionOver : Action → Type 0
  IsActionOver (Classes classes) = AreAtoms classes
  IsActionOver (Inside forest) = AreTreesOver forest.tops
  IsActionOver (Beside forest) = AreTreesOver forest.tops

  abbrev pub IsStatementOver : Statement → Type 0
  IsStatementOver s = AreChainsOver s.handlers × IsChainOver s.chain × IsActionOver s.action

  abbrev pub AreStatementsOver : List Statement → Type 0
  AreStatementsOver [] = Unit {0}
  AreStatementsOver (s ∷ stmts) = IsStatementOver s × AreStatementsOver stmts

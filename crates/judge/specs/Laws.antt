-- Laws of right answers.
--     HasOneAnswer     a goal has one right answer
--     HasOneForGuard   an answer that is right for a goal is right for each other goal with the same guard
--     EnginesAgree     the answers depend neither on the engine nor on its budget
use Rattle.std.specs.Prelude.{◌≡◌, ℕ, List, map}
use Rattle.tree_sem.specs.Trees.{LabelTree}
use Rattle.jq_stmts.specs.Statements.{Statement}
use Rattle.css_read.specs.Sheets.{Item}
use Rattle.usage_report.specs.Answers.{Answer}
use Rattle.limits.specs.declared.budgets.Limits.{Limits}
use Rattle.guard_sem.specs.Guards.{Guard}
use Rattle.judge.specs.Answers.{IsAnswerFor, AreAnswers, AreAnswersFor}
use Rattle.judge.specs.Goals.{Goal, goal_guard, holding}
use Rattle.judge.specs.Outcomes.{guards_in}

abbrev pub HasOneAnswer : Type 0
HasOneAnswer = (stmts : List Statement) (guards : List Guard) (n : ℕ) (page : LabelTree) (limits : Limits) (g : Goal) (a b : Answer)
    → IsAnswerFor stmts guards n page limits g a → IsAnswerFor stmts guards n page limits g b → a ≡ b

abbrev pub HasOneForGuard : Type 0
HasOneForGuard = (stmts : List Statement) (guards : List Guard) (n : ℕ) (page : LabelTree) (limits : Limits) (g h : Goal) → goal_guard g ≡ goal_guard h
    → (a : Answer) → IsAnswerFor stmts guards n page limits g a → IsAnswerFor stmts guards n page limits h a

-- Both limits have the same bounds on a proof and on a list. The engines and their budgets may differ, where each budget suffices: an
-- answer `spent` is right for no goal.
abbrev pub EnginesAgree : Type 0
EnginesAgree = (stmts : List Statement) (items : List Item) (extra : List Guard) (n : ℕ) (page : LabelTree) (limits other : Limits)
    → limits.entries ≡ other.entries → limits.list ≡ other.list → (answers others : List Answer)
    → (AreAnswers stmts (guards_in items extra) n page limits items answers → AreAnswers stmts (guards_in items extra) n page other items others → answers ≡ others)
    × (AreAnswersFor stmts (guards_in items extra) n page limits (map holding extra) answers
    → AreAnswersFor stmts (guards_in items extra) n page other (map holding extra) others → answers ≡ others)

-- Questions, and the grounds from which their answers are read.
--     MayBeAsked s page limits      proofs over the system can be made for the page, within these limits
--     IsAnswerable question         proofs can be made for the question's system, page and limits
--     AreAnswersTo question plain   right answers to the question, by a table of pairs or by diagrams
--     IsSaidOn ground a answer      a right answer for an atom, by the closed page of the ground
--     IsReady .. ground             proofs can be made on the ground
use Rattle.std.specs.Prelude.{◌≡◌, ℕ, ◌≤◌, Bool, List}
use Rattle.tree_sem.specs.Trees.{LabelTree}
use Rattle.usage_report.specs.Answers.{Answer}
use Rattle.limits.specs.declared.budgets.Limits.{Limits}
use Rattle.limits.specs.declared.budgets.TheConstants.{MOST_BRANCHES}
use Rattle.simple_core.specs.declared.system.System.{System}
use Rattle.simple_core.specs.Systems.{IsSound}
use Rattle.simple_core.specs.Pairs.{Pair, Asked}
use Rattle.simple_core.specs.Givers.{AreAllGivers}
use Rattle.closed_page.specs.ClosedPages.{IsClosedPage}
use Rattle.proof_maker.specs.Forests.{KeepsForests}
use Rattle.proof_core.specs.declared.unfolded.TheConstants.{MOST_LISTED}
use Rattle.judge.specs.declared.grounds.Question.{Question}
use Rattle.judge.specs.declared.grounds.Ground.{Ground}
use Rattle.judge.specs.BySeen.{IsSaid, AreBySeen}

pub record MayBeAsked (s : System) (page : LabelTree) (limits : Limits) : Type 0 where
  pub sound : IsSound s
  pub forests : KeepsForests s page
  pub list : limits.list ≤ MOST_LISTED
  pub nodes : limits.nodes ≤ MOST_BRANCHES

abbrev pub IsAnswerable : Question → Type 0
IsAnswerable question = MayBeAsked question.made.now.system question.page.now question.limits.now

abbrev pub AreAnswersTo : Question → Bool → List Answer → Type 0
AreAnswersTo question plain answers = AreBySeen plain question.made.now.system question.made.now.seen question.page.now question.limits.now answers

abbrev pub IsSaidOn : Ground → ℕ → Answer → Type 0
IsSaidOn ground a answer = IsSaid ground.system.now ground.page.now ground.limits.now ground.closed.now.labels.label a answer

-- the page is closed by its system, and the summaries were made for that system and know the pairs that the page asks
pub record IsReady (system : System) (known : Pair → Type 0) (ground : Ground) : Type 0 where
  pub made : system ≡ ground.system.now
  pub asked : (q : Pair) → Asked ground.system.now ground.page.now q → known q
  pub sound : IsSound ground.system.now
  pub rules : AreAllGivers ground.system.now ground.rules.now
  pub closed : IsClosedPage ground.system.now ground.page.now ground.closed.now
  pub forests : KeepsForests ground.system.now ground.page.now
  pub list : ground.limits.now.list ≤ MOST_LISTED

-- The tests of verdicts, by a statement's own answer.
use Rattle.std.specs.Prelude.{Bool, true, false, Option, Some}
use Rattle.usage_report.specs.Answers.{Answer, used, unused}
use Rattle.dead_script.specs.Verdicts as dead
use Rattle.treeped_app.specs.Modes.{is_open, is_unused}
use Rattle.treeped_app.specs.declared.statuses.Question.{Question}
use Rattle.treeped_app.specs.declared.statuses.Question.TheVariants.{Open, Dead}

abbrev pub is_so : Question → dead.Verdict → Bool
is_so Open v = dead.is_open v
is_so Dead v = dead.is_dead v

-- whether a statement meets the question, by its own answer; a statement without an answer is open
abbrev pub is_so_of : Question → Option Answer → Bool
is_so_of Dead (Some unused) = true
is_so_of Dead _ = false
is_so_of Open (Some (used proof steps shown)) = false
is_so_of Open (Some unused) = false
is_so_of Open _ = true

-- whether an answer for an item meets the question
abbrev pub is_answer_so : Question → Answer → Bool
is_answer_so Open a = is_open a
is_answer_so Dead a = is_unused a

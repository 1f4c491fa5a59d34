-- A script: the statements of a file.
--     exact_script     as it is read exactly
--     script           without the calls that are sharper than what is judged in their place
use Rattle.std.specs.Prelude.{ℕ, Bool, true, false, List, [], length, Result, Ok, Err}
use Rattle.tp_base.specs.Names.{Named}
use Rattle.js_scan.specs.declared.token.ScanFault.{ScanFault}
use Rattle.js_scan.specs.declared.token.ScanFault.TheVariants as scan
use Rattle.js_scan.specs.Tokens.{script_tokens}
use Rattle.jq_stmts.specs.Sharp.{ExactStatement, wides}
use Rattle.jq_stmts.specs.Statements.{Statement}
use Rattle.jq_words.specs.declared.faults.ScriptFault.TheVariants.{Scan, Memory}
use Rattle.jq_words.specs.declared.faults.TheConstants.{MOST_OPEN}
use Rattle.jq_words.specs.Words.{Word, words, Outcome, ◌>>=◌}
use Rattle.jq_words.specs.Functions.{declared_in}
use Rattle.jq_parts.specs.Markup.{grown}
use Rattle.jq_read.specs.States.{Context, State}
use Rattle.jq_read.specs.Statements.{sequence, block}

abbrev pub from_scan : {A : Type 0} → Result A ScanFault → Outcome A
from_scan (Ok x) = Ok x
from_scan (Err scan.Memory) = Err Memory
from_scan (Err e) = Err (Scan e)

abbrev pub at_top : Bool → List ℕ → List Word → Context
at_top exact text ws = record { exact = exact; text = text; size = length text; declared = declared_in ws; handlers = []; has_this = false }

abbrev pub nothing_read : List Named → State
nothing_read names = record { grown = grown names 0; statements = []; declarations = [] }

-- The statements that the words of a file make, and the names in the table then, or the first fault.
unfoldable pub script_of : Bool → List ℕ → List Word → List Named → Outcome (List ExactStatement × List Named)
script_of exact text ws names = do
  all ← sequence false (block MOST_OPEN) MOST_OPEN (at_top exact text ws) (nothing_read names) 0 ws
  Ok (all.0.statements, all.0.grown.names)

-- those of a file, with the sharp calls or without
unfoldable pub script_with : Bool → List ℕ → List Named → Outcome (List ExactStatement × List Named)
script_with exact text names = do
  ts ← from_scan (script_tokens text)
  script_of exact text (words text ts) names

abbrev pub exact_script : List ℕ → List Named → Outcome (List ExactStatement × List Named)
exact_script text names = script_with true text names

-- where no call is sharp, the statements are those that are judged
unfoldable pub script : List ℕ → List Named → Outcome (List Statement × List Named)
script text names = do
  read ← script_with false text names
  Ok (wides read.0, read.1)

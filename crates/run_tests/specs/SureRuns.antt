-- What is known of a run where nothing fails, and of one whose standard error has its room from the start.
--     IsSure r err s         nothing failed, so that the status is that of the answers, or memory wanted
--     IsHeard s text         a run that ends for want of memory or at a failed write says so, while there is room
use Rattle.std.specs.Prelude.{◌≡◌, ◌≢◌, ◌⊎◌, ℕ, List, ◌++◌, length, Contains, Some}
use Rattle.tp_io.specs.MemoryFiles.{SureContents, held_or_none, sure_loads}
use Rattle.run_ends.specs.declared.status.Status.{Status}
use Rattle.run_ends.specs.declared.status.Status.TheVariants as status
use Rattle.run_ends.specs.declared.stops.Stop.TheVariants.{WriteFault, NoMemory}
use Rattle.run_ends.specs.Stops.{line_of}
use Rattle.run_ends.specs.Tells.{Put, put_of}
use Rattle.treeped_app.specs.Modes.{IsOverBudget}
use Rattle.treeped_app.specs.Tasks.{Visit, visits, Task, command}
use Rattle.treeped_app.specs.Runs.{Run, run_of}
use Rattle.treeped_app.specs.Commands.{Reports, Headline, IsEnded, AreWell, IsInDoubt}
use Rattle.run_tests.specs.declared.room_sink.TheConstants.{ROOM}

-- what a sink got that keeps all
abbrev pub sure_put : List ℕ → List ℕ → Put
sure_put held held' = put_of (Some held) (Some held') 0 0

-- the run with these words over files that never fail
abbrev pub sure_run : List (List ℕ) → SureContents → SureContents → Put → Run
sure_run words files files' out = run_of (λ name. Some (held_or_none files.contents name)) words (sure_loads files.loaded) (sure_loads files'.loaded) out

-- What a run promises of its status and its report, and that it ends with one, or for want of memory, where the words are of the command's
-- form, the texts are read and can be judged. Within the budgets it leaves a line open only where a sharp call leaves it in doubt.
pub record IsSure (r : Run) (err : Put) (s : Status) : Type 0 where
  pub headline : Headline r s
  pub ended : IsEnded r err s
  pub read : s ≢ status.ReadFault
  pub written : s ≢ status.WriteFault
  pub completes : (t : Task) → command r.words ≡ Some t → AreWell r.told t → Reports s ⊎ (s ≡ status.NoMemory)
  pub decides : (t : Task) → command r.words ≡ Some t → (well : AreWell r.told t) → ((v : Visit) (there : Contains (visits t.source) v) → ¬ IsOverBudget t.mode t.limits (well v there).inputs)
      → (s ≡ status.Complete) ⊎ (s ≡ status.Unused) ⊎ ((s ≡ status.Budget) × IsInDoubt r t) ⊎ (s ≡ status.NoMemory)

-- the text ends with this line
abbrev pub EndsWith : List ℕ → List ℕ → Type 0
EndsWith text line = (before : List ℕ) × (text ≡ before ++ line)

-- no more goes into a sink that has its room from the start
abbrev pub IsFull : List ℕ → Type 0
IsFull text = length text ≡ ROOM

pub record IsHeard (s : Status) (text : List ℕ) : Type 0 where
  pub no_memory : s ≡ status.NoMemory → EndsWith text (line_of NoMemory) ⊎ IsFull text
  pub write_fault : s ≡ status.WriteFault → EndsWith text (line_of WriteFault) ⊎ IsFull text

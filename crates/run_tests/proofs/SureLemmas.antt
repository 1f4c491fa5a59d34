-- Where nothing can fail, what a run promises rests on no premise of faults; and where there is room, a sink that got a line has it.
use Rattle.std.proofs.Common.{◌⊎◌, ℕ, ◌<◌, List, [], Option, None, Some, inl, inr, arith}
use Rattle.tp_io.specs.MemoryFiles.{SureContents}
use Rattle.tp_io.specs.Sinks.{Adds, Rose}
use Rattle.tp_io.proofs.LoadLemmas.{last_load_succeeded}
use Rattle.run_ends.specs.declared.status.Status.{Status}
use Rattle.run_ends.specs.declared.stops.Stop.{Stop}
use Rattle.run_ends.specs.declared.stops.Stop.TheVariants.{WriteFault, NoMemory}
use Rattle.run_ends.specs.Stops.{line_of}
use Rattle.run_ends.specs.Tells.{put_of, SaysWhole, SaysWhy}
use Rattle.treeped_app.specs.Tasks.{Task}
use Rattle.treeped_app.specs.Runs.{Run}
use Rattle.treeped_app.specs.Commands.{Headline, IsEnded, NothingFails, Causes}
use Rattle.run_tests.specs.SureRuns.{sure_put, sure_run, IsSure, EndsWith, IsFull, IsHeard}

never_rose : Rose 0 0 → ⊥
never_rose (inl less) = omega (arith, less)
never_rose (inr most) = omega (arith, most)

neither : Rose 0 0 ⊎ Rose 0 0 → ⊥
neither (inl first) = never_rose first
neither (inr second) = never_rose second

module _ (words : List (List ℕ)) (files files' : SureContents) (out out' err err' : List ℕ) (s : Status) where
  abbrev r : Run
  r = sure_run words files files' (sure_put out out')

  nothing_fails : (t : Task) → NothingFails r t (sure_put err err')
  nothing_fails t = record { loads = λ part at. last_load_succeeded files'.loaded _ at.file.name at.loads; out = never_rose; errors = never_rose }

  pub is_sure : Headline r s → IsEnded r (sure_put err err') s → Causes r (sure_put err err') s → IsSure r (sure_put err err') s
  is_sure headline ended causes = record {
    headline = headline;
    ended = ended;
    read = λ is. let failed = (causes.read_fault is).3 in last_load_succeeded files'.loaded _ failed.file.name failed.loads;
    written = λ is. neither (causes.write_fault is);
    completes = λ t task well. causes.completes t task well (nothing_fails t);
    decides = λ t task well enough. causes.decides t task well enough (nothing_fails t);
  }

-- ---- a sink that has its room

-- what it got ends with the line that was written last
ended_with : (between : Option (List ℕ)) (text line : List ℕ) → Adds between (Some text) line → EndsWith text line
ended_with None text line is = cc
ended_with (Some before) text line is = (before, cc)

is_full : (text : List ℕ) (faults : ℕ) → (0 < faults → IsFull text) → Rose 0 faults → IsFull text
is_full text faults full (inl more) = full more
is_full text faults full (inr most) = full (omega (arith, most))

heard : (stop : Stop) (text : List ℕ) (faults : ℕ) → (0 < faults → IsFull text) → SaysWhole ⊥ stop (put_of (Some []) (Some text) 0 faults) → EndsWith text (line_of stop) ⊎ IsFull text
heard stop text faults full (inl whole) = inl (ended_with whole.0 text (line_of stop) whole.1)
heard stop text faults full (inr (inl rose)) = inr (is_full text faults full rose)
heard stop text faults full (inr (inr never)) = absurd never

pub is_heard : (text : List ℕ) (faults : ℕ) (s : Status) → (0 < faults → IsFull text) → SaysWhy ⊥ (put_of (Some []) (Some text) 0 faults) s → IsHeard s text
is_heard text faults s full why = record {
  no_memory = λ is. heard NoMemory text faults full (why.no_memory is);
  write_fault = λ is. heard WriteFault text faults full (why.write_fault is);
}

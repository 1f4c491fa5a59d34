-- What a sink got of a line, and that nothing is said beside a text.
use Rattle.std.proofs.Common.{◌≡◌, ◌⊎◌, inl, inr, ℕ, if◌then◌else◌, Bool, true, false, List, [], Option, Some, None, Result, Ok, Err, OnOk, OnErr, append-nil}
use Rattle.std.specs.Str.{bytes_eq}
use Rattle.tp_io.specs.Files.{Load}
use Rattle.tp_io.specs.Sinks.{Adds, AddsPrefix}
use Rattle.tp_io.proofs.SinkLemmas.{adds_prefix_of}
use Rattle.widen_sheet.specs.declared.stops.Status.{Status}
use Rattle.widen_sheet.specs.declared.stops.Status.TheVariants as status
use Rattle.widen_sheet.specs.declared.stops.Stop.{Stop}
use Rattle.widen_sheet.specs.declared.words.Way.{Way}
use Rattle.widen_sheet.specs.Command.{answer_of}
use Rattle.widen_sheet.specs.Runs.{Told, WritesAnswer, AnswersLoaded, RunsOrder, Ordered}
use Rattle.widen_sheet.specs.Tells.{Put, SaysWhy}
use Rattle.widen_sheet.specs.Words.{order_of}

-- what was put is a front, whole or cut off
pub either_way : {T E : Type 0} (r : Result T E) (old new : Option (List ℕ)) (xs : List ℕ) → OnOk r (Adds old new xs) → OnErr r (AddsPrefix old new xs) → AddsPrefix old new xs
either_way (Ok x) old new xs whole front = rw append-nil at (adds_prefix_of old new xs [] whole)
either_way (Err e) old new xs whole front = front

-- ---- the status of a text that is written

abbrev IsWritten : Status → Type 0
IsWritten s = (s ≡ status.Same) ⊎ (s ≡ status.Changed)

module _ (out : Put) (s : Status) where
  by_bytes : (b : Bool) → s ≡ (if b then status.Same else status.Changed) → IsWritten s
  by_bytes true is = inl is
  by_bytes false is = inr is

  by_answer : (text : List ℕ) (answer : Result (List ℕ) Stop) → WritesAnswer text answer out (Ok s) → IsWritten s
  by_answer text (Ok written) (is, adds) = by_bytes (bytes_eq written text) is
  by_answer text (Err e) (is, kept) = absurd cc

  by_load : (way : Way) (loaded : Result (List ℕ) Stop) → AnswersLoaded way loaded out (Ok s) → IsWritten s
  by_load way (Ok text) (inl writes) = by_answer text (answer_of way text) writes
  by_load way (Ok text) (inr (is, kept)) = absurd cc
  by_load way (Err e) (is, kept) = absurd cc

  by_order : (told : Told) (o : Option (Way × List ℕ)) (before after : List Load) → RunsOrder told o before after out (Ok s) → IsWritten s
  by_order told None before after (is, none, kept) = absurd cc
  by_order told (Some o) before after (loaded, one, answers) = by_load o.0 loaded answers

  by_words : (told : Told) (words : List (List ℕ)) (before after : List Load) → Ordered told words before after out (Ok s) → IsWritten s
  by_words told words before after (inl runs) = by_order told (order_of words) before after runs
  by_words told words before after (inr (is, none, kept)) = absurd cc

no_write_fault : (s : Status) → IsWritten s → s ≡ status.WriteFault → ⊥
no_write_fault s (inl a) b = cc
no_write_fault s (inr a) b = cc

no_memory_wanted : (s : Status) → IsWritten s → s ≡ status.NoMemory → ⊥
no_memory_wanted s (inl a) b = cc
no_memory_wanted s (inr a) b = cc

pub no_reason : (told : Told) (words : List (List ℕ)) (before after : List Load) (out err : Put) (s : Status) (wants_memory : Type 0) → Ordered told words before after out (Ok s) → SaysWhy wants_memory err s
no_reason told words before after out err s wants_memory ordered =
    let written = by_words out s told words before after ordered in
    record { write_fault = λ is. absurd (no_write_fault s written is); no_memory = λ is. absurd (no_memory_wanted s written is) }

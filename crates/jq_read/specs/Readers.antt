-- What a reader of a script knows at a place, to the definitions.
--     GoesOn      what each call that reads keeps
use Rattle.std.specs.Prelude.{◌≡◌, map, List, Result, OnOk}
use Rattle.sel_text.specs.Results.{IsFront}
use Rattle.jq_words.specs.declared.faults.ScriptFault.{ScriptFault}
use Rattle.jq_words.specs.Words.{Word}
use Rattle.jq_words.specs.Results.{InFile}
use Rattle.jq_parts.specs.Views.{declarations_of}
use Rattle.jq_parts.specs.ScopeViews.{grown_of, handlers_of, stated_in}
use Rattle.jq_read.specs.declared.readings.Reading.{Reading}
use Rattle.jq_read.specs.States.{Context, State}

abbrev pub context_of : Reading → Context
context_of r = record { exact = r.reader.exact; text = r.reader.text.now; size = r.words.size; declared = map (λ k. k.now) r.reader.declared.now; handlers = handlers_of r.scope.handlers.items; has_this = r.scope.has_this }

abbrev pub state_of : Reading → State
state_of r = record { grown = grown_of r.grown; statements = map (stated_in r.reader.text.now) r.statements.items; declarations = declarations_of r.scope.declarations }

-- The words that are left are some of those before, as `Left` says, and what holds at the place is what held. Names that were in the table
-- keep their numbers, behind a refusal too.
pub record GoesOn {X : Type 0} (Left : List Word → List Word → Type 0) (old new : Reading) (result : Result X ScriptFault) : Type 0 where
  pub rest : OnOk result (InFile Left old.words new.words)
  pub kept : OnOk result (context_of new ≡ context_of old)
  pub front : IsFront old.grown.atoms new.grown.atoms

-- The results of readers, as the definitions see them.
use Rattle.std.specs.Prelude.{◌≡◌, ◌≢◌, List, drop, Option, Some, None, Result, Ok, Err}
pub use Rattle.text_bytes.specs.Rests.{IsRest}
use Rattle.tp_base.specs.Outcomes.{GivesUnless}
use Rattle.jq_words.specs.declared.faults.ScriptFault.{ScriptFault}
use Rattle.jq_words.specs.declared.faults.ScriptFault.TheVariants.{Memory}
use Rattle.jq_words.specs.Words.{Word, Rest, Outcome}

-- the result is what is read, seen by the view, unless memory ran out
abbrev pub Gives : {X Y : Type 0} → (X → Y) → Result X ScriptFault → Outcome Y → Type 0
Gives = GivesUnless Memory

-- a call that moves over words leaves those that reading leaves, unless memory ran out
abbrev pub Leaves : {X Y : Type 0} → Y → Result X ScriptFault → Outcome Y → Type 0
Leaves left = Gives (λ _. left)

-- the result, seen by the view, and what is left besides are what is read, unless memory ran out
abbrev pub Finds : {A B Y : Type 0} → (A → B) → Y → Result A ScriptFault → Outcome (B × Y) → Type 0
Finds view left = Gives (λ a. (view a, left))

-- the same where two things are left
abbrev pub Turns : {A B X Y : Type 0} → (A → B) → X → Y → Result A ScriptFault → Outcome (B × X × Y) → Type 0
Turns view x y = Gives (λ a. (view a, x, y))

-- the same where three are
abbrev pub Yields : {A B X Y Z : Type 0} → (A → B) → X → Y → Z → Result A ScriptFault → Outcome (B × X × Y × Z) → Type 0
Yields view x y z = Gives (λ a. (view a, x, y, z))

-- the result is Ok where there is no cause, and else the fault, unless memory ran out
abbrev pub Allows : {X : Type 0} → Option ScriptFault → Result X ScriptFault → Type 0
Allows cause (Ok x) = cause ≡ None
Allows cause (Err e) = e ≢ Memory → cause ≡ Some e

-- the last of the words behind the first
pub record IsBehind (all rest : List Word) : Type 0 where
  pub part : IsRest (drop 1 all) rest

-- In one file the words that are left stand to those before as `Left` says.
pub record InFile (Left : List Word → List Word → Type 0) (before after : Rest) : Type 0 where
  pub left : Left before.words after.words
  pub size : after.size ≡ before.size

-- These words are left: all of them before the first, and behind it some of those behind it.
abbrev pub Began : List Word → Option Word → List Word → Type 0
Began all None rest = rest ≡ all
Began all (Some w) rest = IsBehind all rest

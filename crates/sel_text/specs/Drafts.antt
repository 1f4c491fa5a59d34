-- What a draft of the code is to the definitions, and what calls that enter names and read on do.
--     IsPaired    each finished compound has a join on its right
--     Enters      a name is entered into a table, and has its atom
--     ReadsOn     what stays as the draft reads on
use Rattle.std.specs.Prelude.{◌≡◌, ◌≢◌, ℕ, List, length, Result, OnOk, OnErr, IfErr}
use Rattle.tp_base.specs.Names.{Named, with_name}
use Rattle.sel_text.specs.declared.faults.SelFault.{SelFault}
use Rattle.sel_text.specs.declared.faults.SelFault.TheVariants.{Memory}
use Rattle.sel_text.specs.declared.reading.Draft as code
use Rattle.sel_text.specs.Machine as spec
use Rattle.sel_text.specs.Results.{Gives, IsFront}

abbrev pub draft_of : code.Draft → spec.Draft
draft_of d = record { names = d.names; parts = d.parts.items; joins = d.joins.items; atoms = d.atoms.items; started = d.started }

abbrev pub IsPaired : code.Draft → Type 0
IsPaired d = length d.parts.items ≡ length d.joins.items

-- names that were there keep their numbers, and where this one is refused, none is added
pub record Enters (old : List Named) (name : Named) (new : List Named) (result : Result ℕ SelFault) : Type 0 where
  pub gives : Gives (λ a. (a, new)) result (spec.entered (with_name old name))
  pub front : IsFront old new
  pub same : OnErr result (new ≡ old)

-- names that were there keep their numbers, and a step that is refused adds none
pub record ReadsOn {X : Type 0} (old new : code.Draft) (result : Result X SelFault) : Type 0 where
  pub drops : new.drops ≡ old.drops
  pub to : new.to ≡ old.to
  pub front : IsFront old.names new.names
  pub same : IfErr result (λ e. e ≢ Memory → new.names ≡ old.names)
  pub paired : OnOk result (IsPaired new)

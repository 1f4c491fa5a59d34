-- The result of a call, as the definitions see it.
use Rattle.std.specs.Prelude.{◌≡◌, ◌≢◌, List, Result, Ok, Err}
use Rattle.tp_base.specs.Names.{Named}
use Rattle.tp_base.specs.Outcomes.{ReadsUnless}
use Rattle.css_read.specs.declared.faults.SheetFault.{SheetFault}
use Rattle.css_read.specs.declared.faults.SheetFault.TheVariants.{Memory}

-- the result and the names in the table are those of the definition, unless memory ran out
abbrev pub Reads : {X Y : Type 0} → (X → Y) → Result X SheetFault → List Named → List Named × Result Y SheetFault → Type 0
Reads = ReadsUnless Memory

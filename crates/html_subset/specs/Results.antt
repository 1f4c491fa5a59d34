-- The results of the reader's calls, as the definitions see them.
use Rattle.std.specs.Prelude.{◌≡◌, ◌≢◌, List, Result, Ok, Err}
use Rattle.tp_base.specs.Names.{Named}
pub use Rattle.tp_base.specs.Names.{IsFront}
use Rattle.tp_base.specs.Outcomes.{ReadsUnless}
use Rattle.html_subset.specs.declared.faults.PageFault.{PageFault}
use Rattle.html_subset.specs.declared.faults.PageFault.TheVariants.{Memory}
use Rattle.html_subset.specs.Labels.{Outcome}

-- a call's result, seen by the view, and the names that it leaves are what comes of a step, unless memory ran out
abbrev pub Does : {X Y : Type 0} → (X → Y) → Result X PageFault → List Named → Outcome Y → Type 0
Does view (Ok x) table step = step ≡ Ok (view x)
Does view (Err e) table step = e ≢ Memory → step ≡ Err (e, table)

-- a call's result, and the names that it leaves, are what reading gives, unless memory ran out
abbrev pub Reads : {X Y : Type 0} → (X → Y) → Result X PageFault → List Named → List Named × Result Y PageFault → Type 0
Reads = ReadsUnless Memory

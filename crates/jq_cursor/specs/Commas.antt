-- One more comma among the arguments of open brackets.
use Rattle.std.specs.Prelude.{◌+◌, Option, Some, None, Box}
use Rattle.std.specs.Global.{Global}
use Rattle.jq_cursor.specs.declared.open_lists.Pending.{Pending}

abbrev pub pending_in : Option (Box Pending Global) → Option Pending
pending_in None = None
pending_in (Some b) = Some b.value

abbrev pub with_comma : Option Pending → Option Pending
with_comma None = None
with_comma (Some p) = Some (record p { commas = p.commas + 1 })

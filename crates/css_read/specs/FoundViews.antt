-- The holders that the code has found, as the definitions see them.
use Rattle.std.specs.Prelude.{reverse}
use Rattle.css_read.specs.declared.finding.Found.{Found}
use Rattle.css_read.specs.FoundHolders as spec

abbrev pub found_of : Found → spec.Found
found_of f = record { holders = f.holders.items; owners = f.owners.items; opened = reverse f.opened.items }

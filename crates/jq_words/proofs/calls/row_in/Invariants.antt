use Rattle.std.proofs.Common.{◌≡◌, map, length}
use Rattle.jq_words.specs.Calls.{row_in}
use Rattle.jq_words.specs.CallViews.{row_from}
use Rattle.jq_words.proofs.calls.row_in.Given as goal

abbrev pub invariant-rows : goal.invariant-rows
invariant-rows l = row_in (map row_from l.left) l.name ≡ row_in (map row_from l.table) l.name

abbrev pub decreases-rows : goal.decreases-rows
decreases-rows l = length l.left

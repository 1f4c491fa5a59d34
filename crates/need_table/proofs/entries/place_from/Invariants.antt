use Rattle.std.proofs.Common.{ℕ, length}
use Rattle.need_table.specs.Tables.{AreInOrder, IsPlaceFrom}
use Rattle.need_table.proofs.entries.place_from.Given as goal

abbrev pub invariant-last : goal.invariant-last
invariant-last l = record {
  order : AreInOrder l.rest;
  whole : (m : ℕ) → IsPlaceFrom l.rest l.round m → IsPlaceFrom l.firsts l.round m;
}

abbrev pub decreases-last : goal.decreases-last
decreases-last l = length l.rest

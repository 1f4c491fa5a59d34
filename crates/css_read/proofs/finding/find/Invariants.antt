use Rattle.std.proofs.Common.{◌≡◌, ◌≤◌, ◌<◌, ◌+◌, All, length}
use Rattle.css_read.specs.FoundHolders.{none_found, found_from}
use Rattle.css_read.specs.FoundViews.{found_of}
use Rattle.css_read.specs.Holders.{steps_from, steps_of}
use Rattle.css_read.proofs.finding.find.Given as goal

abbrev pub invariant-steps : goal.invariant-steps
invariant-steps l = record {
  within : length l.found.holders.items + length l.rest ≤ length l.text;
  numbered : All (λ n. n < length l.found.holders.items) l.found.opened.items;
  found : found_from l.text (found_of l.found) (steps_from (length l.text) (length (found_of l.found).opened) 0 l.rest) ≡ found_from l.text none_found (steps_of l.text);
}

abbrev pub decreases-steps : goal.decreases-steps
decreases-steps l = length l.rest

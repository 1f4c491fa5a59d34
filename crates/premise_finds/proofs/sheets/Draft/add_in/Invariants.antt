use Rattle.std.proofs.Common.{◌≡◌, ◌≤◌, ◌++◌, length}
use Rattle.premise_finds.specs.Sheets.{found_in}
use Rattle.premise_finds.proofs.sheets.Draft.add_in.Given as goal

abbrev pub invariant-units : goal.invariant-units
invariant-units l = record {
  within : length l.rest ≤ length l.text;
  found : l.self.found.items ++ found_in l.region l.several l.to l.rest ≡ l.fn.self.found.items ++ found_in l.region l.several l.to l.text;
  size : l.self.size ≡ l.fn.self.size;
  several : l.self.several ≡ l.fn.self.several;
}

abbrev pub decreases-units : goal.decreases-units
decreases-units l = length l.rest

use Rattle.std.proofs.Common.{◌≡◌, drop}
use Rattle.sheet_asks.specs.Asked.{named}
use Rattle.sheet_asks.specs.Putting.{with_all_named}
use Rattle.sheet_asks.proofs.putting.Gathering.put_atoms.Given as goal

abbrev pub invariant-atoms : goal.invariant-atoms
invariant-atoms l = record {
  names : l.self.atoms ≡ l.initial.self.atoms;
  gathers : with_all_named l.self.asked (named l.initial.self.atoms.now (drop l.atom-index l.atoms)) ≡ with_all_named l.initial.self.asked (named l.initial.self.atoms.now l.atoms);
}

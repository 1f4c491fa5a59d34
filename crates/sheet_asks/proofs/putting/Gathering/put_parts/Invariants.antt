use Rattle.std.proofs.Common.{◌≡◌, drop}
use Rattle.sheet_asks.specs.Asked.{named}
use Rattle.sheet_asks.specs.Putting.{parts_atoms, with_all_named}
use Rattle.sheet_asks.proofs.putting.Gathering.put_parts.Given as goal

abbrev pub invariant-parts : goal.invariant-parts
invariant-parts l = record {
  names : l.self.atoms ≡ l.initial.self.atoms;
  gathers : with_all_named l.self.asked (named l.initial.self.atoms.now (parts_atoms (drop l.part-index l.parts))) ≡ with_all_named l.initial.self.asked (named l.initial.self.atoms.now (parts_atoms l.parts));
}

use Rattle.std.proofs.Common.{◌≡◌, drop, map}
use Rattle.css_read.specs.Views.{item_of}
use Rattle.sheet_asks.specs.Asked.{asked_names}
use Rattle.sheet_asks.specs.Putting.{with_all_named}
use Rattle.sheet_asks.proofs.putting.Gathering.put_items.Given as goal

abbrev pub invariant-items : goal.invariant-items
invariant-items l = record {
  names : l.self.atoms ≡ l.initial.self.atoms;
  gathers : with_all_named l.self.asked (asked_names l.initial.self.atoms.now (map item_of (drop l.item-index l.items))) ≡ with_all_named l.initial.self.asked (asked_names l.initial.self.atoms.now (map item_of l.items));
}

use Rattle.std.proofs.Common.{◌≡◌, take, drop}
use Rattle.proof_check.specs.Checks.{are_sound}
use Rattle.proof_check.specs.Firsts.{KnowsOf, KeepsBut}
use Rattle.proof_check.specs.Validity.{in_entry}
use Rattle.proof_check.proofs.EntryLemmas.{after_items}
use Rattle.proof_check.proofs.entry_checks.items_hold.Given as goal

abbrev pub invariant-loop-item : goal.invariant-loop-item
invariant-loop-item l = record {
  so_far : are_sound l.system l.entries (in_entry l.system l.n l.entry) l.entry.items
      ≡ are_sound l.system l.entries (after_items l.system l.entries l.n l.entry (take l.item-index l.item-items)) (drop l.item-index l.item-items);
  here : KnowsOf l.known l.n (take l.item-index l.item-items);
  others : KeepsBut l.n l.fn.known l.known;
}

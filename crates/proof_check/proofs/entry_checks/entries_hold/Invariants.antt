use Rattle.std.proofs.Common.{◌≡◌, ℕ, ◌<◌, ◌≤◌, drop, []}
use Rattle.proof_check.specs.Checks.{entries_hold}
use Rattle.proof_check.specs.Firsts.{KnowsOf, KnowsBelow}
use Rattle.proof_check.proofs.EntryLemmas.{AreRight}
use Rattle.proof_check.proofs.entry_checks.entries_hold.Given as goal

abbrev pub invariant-loop-n : goal.invariant-loop-n
invariant-loop-n l = record {
  so_far : entries_hold l.system l.entries 0 l.entries ≡ entries_hold l.system l.entries l.n (drop l.n l.entries);
  right : AreRight l.system l.entries l.n;
  below : KnowsBelow l.known l.n l.entries;
  empty : (m : ℕ) → l.n ≤ m → KnowsOf l.known m [];
}

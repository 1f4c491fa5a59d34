use Rattle.std.proofs.Common.{◌≡◌, ◌≤◌, ◌<◌, ◌^◌, ℕ, length, IfSome}
use Rattle.class_adding.specs.Filling.{IsBefore}
use Rattle.class_adding.specs.Gifts.{given_by, AreEarly}
use Rattle.class_adding.proofs.gifts.gift_after.Given as goal

abbrev pub invariant-gifts : goal.invariant-gifts
invariant-gifts l = record {
  same : (m : ℕ) → l.k ≤ m → IsBefore m l.wake → given_by m l.rest ≡ given_by l.k l.rest → given_by m l.gifts ≡ given_by l.k l.gifts;
  after : IfSome l.wake (λ r. l.k < r);
  bound : IfSome l.wake (λ r. r < 2 ^ 62);
  early : AreEarly l.rest;
}

abbrev pub decreases-gifts : goal.decreases-gifts
decreases-gifts l = length l.rest

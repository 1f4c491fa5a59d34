use Rattle.std.proofs.Common.{length}
use Rattle.class_adding.proofs.GiftLemmas.{IsGiving}
use Rattle.class_adding.proofs.gifts.gifts_of.Given as goal

abbrev pub invariant-links : goal.invariant-links
invariant-links g l = IsGiving l.system l.kind l.seen l.gifts.items l.rest

abbrev pub decreases-links : goal.decreases-links
decreases-links g l = length l.rest

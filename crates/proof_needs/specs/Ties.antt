-- The numbers of ties that are looked up.
--     TieAt n spot               the spot's tie, if it has one, is among n
--     IsNumbered n c named       the added node of a spawn has a number, whose tie is among n
use Rattle.std.specs.Prelude.{ℕ, ◌<◌, Option, IsSomeAnd}
use Rattle.proof_needs.specs.declared.spots.Spot.{Spot}
use Rattle.proof_needs.specs.declared.spots.Spot.TheVariants.{Page, Added}
use Rattle.proof_needs.specs.declared.needs.Choice.{Choice}
use Rattle.proof_needs.specs.declared.needs.Choice.TheVariants.{Start, Local, Up, Real, Spawn}

abbrev pub TieAt : ℕ → Spot → Type 0
TieAt n (Page i) = Unit {0}
TieAt n (Added i) = i < n

abbrev pub IsNumbered : ℕ → Choice → Option ℕ → Type 0
IsNumbered n Start named = Unit {0}
IsNumbered n (Local l) named = Unit {0}
IsNumbered n (Up l) named = Unit {0}
IsNumbered n (Real l k) named = Unit {0}
IsNumbered n (Spawn l c) named = IsSomeAnd named (λ i. i < n)

abbrev pub IsTieIndex : ℕ → Spot → Choice → Option ℕ → Type 0
IsTieIndex n spot choice named = TieAt n spot × IsNumbered n choice named

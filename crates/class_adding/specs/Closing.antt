-- The contract of closing a page: what it asks of summaries, and what it leaves of them.
--     MayClose S s x          what holds of the summaries x of the rules s before a page is closed
--     Closes S s Q r old new  what closing a page that asks Q made of them, with the result r
use Rattle.std.specs.Prelude.{◌≡◌, ◌↔◌, None, Result, IfSome, IsSome, IsErrOf, OnOk}
use Rattle.simple_core.specs.declared.summaries.GainFault.{GainFault}
use Rattle.simple_core.specs.declared.summaries.GainFault.TheVariants.{Spent}
use Rattle.simple_core.specs.declared.summaries.Summaries.{Ghosts}
use Rattle.simple_core.specs.declared.system.System.{System}
use Rattle.simple_core.specs.Systems.{IsSound}
use Rattle.simple_core.specs.Pairs.{Pair}
use Rattle.simple_core.specs.Knowledge.{KeepsAsking, IsToldBy, TellsAfter, TellsWithin, KeepsRoom}

pub record MayClose {X : Type 0} (S : Ghosts X) (s : System) (x : X) : Type 0 where
  pub sound : IsSound s
  pub made : S.system x ≡ s
  pub lawful : KeepsAsking s (S.known x)
  pub tells : IsToldBy (S.told x) (S.known x)
  pub keeps_room : KeepsRoom s (S.room x) (S.told x) (S.spent_on x)

pub record Closes {X A : Type 0} (S : Ghosts X) (s : System) (Q : Pair → Type 0) (result : Result A GainFault) (old new : X) : Type 0 where
  pub asked : OnOk result ((q : Pair) → Q q → S.known new q)
  pub kept : (q : Pair) → S.known old q → S.known new q
  pub told : OnOk result (TellsAfter s (S.told old) (S.told new) Q)
  pub within : TellsWithin s (S.told old) (S.told new) Q
  pub system : S.system new ≡ S.system old
  pub room : S.room new ≡ S.room old
  pub keeps_room : KeepsRoom s (S.room new) (S.told new) (S.spent_on new)
  pub spent : S.spent_on old ≡ None → (IsErrOf result Spent ↔ IsSome (S.spent_on new))
  pub stays_spent : IsSome (S.spent_on old) → S.spent_on new ≡ S.spent_on old
  pub spent_on : S.spent_on old ≡ None → IfSome (S.spent_on new) Q

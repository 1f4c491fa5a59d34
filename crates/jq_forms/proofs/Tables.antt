-- The tables of the code have the names of the definitions.
use Rattle.std.proofs.Common.{◌≡◌, refl, map}
use Rattle.jq_forms.specs.Openings.{declaring, timers, setting, stepping}
use Rattle.jq_forms.specs.declared.openings.TheConstants.{DECLARING, TIMERS, SETTING, STEPPING}

pub same_declaring : map (λ k. k.now) DECLARING ≡ declaring
same_declaring = refl

pub same_timers : map (λ k. k.now) TIMERS ≡ timers
same_timers = refl

pub same_setting : map (λ k. k.now) SETTING ≡ setting
same_setting = refl

pub same_stepping : map (λ k. k.now) STEPPING ≡ stepping
same_stepping = refl

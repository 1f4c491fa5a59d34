use Rattle.std.proofs.Common.{◌≡◌, Some, ap, ◌∙◌, subst, sym}
use Rattle.proof_maker.specs.declared.worlds.Place.{Place}
use Rattle.proof_maker.specs.declared.worlds.Place.TheVariants.{Added}
use Rattle.proof_maker.specs.Tellings.{AreIdle}
use Rattle.proof_maker.specs.Worlds.{labels_of, HasArrivals}
use Rattle.proof_maker.proofs.worlds.idle_at.Goals as goal

pub returns-in-Some : goal.returns-in-Some
returns-in-Some c = λ s page arrivals.
    let at = c.in-Added in
    let is : c.args.place.now ≡ Added at.field-0 at.field-1 (Some c.in-Some.told) at.field-3 = at.is ∙ ap (λ o. Added at.field-0 at.field-1 o at.field-3) c.in-Some.is in
    subst (λ (p : Place). AreIdle s (labels_of s page p) c.in-Some.told.now.idle) (sym is) (subst (λ (p : Place). HasArrivals s p) is arrivals).idle

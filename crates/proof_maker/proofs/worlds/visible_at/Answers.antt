use Rattle.std.proofs.Common.{◌≡◌, List, ℕ, IfOk, subst, sym, Some, ap, ◌∙◌}
use Rattle.simple_core.specs.Labels.{visible_in}
use Rattle.simple_core.specs.Rounds.{grown}
use Rattle.simple_core.proofs.RoundLemmas.{grown-rises, grown-one_more}
use Rattle.proof_maker.specs.declared.worlds.Place.{Place}
use Rattle.proof_maker.specs.declared.worlds.Place.TheVariants.{Added}
use Rattle.proof_maker.specs.Worlds.{labels_of, HasArrivals}
use Rattle.proof_maker.proofs.ArrivalLemmas.{arrived_by}
use Rattle.proof_maker.proofs.worlds.visible_at.Goals as goal

pub by-requires : goal.by-requires
by-requires g c =
    let at = c.in-Added in
    let is : c.args.place.now ≡ Added at.field-0 at.field-1 (Some c.in-Some.told) at.field-3 = at.is ∙ ap (λ o. Added at.field-0 at.field-1 o at.field-3) c.in-Some.is in
    (subst (λ (p : Place). HasArrivals c.args.world.now.system.now p) is c.requires.arrivals).arrivals.order

pub returns-in-Some : goal.returns-in-Some
returns-in-Some g c =
    let s = c.args.world.now.system.now in
    let page = c.args.world.now.page.now in
    let at = c.in-Added in
    let j = at.field-0 in
    let parent = at.field-1 in
    let is : c.args.place.now ≡ Added j parent (Some c.in-Some.told) at.field-3 = at.is ∙ ap (λ o. Added j parent o at.field-3) c.in-Some.is in
    let told = subst (λ (p : Place). HasArrivals s p) is c.requires.arrivals in
    subst (λ (p : Place). IfOk c.by.result (λ (l : List ℕ). l ≡ visible_in s (labels_of s page p c.args.round))) (sym is)
    (arrived_by s.visible (λ k. grown s k j parent.now) (grown-one_more s j parent.now) c.in-Some.told.now.arrivals told.arrivals.firsts c.args.round (grown-rises s c.args.round j parent.now) c.by.result c.by.ensures.rises c.by.ensures.atoms)

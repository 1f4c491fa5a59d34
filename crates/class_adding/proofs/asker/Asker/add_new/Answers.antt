use Rattle.std.proofs.Common.{◌≡◌, List, ℕ, ◌∙◌, map, Contains, refl, sym, subst}
use Rattle.pair_table.specs.declared.table.Row.{Row}
use Rattle.pair_table.specs.Rows.{pair_of}
use Rattle.simple_core.specs.declared.system.System.{System}
use Rattle.class_adding.specs.declared.gifts.Gift.{Gift}
use Rattle.class_adding.specs.Gifts.{IsGiven, AreGifts}
use Rattle.class_adding.proofs.WentLemmas.{went_rows}
use Rattle.class_adding.proofs.GiftLemmas.{gifts_push, has_given}
use Rattle.class_adding.proofs.asker.Asker.add_new.Goals as goal

pub gifts_of-requires-clause-made : goal.gifts_of-requires-clause-made
gifts_of-requires-clause-made g c = c.ask.ensures.went.ready.made ∙ c.ask.ensures.went.same_system

pub give-requires : goal.give-requires
give-requires g c = record { early = λ x there. c.in_ok-found.ensures.early x (subst (λ (z : List Gift). Contains z x) c.deref.ensures.value there) }

pub push-requires : goal.push-requires
push-requires g c = λ there. c.requires.new
    (subst (λ (z : List (Row (List Gift))). Contains (map pair_of z) (c.args.kind, c.args.seen.now)) c.ask.ensures.rows
    (subst (λ (z : List ℕ). Contains (map pair_of c.ask.new.self.remembered.now) (c.args.kind, z)) c.in_ok-label.ensures there))

pub returns-in_err-push-clause-went : goal.returns-in_err-push-clause-went
returns-in_err-push-clause-went g c =
    let asked = c.ask.new.self in
    went_rows g.S.Summaries (λ q. q ≡ (c.args.kind, c.args.seen.now)) c.args.self.now asked _ c.ask.ensures.went refl refl refl
    (subst (λ (z : List (Row (List Gift))). AreGifts asked.system.now (g.S.Summaries.known asked.sums.now) z) (sym c.in_err-push.ensures.err) c.ask.ensures.went.ready.remembered)

pub returns-clause-given : goal.returns-clause-given
returns-clause-given g c =
    has_given c.args.self.now.system.now c.args.k (g.S.Summaries.known c.ask.new.self.sums.now) c.args.kind c.args.seen.now c.in_ok-found.found.items c.deref.result.now c.in_ok-wake.wake c.args.next.now c.give.new.next c.in_ok-found.ensures
    c.deref.ensures.value c.in_ok-wake.ensures.given c.in_ok-wake.ensures.same c.in_ok-wake.ensures.after c.in_ok-wake.ensures.bound c.in_ok-ask.ensures.known

pub returns-clause-went : goal.returns-clause-went
returns-clause-went g c =
    let asked = c.ask.new.self in
    let s = c.args.self.now.system.now in
    let row : Row (List Gift) = record { kind = c.args.kind; label = c.in_ok-label.label; value = c.new.result } in
    let known = g.S.Summaries.known asked.sums.now in
    let rows : AreGifts s known c.push.new.self =
    gifts_push s known asked.remembered.now c.push.new.self row (subst (λ (z : System). AreGifts z known asked.remembered.now) c.ask.ensures.went.same_system c.ask.ensures.went.ready.remembered) c.in_ok-push.ensures.ok
    (subst (λ (z : List ℕ). known (c.args.kind, z)) (sym c.in_ok-label.ensures) c.in_ok-ask.ensures.known)
    (subst (λ (z : List ℕ). IsGiven s c.args.kind z c.new.result) (sym c.in_ok-label.ensures) (subst (λ (z : List Gift). IsGiven s c.args.kind c.args.seen.now z) (sym c.new.ensures) c.in_ok-found.ensures)) in
    went_rows g.S.Summaries (λ q. q ≡ (c.args.kind, c.args.seen.now)) c.args.self.now asked _ c.ask.ensures.went refl refl refl
    (subst (λ (z : System). AreGifts z known c.push.new.self) (sym c.ask.ensures.went.same_system) rows)

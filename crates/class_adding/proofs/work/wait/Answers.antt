use Rattle.std.proofs.Common.{ℕ, Option, sym, subst}
use Rattle.class_adding.specs.Work.{IsAwaited}
use Rattle.class_adding.proofs.WrittenLemmas.{awaited_some}
use Rattle.class_adding.proofs.work.wait.Goals as goal

pub returns-in_ok-push-in-Some : goal.returns-in_ok-push-in-Some
returns-in_ok-push-in-Some c =
    subst (λ (z : Option ℕ). IsAwaited c.args.awaited.now c.push.new.self c.args.look.now.number z) (sym c.in-Some.is)
    (awaited_some c.args.awaited.now c.push.new.self c.args.look.now.number c.in-Some.round c.in_ok-push-in-Some.ensures.ok)

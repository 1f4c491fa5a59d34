use Rattle.std.proofs.Common.{◌≡◌, find, sym, subst, ◌∙◌}
use Rattle.std.specs.List.{range_with_len}
use Rattle.proof_maker.specs.declared.worlds.Place.{Place}
use Rattle.proof_maker.specs.Worlds.{setting_of, path_of, real_has}
use Rattle.proof_maker.proofs.WorldLemmas.{closed_child}
use Rattle.proof_maker.proofs.choices.real_child.Goals as goal

pub returns-in-Node : goal.returns-in-Node
returns-in-Node g c =
    let w = c.args.world.now in
    subst (λ (p : Place). c.first_child.result ≡ find (real_has w p c.args.round c.args.from) (range_with_len 0 ((setting_of w.system.now w.page.now p).reals (path_of p)))) (sym c.in-Node.is)
    (c.first_child.ensures ∙ closed_child w.system.now w.page.now w.closed.now c.requires.ready.closed c.in-Node.at.now c.args.from c.args.round)

use Rattle.std.proofs.Common.{List, fold, Some, sym, ap, ◌∙◌, arith}
use Rattle.std.proofs.lemmas.Option.{slice_get-get_or, slice_get_past}
use Rattle.simple_core.specs.declared.rules.Spawn.{Spawn}
use Rattle.pushdown_sym.specs.declared.gathering.Child.{Child}
use Rattle.pushdown_sym.specs.Children.{standing_by, with_child}
use Rattle.pushdown_sym.proofs.GiverLemmas.{of_place-at, of_place-past}
use Rattle.pushdown_sym.proofs.gathering.Children.add_spawn_at.Goals as goal

pub returns-in_ok-add_standing : goal.returns-in_ok-add_standing
returns-in_ok-add_standing c =
    let r = c.index-spawns-place in
    c.in_ok-add_standing.ensures ∙ ap (λ (cs : List Child). fold with_child c.args.self.now cs)
    (sym (of_place-at (standing_by c.args.now.now c.args.link.now) c.args.spawns.now c.args.place r.result
    (slice_get-get_or c.args.spawns.now c.args.place r.result (omega (arith, c.if-place-spawns.true)) ∙ ap (λ (x : Spawn). Some x) (sym r.is))))

pub returns-else-place-spawns : goal.returns-else-place-spawns
returns-else-place-spawns c =
    ap (λ (cs : List Child). fold with_child c.args.self.now cs)
    (sym (of_place-past (standing_by c.args.now.now c.args.link.now) c.args.spawns.now c.args.place (slice_get_past c.args.spawns.now c.args.place (omega (arith, c.if-place-spawns.false)))))

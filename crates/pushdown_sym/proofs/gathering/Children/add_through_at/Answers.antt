use Rattle.std.proofs.Common.{List, fold, Some, sym, ap, ◌∙◌, arith}
use Rattle.std.proofs.lemmas.Option.{slice_get-get_or, slice_get_past}
use Rattle.simple_core.specs.declared.rules.Link.{Link}
use Rattle.pushdown_sym.specs.declared.gathering.Child.{Child}
use Rattle.pushdown_sym.specs.Children.{standing_at, with_child}
use Rattle.pushdown_sym.proofs.GiverLemmas.{of_place-at, of_place-past}
use Rattle.pushdown_sym.proofs.gathering.Children.add_through_at.Goals as goal

pub returns-in_ok-add_spawns : goal.returns-in_ok-add_spawns
returns-in_ok-add_spawns c =
    let r = c.index-links-place in
    c.in_ok-add_spawns.ensures ∙ ap (λ (cs : List Child). fold with_child c.args.self.now cs)
    (sym (of_place-at (standing_at c.args.now.now c.args.rules.0.now c.args.rules.1.now) c.args.links.now c.args.place r.result
    (slice_get-get_or c.args.links.now c.args.place r.result (omega (arith, c.if-place-links.true)) ∙ ap (λ (x : Link). Some x) (sym r.is))))

pub returns-else-place-links : goal.returns-else-place-links
returns-else-place-links c =
    ap (λ (cs : List Child). fold with_child c.args.self.now cs)
    (sym (of_place-past (standing_at c.args.now.now c.args.rules.0.now c.args.rules.1.now) c.args.links.now c.args.place (slice_get_past c.args.links.now c.args.place (omega (arith, c.if-place-links.false)))))

use Rattle.std.proofs.Common.{List, Some, Ok, subst, sym, ap, ◌∙◌, arith}
use Rattle.std.proofs.lemmas.Option.{slice_get-get_or, slice_get_past}
use Rattle.simple_core.specs.declared.rules.Link.{Link}
use Rattle.pushdown_sym.specs.Terms.{Term}
use Rattle.pushdown_sym.specs.Adding.{Adds, of_up}
use Rattle.pushdown_sym.proofs.AddLemmas.{nothing_added}
use Rattle.pushdown_sym.proofs.GiverLemmas.{of_place-at, of_place-past}
use Rattle.pushdown_sym.proofs.links.add_up_at.Goals as goal

pub returns-then-place-links : goal.returns-then-place-links
returns-then-place-links c =
    let r = c.index-links-place in
    subst (λ (ts : List Term). Adds c.args.d.now c.add_up.new.d c.args.sofar ts c.add_up.result)
    (sym (of_place-at (of_up c.args.atom) c.args.links.now c.args.place r.result
    (slice_get-get_or c.args.links.now c.args.place r.result (omega (arith, c.if-place-links.true)) ∙ ap (λ (x : Link). Some x) (sym r.is))))
    c.add_up.ensures

pub returns-else-place-links : goal.returns-else-place-links
returns-else-place-links c =
    subst (λ (ts : List Term). Adds c.args.d.now c.args.d.now c.args.sofar ts (Ok c.args.sofar))
    (sym (of_place-past (of_up c.args.atom) c.args.links.now c.args.place (slice_get_past c.args.links.now c.args.place (omega (arith, c.if-place-links.false)))))
    (nothing_added c.args.d.now c.args.sofar c.requires.arena c.requires.sofar)

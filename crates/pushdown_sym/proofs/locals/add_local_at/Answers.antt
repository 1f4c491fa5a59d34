use Rattle.std.proofs.Common.{List, Some, Ok, subst, sym, ap, ◌∙◌, arith}
use Rattle.std.proofs.lemmas.Option.{slice_get-get_or, slice_get_past}
use Rattle.pushdown_sym.specs.CellMap.{trees_in}
use Rattle.simple_core.specs.declared.rules.Local.{Local}
use Rattle.pushdown_sym.specs.Terms.{Term}
use Rattle.pushdown_sym.specs.Adding.{Adds, of_local}
use Rattle.pushdown_sym.proofs.AddLemmas.{nothing_added}
use Rattle.pushdown_sym.proofs.GiverLemmas.{of_place-at, of_place-past}
use Rattle.pushdown_sym.proofs.locals.add_local_at.Goals as goal

pub returns-then-place-rules : goal.returns-then-place-rules
returns-then-place-rules c =
    let r = c.index-rules-place in
    subst (λ (ts : List Term). Adds c.args.d.now c.add_local.new.d c.args.sofar ts c.add_local.result)
    (sym (of_place-at (of_local (trees_in c.args.d.now.branches c.args.now.now) c.args.kind c.args.atom) c.args.rules.now c.args.place r.result
    (slice_get-get_or c.args.rules.now c.args.place r.result (omega (arith, c.if-place-rules.true)) ∙ ap (λ (x : Local). Some x) (sym r.is))))
    c.add_local.ensures

pub returns-else-place-rules : goal.returns-else-place-rules
returns-else-place-rules c =
    subst (λ (ts : List Term). Adds c.args.d.now c.args.d.now c.args.sofar ts (Ok c.args.sofar))
    (sym (of_place-past (of_local (trees_in c.args.d.now.branches c.args.now.now) c.args.kind c.args.atom) c.args.rules.now c.args.place (slice_get_past c.args.rules.now c.args.place (omega (arith, c.if-place-rules.false)))))
    (nothing_added c.args.d.now c.args.sofar c.requires.arena c.requires.sofar)

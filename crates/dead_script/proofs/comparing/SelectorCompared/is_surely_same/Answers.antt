use Rattle.std.proofs.Common.{true, refl}
use Rattle.std.proofs.lemmas.Slice.Eq.{slice_eq-Decides}
use Rattle.dead_script.proofs.ComparingLemmas.{joins_decided, selectors_same}
use Rattle.dead_script.proofs.comparing.SelectorCompared.is_surely_same.Goals as goal

pub returns-then-eq : goal.returns-then-eq
returns-then-eq c = λ yes.
    let joins = (slice_eq-Decides joins_decided c.args.self.now.joins c.args.other.now.joins true (rw (c.items.ensures, c.items-2.ensures) at c.if-eq.ensures)).0 refl in
    let parts = c.all_same.ensures yes in
    selectors_same c.args.self.now.parts c.args.other.now.parts c.args.self.now.joins c.args.other.now.joins joins (rw (c.items-then-eq.ensures, c.items-then-eq-2.ensures) at parts)

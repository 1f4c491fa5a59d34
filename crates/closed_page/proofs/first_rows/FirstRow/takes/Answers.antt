use Rattle.std.proofs.Common.{◌-◌, List, sym, subst, set, arith}
use Rattle.closed_page.specs.declared.first_rows.Run.{Run}
use Rattle.closed_page.specs.Runs.{start_of, IsPutIn, AllEndBy, AreOrdered}
use Rattle.closed_page.proofs.RunLemmas.{with_put}
use Rattle.closed_page.proofs.first_rows.FirstRow.takes.Goals as goal

pub returns-in-Some-clause-taken : goal.returns-in-Some-clause-taken
returns-in-Some-clause-taken c = λ yes.
    let n = c.self.inside.items.items in
    subst (λ (z : List Run). IsPutIn z (set n (c.len-count.result - 1) c.in-Some.run') c.args.kids) c.self.view_is
    (with_put n (c.len-count.result - 1) (omega (arith, c.len-count.ensures, c.if-count-eq0.false)) c.index-last.result.now c.in-Some.run' c.index-last.ensures c.args.kids
    (subst (λ (z : List Run). AreOrdered z) (sym c.self.view_is) c.requires.ordered) (subst (λ (z : List Run). AllEndBy z (start_of c.args.kids)) (sym c.self.view_is) c.requires.ends) c.requires.filled c.in-Some.ensures)

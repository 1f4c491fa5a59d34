use Rattle.std.proofs.Common.{◌≡◌, sym, subst}
use Rattle.simple_core.specs.declared.system.System.{System}
use Rattle.pushdown_sym.specs.CellMap.{Entries, place_in}
use Rattle.pushdown_sym.specs.Adding.{AreIn}
use Rattle.pushdown_sym.proofs.rounds.Round.next.Goals as goal

pub next_through-requires-clause-inside : goal.next_through-requires-clause-inside
next_through-requires-clause-inside c = subst (λ (p : System × Entries). AreIn c.args.d.now.branches p.1) (sym c.self.view_is) c.requires.inside

pub next_kept-requires-clause-inside : goal.next_kept-requires-clause-inside
next_kept-requires-clause-inside c = subst (λ (p : System × Entries). AreIn c.args.d.now.branches p.1) (sym c.self.view_is) c.requires.inside

pub next_through-requires-clause-start : goal.next_through-requires-clause-start
next_through-requires-clause-start c = subst (λ (p : System × Entries). c.args.cell.2 ≡ place_in p.1 c.args.cell.0 c.args.cell.1) (sym c.self.view_is) c.requires.start

pub next_kept-requires-clause-start : goal.next_kept-requires-clause-start
next_kept-requires-clause-start c = subst (λ (p : System × Entries). c.args.cell.2 ≡ place_in p.1 c.args.cell.0 c.args.cell.1) (sym c.self.view_is) c.requires.start

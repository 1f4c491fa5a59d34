use Rattle.std.proofs.Common.{◌≡◌, ◌==◌, [], sym, subst, ◌∙◌}
use Rattle.simple_core.specs.declared.rules.Link.{Link}
use Rattle.simple_core.specs.declared.system.System.{System}
use Rattle.simple_core.specs.Givers.{places_from}
use Rattle.pushdown_sym.proofs.ChildLemmas.{no_place}
use Rattle.pushdown_sym.proofs.equations.Equations.is_given_below.Goals as goal

pub returns-clause-none : goal.returns-clause-none
returns-clause-none c = λ none.
    subst (λ (s : System). places_from (λ (l : Link). l.to == c.args.atom) 0 s.down ≡ []) c.self.view_is
    (sym (c.of-places.ensures ∙ c.self.invariant.0.downs c.args.atom) ∙ no_place c.of-places.result.now none)

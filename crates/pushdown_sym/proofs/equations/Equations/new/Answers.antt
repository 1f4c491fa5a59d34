use Rattle.std.proofs.Common.{List, ◌∙◌, sym, ap, subst}
use Rattle.simple_core.specs.declared.rules.Spawn.{Spawn}
use Rattle.simple_core.specs.declared.system.System.{System}
use Rattle.simple_core.specs.Givers.{AreAllGivers}
use Rattle.pushdown_sym.specs.Givers.{AreMakers}
use Rattle.pushdown_sym.proofs.equations.Equations.new.Goals as goal

pub invariant_of-result : goal.invariant_of-result
invariant_of-result c = (
  subst (λ (s : System). AreAllGivers s c.in_ok-of.field-0) (sym c.in_ok-copy.ensures) c.in_ok-of.ensures,
  subst (λ (spawns : List Spawn). AreMakers spawns c.in_ok-of_spawns.field-0)
      (c.items.ensures ∙ sym (ap (λ (s : System). s.child) c.in_ok-copy.ensures)) c.in_ok-of_spawns.ensures,
)

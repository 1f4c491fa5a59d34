use Rattle.std.proofs.Common.{◌≡◌, [], ◌∷◌, length}
use Rattle.std.specs.List.{flat_map}
use Rattle.std.specs.List.Sorted.{IsStrictlyIncreasing}
use Rattle.tp_base.specs.Classes.{union_of}
use Rattle.simple_core.specs.Labels.{given_by_links}
use Rattle.simple_core.specs.declared.summaries.First.{First}
use Rattle.need_table.proofs.gaining.add_firsts.Given as goal

abbrev pub invariant-firsts : goal.invariant-firsts
invariant-firsts l = record {
  rises : IsStrictlyIncreasing l.next;
  given : union_of l.next (flat_map (λ (f : First). given_by_links l.system.down (f.atom ∷ [])) l.rest) ≡ union_of l.initial.next (flat_map (λ (f : First). given_by_links l.system.down (f.atom ∷ [])) l.firsts);
}

abbrev pub decreases-firsts : goal.decreases-firsts
decreases-firsts l = length l.rest
